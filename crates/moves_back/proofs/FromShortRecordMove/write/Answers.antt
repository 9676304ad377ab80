-- `moves_back::FromShortRecordMove::write` meets its contract. Assumes nothing.
use mathlib.Core.Path.{◌≡◌, ◌∙◌}
use Prim.Native.Nat.{◌/◌, ◌%◌}
use native.Mathlib.Omega.{arith}
use Rattle.words.specs.Bytes.{word_at}
use Rattle.words.proofs.LittleEndian.{read_within}
use Rattle.short_defs.specs.Short.{short_at}
use Rattle.short_defs.proofs.Records.{from_short_lem}
use Rattle.short_defs.proofs.Told.{last_read, writes_record}
use Rattle.moves_back.proofs.FromShortRecordMove.write.Goals as goal

pub returns : goal.returns
returns c h =
    let s = c.args.s.now in
    let z = last_read s (λ i. (c.shared_slice_known-1.given i).fits) (omega (arith, h.0.0)) in
    let k : word_at s 24 / 4294967296 % 256 % 64 ≡ word_at s 24 / 4294967296 % 256 = omega (arith, z.power, (from_short_lem (short_at s 0) h.1).power) in
    cc (writes_record s c.args.out.now (λ i. (c.shared_slice_known-1.given i).fits) h.0.0 h.0.1 h.1, k, c.wrapping_shl.ensures, c.read_word-last.ensures ∙ read_within s 24 (omega (arith, h.0.0)), c.read_word.ensures ∙ read_within s 0 (omega (arith, h.0.0)), c.read_word-2.ensures ∙ read_within s 8 (omega (arith, h.0.0)), c.read_word-3.ensures ∙ read_within s 16 (omega (arith, h.0.0)))
