-- `moves::ToShortRecordMove::write` meets its contract. Assumes nothing.
use mathlib.Core.Path.{◌≡◌, ◌∙◌}
use Prim.Native.Nat.{ℕ, ◌+◌, ◌-◌, ◌*◌, ◌%◌, ◌≤◌}
use native.Mathlib.Omega.{arith}
use lib.Count.{count_leading_zeros}
use Rattle.words.specs.Bytes.{word_at}
use Rattle.words.proofs.LittleEndian.{read_within}
use Rattle.record_defs.specs.Record.{words_at}
use Rattle.short_defs.proofs.Records.{to_short_lem}
use Rattle.short_defs.proofs.Told.{writes_short, accepted_power}
use Rattle.moves.proofs.ToShortRecordMove.write.Goals as goal

-- nothing wraps where the numbers are those of a record that was accepted
unwrapped : (lead kind word : ℕ) → lead ≤ 63 → kind ≤ 7 → word ≤ 4294967295
    → (word + ((63 + (4294967296 - lead)) % 4294967296 + kind * 256 % 18446744073709551616) % 18446744073709551616 * 4294967296 % 18446744073709551616) % 18446744073709551616
    ≡ word + 4294967296 * (63 - lead + 256 * kind)
unwrapped lead kind word l k w = omega arith

pub returns : goal.returns
returns c h =
    let s = c.args.s.now in
    let p = accepted_power s h.1 in
    let t = to_short_lem (words_at s 0) h.1 in
    cc (writes_short s c.args.out.now (λ i. (c.shared_slice_known-1.given i).fits) h.0.1 h.1 p.1, unwrapped (count_leading_zeros 64 (word_at s 0)) (word_at s 8) (word_at s 40) p.0 t.kind (omega (arith, t.word)), c.read_word.ensures ∙ read_within s 0 (omega (arith, h.0.0)), c.read_word-word.ensures ∙ read_within s 40 (omega (arith, h.0.0)), c.read_word-2.ensures ∙ read_within s 8 (omega (arith, h.0.0)), c.read_word-3.ensures ∙ read_within s 16 (omega (arith, h.0.0)), c.read_word-4.ensures ∙ read_within s 24 (omega (arith, h.0.0)), c.read_word-5.ensures ∙ read_within s 32 (omega (arith, h.0.0)))
