-- `record32::decode` meets its contract. Assumes nothing.
use mathlib.Core.Path.{sym, subst, ◌∙◌}
use Prim.Native.Nat.{◌^◌, ◌<◌}
use native.Mathlib.Omega.{arith}
use Rattle.util_defs.specs.Refusal.{Meets}
use Rattle.layout.specs.View.{layout_says}
use Rattle.words.specs.Bytes.{word_at}
use Rattle.words.proofs.LittleEndian.{part_below}
use Rattle.record_defs.specs.Record.{words_at, record_causes, Decodes}
use Rattle.record32.proofs.Narrowed.{decoded_fitted}
use Rattle.record32.proofs.decode.Goals as goal

pub returns : goal.returns
returns c =
    let s = c.args.s.now in
    let b : word_at s 0 < 2 ^ 64 = omega (arith, part_below 8 s 0 (λ i. (c.shared_slice_known-1.given i).fits)) in
    let t = decoded_fitted 32 s b (layout_says c.decode.result) c.decode.ensures.own c.decode.ensures.meaning in
    record { answer = c.fitting.ensures ∙ t.0; meaning = subst (Meets (record_causes 32 s) (Decodes (words_at s 0))) (sym (c.fitting.ensures)) t.1 }
