-- `recorded::room_from` meets its contract. Assumes nothing.
use mathlib.Core.Path.{◌≡◌, refl, sym, ap, ◌∙◌}
use mathlib.Core.List.{List}
use Prim.Native.Nat.{ℕ, ◌+◌, ◌-◌, ◌*◌, ◌<◌}
use native.Mathlib.Omega.{arith}
use lib.ListN.{get_or, length-replicate, replicate, take, drop}
use lib.Seq.{get_or-take, get_or-drop}
use Rattle.std.proofs.lemmas.List.Edits.{sets}
use Rattle.words.specs.Bytes.{put_into}
use Rattle.words.proofs.LittleEndian.{put_next, sets_whole}
use Rattle.recorded_defs.specs.Lines.{bytes_from}
use Rattle.recorded_defs.proofs.Reading.{bytes_on, bytes_length}
use Rattle.recorded.proofs.room_from.Goals as goal

pub loop-k-init : goal.loop-k-init
unfolding bytes_from
loop-k-init c = refl

pub loop-k-preserved : goal.loop-k-preserved
loop-k-preserved c =
    let ns = c.args.line.now in
    let from = c.args.from in
    let k = c.loop-k.k in
    let v = get_or ns (from + k) 0 in
    let below : k < from + 48 - from = omega (arith, c.loop-k-test.true) in
    let read : get_or (take (from + 48 - from) (drop from ns)) k 0 ≡ v = get_or-take (from + 48 - from) (drop from ns) k 0 below ∙ get_or-drop from ns k 0 in
    c.put_word.ensures ∙ ap (put_into c.loop-k.bytes (k * 8)) read ∙ ap (λ (b : List ℕ). put_into b (k * 8) v) c.loop-k.invariant
    ∙ put_next (bytes_from k ns from) (replicate 384 0) 0 (k * 8) (k * 8) v (bytes_length k from ns) (omega arith) (omega (arith, c.loop-k-test.true, length-replicate {A = ℕ} 384 0))
    ∙ ap (sets (replicate 384 0) 0) (sym (bytes_on k from ns))

pub returns : goal.returns
returns c =
    let ns = c.args.line.now in
    let from = c.args.from in
    let e : c.loop-k.k ≡ 48 = omega (arith, c.loop-k-test.false, c.loop-k.auto.k-end) in
    c.loop-k.invariant ∙ ap (λ (k : ℕ). sets (replicate 384 0) 0 (bytes_from k ns from)) e
    ∙ sets_whole (bytes_from 48 ns from) (replicate 384 0) (omega (arith, bytes_length 48 from ns, length-replicate {A = ℕ} 384 0))
