-- `needs::trailing_padding` meets its contract. Assumes nothing.
use mathlib.Core.Path.{◌≡◌, sym, ap, ◌∙◌}
use mathlib.Core.Bool.{not}
use Prim.Native.Nat.{ℕ, ◌%◌}
use native.Mathlib.Omega.{arith}
use lib.Dec.{eqb}
use borrow.Author.Tests.{eq-eqb, ne_eqb, le-ltb, lt-ltb}
use Rattle.util_defs.specs.Refusal.{answered}
use Rattle.util_defs.specs.Width.{M}
use Rattle.rounding.specs.Word.{align_of}
use Rattle.rounding.proofs.Words.{align_is}
use Rattle.trailing_defs.specs.Size.{size_at}
use Rattle.trailing.specs.View.{trailing_of}
use Rattle.trailing.specs.declared.TrailingSliceLayout.{TrailingSliceLayout}
use Rattle.trailing.proofs.Told.{decoded_told, decoded_refused, size_told, size_not}
use Rattle.needs.proofs.trailing_padding.Goals as goal

pub returns-in_default : goal.returns-in_default
returns-in_default c =
    let t = trailing_of c.args.valid.layout in
    simp (lt-ltb (M 64) (size_at 64 t 0) (size_not 64 t 0 c.size_for_elems.result c.args.valid.has_word (omega arith) c.size_for_elems.ensures.meaning c.in_default.is))

pub returns-then-initial_size-tail : goal.returns-then-initial_size-tail
returns-then-initial_size-tail c =
    let t = trailing_of c.args.valid.layout in
    let d = c.in_ok-decoded.decoded in
    let l : d.layout ≡ c.args.valid.layout = decoded_told c.decoded.result c.decoded.ensures c.in_ok-decoded.was in
    let e : d.parts.align ≡ align_of 64 t.word = align_is 64 d.is_word (omega arith) ∙ ap (λ (x : TrailingSliceLayout ℕ). align_of 64 x.size_rounding_align_and_phase.0) l in
    let x = size_told 64 t 0 c.size_for_elems.result c.size_for_elems.ensures.meaning c.in-Ok.is in
    simp (le-ltb (M 64) (size_at 64 t 0) x.0, eq-eqb (size_at 64 t 0) t.offset (sym x.1 ∙ c.if-initial_size-tail.true))
    (ap (λ (y : ℕ). answered (not (eqb y 0))) (c.remainder.ensures ∙ ap (λ (y : ℕ). t.elem % y) (c.align.ensures ∙ e)))

pub returns-else-initial_size-tail : goal.returns-else-initial_size-tail
returns-else-initial_size-tail c =
    let t = trailing_of c.args.valid.layout in
    let x = size_told 64 t 0 c.size_for_elems.result c.size_for_elems.ensures.meaning c.in-Ok.is in
    simp (le-ltb (M 64) (size_at 64 t 0) x.0, ne_eqb (size_at 64 t 0) t.offset (λ e. c.if-initial_size-tail.false (x.1 ∙ e)))

pub returns-in_err-decoded : goal.returns-in_err-decoded
returns-in_err-decoded c = absurd (omega (arith, (decoded_refused c.decoded.result c.decoded.ensures c.in_err-decoded.was).0))
