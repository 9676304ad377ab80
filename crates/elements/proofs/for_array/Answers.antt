-- `elements::for_array` meets its contract. Assumes nothing.
use Rattle.util.proofs.Told.{handed_on}
use mathlib.Core.Path.{◌≡◌, sym, ap, ◌∙◌}
use Rattle.std.specs.Prelude.{Option, Some, None, Result, Ok, Err}
use Rattle.std.specs.Option.{ok_or}
use Prim.Native.Nat.{ℕ, ◌*◌}
use native.Mathlib.Omega.{arith}
use Rattle.util_defs.specs.Refusal.{answered, refused}
use Rattle.util_defs.proofs.Tables.{told_by}
use Rattle.util.specs.View.{number_of, number_says}
use Rattle.util.proofs.Told.{product_told, product_past}
use Rattle.layout_defs.specs.Layout.{fixed}
use Rattle.layout.specs.View.{layout_of}
use Rattle.describe_defs.proofs.Elements.{with_info, array_off, array_past, array_on, array_meets}
use Rattle.util_defs.proofs.Refusals.{means}
use Rattle.elements.proofs.for_array.Goals as goal

-- what `ok_or` was given
abbrev given_back : {E : Type 0} → Result ℕ E → Option ℕ
given_back (Ok x) = Some x
given_back (Err e) = None

given : {E : Type 0} (e : E) (o : Option ℕ) {r : Result ℕ E} → r ≡ ok_or o e → o ≡ given_back r
given e None h = sym (ap given_back h)
given e (Some x) h = sym (ap given_back h)

refused_with : {E : Type 0} {e k : E} (o : Option ℕ) → Err k ≡ ok_or o e → k ≡ e
refused_with {E} {e} {k} None h = ap (λ r. of r) h
  where
    of : Result ℕ E → E
    of (Ok x) = k
    of (Err z) = z
refused_with (Some x) h = let z : ◌≡◌ {A = ℕ} 0 1 = cc in absurd (omega arith)

pub returns-clause-answer : goal.returns-clause-answer
returns-clause-answer c =
    let l = layout_of c.args.elem in
    let n = c.args.count in
    let size = c.in_ok-size.size in
    let x = product_told 64 (size * n) _ c.checked_mul.ensures (given _ c.checked_mul.result c.ok_or.ensures.value ∙ ap given_back c.in_ok-product.was) in ap (λ (z : ℕ). answered (with_info l (fixed z))) x.0 ∙ array_on 64 l n (told_by number_says c.elem_size.ensures c.in_ok-size.was) x.1

pub returns-clause-meaning : goal.returns-clause-meaning
returns-clause-meaning c =
    let l = layout_of c.args.elem in
    let n = c.args.count in
    let size = c.in_ok-size.size in
    let x = product_told 64 (size * n) _ c.checked_mul.ensures (given _ c.checked_mul.result c.ok_or.ensures.value ∙ ap given_back c.in_ok-product.was) in means (array_meets 64 l n (omega arith)) (returns-clause-answer c)

pub returns-in_err-product-clause-answer : goal.returns-in_err-product-clause-answer
returns-in_err-product-clause-answer c =
    let l = layout_of c.args.elem in
    let n = c.args.count in
    let size = c.in_ok-size.size in handed_on layout_of c.from_residual-in_err-product.result _ c.from_residual-in_err-product.ensures.1 (ap (λ k. refused (number_of k)) (refused_with c.checked_mul.result (sym c.in_err-product.was ∙ c.ok_or.ensures.value)) ∙ array_past 64 l n (told_by number_says c.elem_size.ensures c.in_ok-size.was) (product_past 64 (size * n) _ c.checked_mul.ensures (given _ c.checked_mul.result c.ok_or.ensures.value ∙ ap given_back c.in_err-product.was)))

pub returns-in_err-product-clause-meaning : goal.returns-in_err-product-clause-meaning
returns-in_err-product-clause-meaning c =
    let l = layout_of c.args.elem in
    let n = c.args.count in
    let size = c.in_ok-size.size in means (array_meets 64 l n (omega arith)) (returns-in_err-product-clause-answer c)

pub returns-in_err-size-clause-answer : goal.returns-in_err-size-clause-answer
returns-in_err-size-clause-answer c =
    let l = layout_of c.args.elem in
    let n = c.args.count in handed_on _ c.from_residual.result _ c.from_residual.ensures.1 (array_off 64 l n (told_by number_says c.elem_size.ensures c.in_err-size.was))

pub returns-in_err-size-clause-meaning : goal.returns-in_err-size-clause-meaning
returns-in_err-size-clause-meaning c =
    let l = layout_of c.args.elem in
    let n = c.args.count in means (array_meets 64 l n (omega arith)) (returns-in_err-size-clause-answer c)
