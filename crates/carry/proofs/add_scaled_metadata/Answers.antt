-- `carry::add_scaled_metadata` meets its contract. Assumes nothing.
use Rattle.std.proofs.Common.{◌≡◌, ℕ, ◌+◌, ◌-◌, ◌*◌, ◌^◌, sym, ap, ◌∙◌, arith}
use borrow.Author.Tests.{lt-ltb, le-ltb}
use Rattle.std.specs.Prelude.{Option, Some, None, Ok, Err}
use Rattle.std.specs.Option.{ok_or}
use Rattle.util_defs.specs.Refusal.{answered, refused, unless}
use Rattle.util.specs.View.{number_of}
use Rattle.util.specs.declared.refusal.Refusal.{Refusal}
use Rattle.util.proofs.Told.{handed_on, product_told, product_past}
use Rattle.convert_defs.specs.Convert.{metadata_for}
use Rattle.carry.proofs.add_scaled_metadata.Goals as goal

-- what `ok_or` was called on, by what it gives
given : {x : ℕ} (r : Option ℕ) (k : Refusal) → ok_or r k ≡ Ok x → r ≡ Some x
given (Some y) k e = cc
given None k e = let z : ◌≡◌ {A = ℕ} 0 1 = cc in absurd (omega arith)

missing : {j : Refusal} (r : Option ℕ) (k : Refusal) → ok_or r k ≡ Err j → (r ≡ None) × (j ≡ k)
missing (Some y) k e = let z : ◌≡◌ {A = ℕ} 0 1 = cc in absurd (omega arith)
missing None k e = (cc, cc)

pub returns-in_err-scaled : goal.returns-in_err-scaled
unfolding metadata_for unless
returns-in_err-scaled c =
    let x = missing c.checked_mul.result _ (sym c.ok_or.ensures.value ∙ c.in_err-scaled.was) in
    let past = product_past 64 (c.args.metadata * c.args.multiple) c.checked_mul.result c.checked_mul.ensures x.0 in
    handed_on (λ n. n) c.from_residual.result _ c.from_residual.ensures.1 (ap (λ e. refused (number_of e)) x.1 ∙ simp (lt-ltb (2 ^ 64 - 1) (c.args.base + c.args.metadata * c.args.multiple) (omega arith)))

pub returns-then-base-scaled : goal.returns-then-base-scaled
unfolding metadata_for unless
returns-then-base-scaled c =
    let s = given c.checked_mul.result _ (sym c.ok_or.ensures.value ∙ c.in_ok-scaled.was) in
    let x = product_told 64 (c.args.metadata * c.args.multiple) c.checked_mul.result c.checked_mul.ensures s in
    simp (lt-ltb (2 ^ 64 - 1) (c.args.base + c.args.metadata * c.args.multiple) (omega (arith, x.0)))

pub returns-else-base-scaled : goal.returns-else-base-scaled
unfolding metadata_for unless
returns-else-base-scaled c =
    let s = given c.checked_mul.result _ (sym c.ok_or.ensures.value ∙ c.in_ok-scaled.was) in
    let x = product_told 64 (c.args.metadata * c.args.multiple) c.checked_mul.result c.checked_mul.ensures s in
    simp (le-ltb (2 ^ 64 - 1) (c.args.base + c.args.metadata * c.args.multiple) (omega (arith, x.0))) (ap (λ (z : ℕ). answered (c.args.base + z)) x.0)
