-- `util::checked_mul` meets its contract. Assumes nothing.
use Rattle.std.proofs.Common.{ℕ, ◌*◌, ◌/◌, ◌^◌, sym, ap, ◌∙◌, arith}
use Rattle.util_defs.proofs.Products.{checked_wrapped, checked_past, product_within, product_past}
use Rattle.util.proofs.checked_mul.Goals as goal

pub returns-then-b-eq0 : goal.returns-then-b-eq0
returns-then-b-eq0 c = let x = c.args in
    checked_wrapped 64 (x.a * x.b) c.wrapping_mul-product.result c.wrapping_mul-product.ensures (omega (arith, ap (λ (n : ℕ). x.a * n) c.if-b-eq0.true))

pub returns-then-product-b : goal.returns-then-product-b
returns-then-product-b c = let x = c.args in
    checked_wrapped 64 (x.a * x.b) c.wrapping_mul-product.result c.wrapping_mul-product.ensures (product_within (2 ^ 64) x.a x.b (omega arith) (ap (λ (n : ℕ). n / x.b) (sym c.wrapping_mul-product.ensures) ∙ c.if-product-b.true))

pub returns-else-product-b : goal.returns-else-product-b
returns-else-product-b c = let x = c.args in
    sym (checked_past 64 (x.a * x.b) (omega (arith, product_past (2 ^ 64) x.a x.b (omega arith) (λ e. c.if-product-b.false (ap (λ (n : ℕ). n / x.b) c.wrapping_mul-product.ensures ∙ e)))))
