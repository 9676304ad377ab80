-- Each meaning of the functions of trailing layouts is had by one answer at most (`one_padding` stands in Sizes). Assumes nothing.
use mathlib.Core.Path.{◌≡◌, sym, ap₂, subst, ◌∙◌}
use Prim.Native.Nat.{ℕ, ◌+◌, ◌*◌}
use native.Mathlib.Omega.{arith}
use Rattle.util_defs.specs.Round.{GreatestMultiple}
use Rattle.util_defs.proofs.Only.{one_multiple}
use Rattle.rounding.proofs.Words.{same_align, same_phase, same_word}
use Rattle.trailing_defs.specs.Size.{Trailing, A, p, size_with, size_at}
use Rattle.trailing_defs.specs.Count.{GreatestBytes}
use Rattle.trailing_defs.specs.Calls.{SizeOffset, Advanced}

pub one_size_offset : {t : Trailing} {r s : ℕ} → SizeOffset t r → SizeOffset t s → r ≡ s
one_size_offset {t} x y =
    let b = one_multiple x.aligned (subst (λ (a : ℕ). GreatestMultiple t.base a y.base) (sym (same_align x.word y.word)) y.aligned) in
    x.sum ∙ ap₂ (λ (b q : ℕ). b + q) b (same_phase x.word y.word) ∙ sym y.sum

pub one_bytes : {b A p L x y : ℕ} → GreatestBytes b A p L x → GreatestBytes b A p L y → x ≡ y
one_bytes {b} {A} {p} {L} {x} {y} g h = omega (arith, g.greatest y h.fits, h.greatest x g.fits)

pub one_advanced : {w : ℕ} {t : Trailing} {y e : ℕ} (m n : Trailing) → Advanced w t y e m → Advanced w t y e n → m ≡ n
one_advanced m n g h = λ i. record {
  offset = (g.offset ∙ sym h.offset) i;
  elem = (g.elem ∙ sym h.elem) i;
  base = (g.base ∙ sym h.base) i;
  word = same_word g.word h.word i;
}

-- n elements behind an advance by y bytes have the size of y + n·e bytes before it
pub advanced_by : {w : ℕ} {t : Trailing} {y e : ℕ} {m : Trailing} → Advanced w t y e m
    → (n : ℕ) → size_at w m n ≡ size_with t.base (A w t) (p w t) (y + n * e)
advanced_by x n = x.sizes n
