-- The width of a greatest number, and that a greatest number of trailing bytes is so in one way. Assumes nothing.
use Rattle.std.specs.Prelude.{cond, ℕ, eqb}
use Rattle.std.specs.Coded.{le_prop}
use Rattle.util_defs.specs.Width.{M}
use Rattle.trailing_defs.specs.Count.{GreatestBytes}

-- the width whose greatest number is max, of the two widths that there are
unfoldable pub bits_to : ℕ → ℕ
bits_to max = cond (eqb max (M 32)) 32 64

pub greatest_prop : {b A p L x : ℕ} → IsProp (GreatestBytes b A p L x)
greatest_prop u v = λ i. record { fits = le_prop u.fits v.fits i; greatest = λ y h. le_prop (u.greatest y h) (v.greatest y h) i }
