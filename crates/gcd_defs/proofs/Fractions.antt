-- Laws of fractions in lowest terms. Assumes nothing.
use mathlib.Core.Path.{◌≡◌, refl, sym, subst, ap, ◌∙◌}
use Prim.Native.Nat.{ℕ, zero, suc, ◌+◌, ◌*◌, ◌/◌, ◌%◌, ◌≤◌, ◌<◌, ◌∣◌}
use native.Mathlib.Nat.{dvd-add_iff_right, dvd_antisymm, dvd-mul_left, dvd-mul_left_of_dvd, dvd-one, dvd_of_mul-dvd-mul_right, mul-dvd-mul_right, div-le_self, div-mul_cancel, div-add-mod', pos_of_dvd_of_pos, mod-lt, eq_of_mul-eq-mul_right, one-mul, mul-one}
use native.Mathlib.Omega.{arith}
use Rattle.gcd_defs.specs.Gcd.{by_remainders, gcd}
use Rattle.gcd_defs.specs.Fraction.{Fraction, LowestTerms, reduced}
use Rattle.gcd_defs.proofs.Divisors.{gcd_is}

-- what divides k times a and k times b divides k times their greatest common divisor
remainders_scaled : (j k a b d : ℕ) → b < j → d ∣ k * a → d ∣ k * b → d ∣ k * by_remainders j a b
unfolding by_remainders
remainders_scaled zero k a b d h p q = absurd (omega arith)
remainders_scaled (suc j) k a zero d h p q = p
remainders_scaled (suc j) k a (suc b) d h p q = remainders_scaled j k (suc b) (a % suc b) d (omega (arith, mod-lt a pos)) q rest
  where
    pos : 0 < suc b
    pos = omega arith

    whole : k * a ≡ a / suc b * (k * suc b) + k * (a % suc b)
    whole = ap (λ (z : ℕ). k * z) (sym (div-add-mod' a (suc b))) ∙ spread (a / suc b) (suc b) (a % suc b)
      where
        spread : (u v z : ℕ) → k * (u * v + z) ≡ u * (k * v) + k * z
        spread u v z = omega arith

    rest : d ∣ k * (a % suc b)
    rest = (dvd-add_iff_right d (dvd-mul_left_of_dvd d q (a / suc b))).1 (subst (λ (z : ℕ). d ∣ z) whole p)

scaled : (k a b d : ℕ) → d ∣ k * a → d ∣ k * b → d ∣ k * gcd a b
unfolding gcd
scaled k a b d p q = remainders_scaled (suc b) k a b d (omega arith) p q

-- the quotient in lowest terms, where it is no division by 0
pub lowest_terms : (a b : ℕ) → 0 < b → LowestTerms a b (reduced a b)
lowest_terms a b h =
    let g = gcd a b in
    let d = gcd_is a b in
    let x : a / g * g ≡ a = div-mul_cancel g d.left in
    let y : b / g * g ≡ b = div-mul_cancel g d.right in
    let pos : 0 < g = pos_of_dvd_of_pos d.right h in
    record {
      positive = below x y;
      equal = ap (λ (z : ℕ). a / g * z) (sym y) ∙ crossed (a / g) (b / g) g ∙ ap (λ (z : ℕ). z * (b / g)) x;
      lowest = λ k p q. common k p q x y pos;
    }
  where
    below : a / gcd a b * gcd a b ≡ a → b / gcd a b * gcd a b ≡ b → 0 < b / gcd a b
    below x y = go (b / gcd a b) refl
      where
        go : (z : ℕ) → b / gcd a b ≡ z → 0 < z
        go zero e = let n : 0 * gcd a b ≡ b = ap (λ (z : ℕ). z * gcd a b) (sym e) ∙ y in absurd (omega arith)
        go (suc z) e = omega arith

    crossed : (u v g : ℕ) → u * (v * g) ≡ u * g * v
    crossed u v g = omega arith

    common : (k : ℕ) → k ∣ a / gcd a b → k ∣ b / gcd a b → a / gcd a b * gcd a b ≡ a → b / gcd a b * gcd a b ≡ b → 0 < gcd a b → k ≡ 1
    common k p q x y pos =
        let g = gcd a b in
        let s : k * g ∣ a = subst (λ (z : ℕ). k * g ∣ z) x (mul-dvd-mul_right k p g) in
        let t : k * g ∣ b = subst (λ (z : ℕ). k * g ∣ z) y (mul-dvd-mul_right k q g) in
        let u : k * g ∣ 1 * g = subst (λ (z : ℕ). k * g ∣ z) (sym (one-mul g)) ((gcd_is a b).greatest (k * g) s t) in
        dvd-one.0 (dvd_of_mul-dvd-mul_right k pos u)

-- where two fractions are equal, what is below the one that is in lowest terms divides what is below the other
denominator_divides : (f h : Fraction) → f.numerator * h.denominator ≡ h.numerator * f.denominator → ((d : ℕ) → d ∣ f.numerator → d ∣ f.denominator → d ≡ 1) → f.denominator ∣ h.denominator
denominator_divides f h e c =
    let g = gcd_is f.numerator f.denominator in
    let one : gcd f.numerator f.denominator ≡ 1 = c (gcd f.numerator f.denominator) g.left g.right in
    let p : f.denominator ∣ h.denominator * f.numerator = subst (λ (z : ℕ). f.denominator ∣ z) (sym e ∙ omega arith) (dvd-mul_left f.denominator h.numerator) in
    let s = scaled h.denominator f.numerator f.denominator f.denominator p (dvd-mul_left f.denominator h.denominator) in
    subst (λ (z : ℕ). f.denominator ∣ z) (ap (λ (z : ℕ). h.denominator * z) one ∙ mul-one h.denominator) s

-- it is one fraction
pub one_fraction : {a b : ℕ} {f h : Fraction} → 0 < b → LowestTerms a b f → LowestTerms a b h → f ≡ h
one_fraction {a} {b} {f} {h} pos x y = λ i. record { numerator = numerator i; denominator = denominator i }
  where
    cross : f.numerator * h.denominator ≡ h.numerator * f.denominator
    cross =
        eq_of_mul-eq-mul_right b pos (f.numerator * h.denominator) (h.numerator * f.denominator)
        (swap f.numerator h.denominator b ∙ ap (λ (z : ℕ). z * h.denominator) x.equal ∙ swap a f.denominator h.denominator ∙ ap (λ (z : ℕ). z * f.denominator) (sym y.equal) ∙ swap h.numerator b f.denominator)
      where
        swap : (u v z : ℕ) → u * v * z ≡ u * z * v
        swap u v z = omega arith

    denominator : f.denominator ≡ h.denominator
    denominator = dvd_antisymm (denominator_divides f h cross x.lowest) (denominator_divides h f (sym cross) y.lowest)

    numerator : f.numerator ≡ h.numerator
    numerator = eq_of_mul-eq-mul_right f.denominator x.positive f.numerator h.numerator (ap (λ (z : ℕ). f.numerator * z) denominator ∙ cross)

-- and its numbers are at most those that it is the quotient of
pub terms_within : {a b : ℕ} {f : Fraction} → 0 < b → LowestTerms a b f → (f.numerator ≤ a) × (f.denominator ≤ b)
terms_within {a} {b} {f} pos x =
    let e : reduced a b ≡ f = one_fraction pos (lowest_terms a b pos) x in
    subst (λ (h : Fraction). (h.numerator ≤ a) × (h.denominator ≤ b)) e (div-le_self a (gcd a b), div-le_self b (gcd a b))
