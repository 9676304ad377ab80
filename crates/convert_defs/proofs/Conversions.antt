-- Document 01's rules of conversion, which the reasons refuse, over any width and comparison. Assumes nothing.
use mathlib.Core.Path.{◌≡◌, refl, sym, ap, ◌∙◌, subst}
use mathlib.Core.List.{◌++◌}
use Prim.Native.Nat.{ℕ, ◌+◌, ◌-◌, ◌*◌, ◌/◌, ◌%◌, ◌^◌, ◌≤◌, ◌<◌}
use native.Mathlib.Nat.{lt_of_mul-lt-mul_right, mul-le-mul_right, mul-mod_left}
use native.Mathlib.Omega.{arith}
use Rattle.util_defs.specs.Width.{M}
use Rattle.util_defs.specs.Refusal.{Outcome, answered, refused, None, Meets, Decided}
use Rattle.util_defs.proofs.Refusals.{known, tells_eq, tells_lt, meets, clear, answered_means}
use Rattle.util_defs.proofs.Tables.{apart, decided_both, none_both, both_none}
use Rattle.util_defs.proofs.Rounding.{multiple, same_multiple}
use Rattle.trailing_defs.specs.Size.{Trailing}
use Rattle.layout_defs.specs.Layout.{Marks, marks, Info, fixed, trailing, Layout, layout_causes}
use Rattle.layout_defs.proofs.Layouts.{layout_decided}
use Rattle.cast_defs.specs.Exact.{exact_for}
use Rattle.cast_defs.proofs.Exact.{exact_sound, exact_complete}
use Rattle.shift_defs.specs.Match.{Comparison}
use Rattle.shift_defs.specs.Shift.{Shift, by, missing, shift_of}
use Rattle.shift_defs.proofs.Shifts.{slice, by_not, shift_sound, shift_complete}
use Rattle.convert_defs.specs.Reasons.{kind_causes, conversion_causes}
use Rattle.convert_defs.specs.Convert.{Params, unsized_to_unsized, with_count, with_shift, KindsConvert, fixed_to_fixed, fixed_to_trailing, trailing_to_trailing, Converts, params_of, compute_causes, compute_for, converted, metadata_causes, metadata_for}
use Rattle.convert_defs.proofs.Reasons.{kinds_decided}

-- where no reason holds, the kinds of the source i and of the target convert
trailing_sound : (w a : ℕ) (k : Marks) (same : Comparison) (s t : Trailing) → a < 2 ^ w → 0 < w → None (layout_causes w (slice a k t))
    → None (kind_causes w same (trailing s) (slice a k t) (trailing t))
    → KindsConvert w same (trailing s) (trailing t) (params_of w same (trailing s) (slice a k t) (trailing t))
trailing_sound w a k same s t h pos ok n = go (shift_of w same s (slice a k t) t) refl
  where
    e : ℕ
    e = t.elem

    target : 0 < e
    target = omega (arith, n.1.1.1.0)

    whole : s.elem % e ≡ 0
    whole = known (tells_eq (s.elem % e) 0) (λ f. n.1.1.1.1.1.0 (λ d i. f (ap (λ (z : ℕ). z % e) i ∙ mul-mod_left d e)))

    go : (x : Shift) → shift_of w same s (slice a k t) t ≡ x → KindsConvert w same (trailing s) (trailing t) (with_shift (s.elem / e) x)
    go missing i = absurd (n.1.1.1.1.1.1.0 (λ d x. by_not (sym i ∙ shift_complete w a k same s t d h pos ok target x)))
    go (by d) i =
        let x = multiple s.elem e whole in
        let one : 0 < s.elem / e = lt_of_mul-lt-mul_right e (omega (arith, n.1.1.1.1.0)) in
        trailing_to_trailing (record { target = target; least = one; multiple = sym x }) (shift_sound w a k same s t d h pos target i)

kinds_sound : (w a : ℕ) (k : Marks) (same : Comparison) (i j : Info) → a < 2 ^ w → 0 < w
    → let l : Layout = record { align = a; info = j; mark = k.0; modifier = k.1 } in None (layout_causes w l) → None (kind_causes w same i l j)
    → KindsConvert w same i j (params_of w same i l j)
kinds_sound w a k same (fixed x) (fixed y) h pos ok n =
    subst (λ (z : ℕ). KindsConvert w same (fixed x) (fixed z) (params_of w same (fixed x) (record { align = a; info = fixed z; mark = k.0; modifier = k.1 }) (fixed z))) (known (tells_eq x y) n.0) fixed_to_fixed
kinds_sound w a k same (fixed x) (trailing t) h pos ok n = go (exact_for w (slice a k t) x) refl
  where
    go : (o : Outcome ℕ) → exact_for w (slice a k t) x ≡ o → KindsConvert w same (fixed x) (trailing t) (with_count o)
    go (answered c) e = fixed_to_trailing (exact_sound w (slice a k t) x c h pos e)
    go (refused c) e = absurd (n.1.1.0 (λ m z. apart (sym e ∙ exact_complete w (slice a k t) x m h pos ok z)))
kinds_sound w a k same (trailing s) (fixed y) h pos ok n = absurd (n.1.0 tt)
kinds_sound w a k same (trailing s) (trailing t) h pos ok n = trailing_sound w a k same s t h pos ok n

-- and where they convert no reason holds
kinds_complete : {i j : Info} {q : Params} (w a : ℕ) (k : Marks) (same : Comparison) → a < 2 ^ w → 0 < w
    → let l : Layout = record { align = a; info = j; mark = k.0; modifier = k.1 } in None (layout_causes w l) → KindsConvert w same i j q
    → None (kind_causes w same i l j) × (params_of w same i l j ≡ q)
kinds_complete w a k same h pos ok (fixed_to_fixed {a = x}) =
    (((λ f. f refl), ((λ z. z), ((λ z. z), ((λ z. z), ((λ z. z), ((λ z. z), ((λ z. z), tt))))))), refl)
kinds_complete w a k same h pos ok (fixed_to_trailing {a = x} {n = n} {t = t} c) = (
  ((λ z. z), ((λ z. z), ((λ f. f n c), ((λ z. z), ((λ z. z), ((λ z. z), ((λ z. z), tt))))))),
  ap with_count (exact_complete w (slice a k t) x n h pos ok c),
)
kinds_complete w a k same h pos ok (trailing_to_trailing {s = s} {t = t} {d = d} {k = m} x f) =
    let e = t.elem in
    let l : 1 * e ≤ m * e = mul-le-mul_right e x.least in
    let i : s.elem / e * e ≡ s.elem = multiple s.elem e (ap (λ (z : ℕ). z % e) x.multiple ∙ mul-mod_left m e) in
    let q : s.elem / e ≡ m = same_multiple e (s.elem / e) m (omega (arith, x.multiple, x.target)) (omega (arith, x.multiple, x.target)) in (
      (
        (λ z. z),
        (
          (λ z. z),
          (
            (λ z. z),
            (
              (λ z. omega (arith, x.target)),
              (
                (λ z. omega (arith, x.multiple)),
                (
                  (λ g. g m x.multiple),
                  ((λ g. g d f), tt),
                ),
              ),
            ),
          ),
        ),
      ),
      ap (with_shift (s.elem / e)) (shift_complete w a k same s t d h pos ok x.target f) ∙ ap (unsized_to_unsized d) q,
    )

-- the same of whole layouts
conversion_sound : (w : ℕ) (same : Comparison) (s t : Layout) → t.align < 2 ^ w → 0 < w → None (layout_causes w t)
    → None (conversion_causes w same s t) → Converts w same s t (params_of w same s.info t t.info)
conversion_sound w same s t h pos ok n =
    record { align = omega (arith, n.0); kinds = kinds_sound w t.align (marks t) same s.info t.info h pos ok n.1 }

pub conversion_complete : (w : ℕ) (same : Comparison) (s t : Layout) (q : Params) → t.align < 2 ^ w → 0 < w → None (layout_causes w t)
    → Converts w same s t q → None (conversion_causes w same s t) × (params_of w same s.info t t.info ≡ q)
conversion_complete w same s t q h pos ok c =
    let z = kinds_complete w t.align (marks t) same h pos ok c.kinds in
    (((λ l. omega (arith, c.align)), z.0), z.1)

-- there is one conversion at most
pub one_conversion : (w : ℕ) (same : Comparison) (s t : Layout) (q r : Params) → t.align < 2 ^ w → 0 < w → None (layout_causes w t)
    → Converts w same s t q → Converts w same s t r → q ≡ r
one_conversion w same s t q r h pos ok x y =
    sym (conversion_complete w same s t q h pos ok x).1 ∙ (conversion_complete w same s t r h pos ok y).1

conversion_decided : (w : ℕ) (same : Comparison) (s t : Layout) → t.align < 2 ^ w → 0 < w → None (layout_causes w t) → Decided (conversion_causes w same s t)
conversion_decided w same s t h pos ok =
    (tells_lt s.align t.align, λ _. kinds_decided w t.align (marks t) same s.info t.info h pos ok)

compute_decided : (w : ℕ) (same : Comparison) (s t : Layout) → s.align < 2 ^ w → t.align < 2 ^ w → 0 < w → Decided (compute_causes w same s t)
compute_decided w same s t hs ht pos =
    decided_both (layout_causes w s) (layout_causes w t ++ conversion_causes w same s t) (layout_decided w s hs)
    (λ _. decided_both (layout_causes w t) (conversion_causes w same s t) (layout_decided w t ht) (conversion_decided w same s t ht pos))

-- what no cause of the whole table means
free : (w : ℕ) (same : Comparison) (s t : Layout) → None (compute_causes w same s t) → None (layout_causes w t) × None (conversion_causes w same s t)
free w same s t n =
    none_both (layout_causes w t) (conversion_causes w same s t)
    (none_both (layout_causes w s) (layout_causes w t ++ conversion_causes w same s t) n).1

pub compute_meets : (w : ℕ) (same : Comparison) (s t : Layout) → s.align < 2 ^ w → t.align < 2 ^ w → 0 < w → Meets (compute_causes w same s t) (Converts w same s t) (compute_for w same s t)
unfolding compute_for
compute_meets w same s t hs ht pos =
    meets (compute_causes w same s t) (params_of w same s.info t t.info) (compute_decided w same s t hs ht pos)
    (λ n. let m = free w same s t n in conversion_sound w same s t ht pos m.0 m.1)

-- what the conversion's call answers is what the rules accept, and what they accept it answers
pub compute_sound : (w : ℕ) (same : Comparison) (s t : Layout) (q : Params) → s.align < 2 ^ w → t.align < 2 ^ w → 0 < w
    → compute_for w same s t ≡ answered q → Converts w same s t q
compute_sound w same s t q hs ht pos e =
    (answered_means (subst (Meets (compute_causes w same s t) (Converts w same s t)) e (compute_meets w same s t hs ht pos))).1

pub compute_accepts : (w : ℕ) (same : Comparison) (s t : Layout) (q : Params) → s.align < 2 ^ w → t.align < 2 ^ w → 0 < w
    → None (layout_causes w s) → None (layout_causes w t) → Converts w same s t q → compute_for w same s t ≡ answered q
unfolding compute_for
compute_accepts w same s t q hs ht pos os ot c =
    let z = conversion_complete w same s t q ht pos ot c in
    clear (compute_causes w same s t) (compute_decided w same s t hs ht pos)
    (both_none (layout_causes w s) (layout_causes w t ++ conversion_causes w same s t) os
    (both_none (layout_causes w t) (conversion_causes w same s t) ot z.0))
    ∙ ap answered z.1

pub metadata_meets : (w : ℕ) (q : Params) (n : ℕ) → Meets (metadata_causes w q n) (λ m. m ≡ converted q n) (metadata_for w q n)
unfolding metadata_for
metadata_meets w q n = meets (metadata_causes w q n) (converted q n) (tells_lt (M w) (converted q n), λ _. tt) (λ _. refl)
