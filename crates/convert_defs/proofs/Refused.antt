-- A refusal by one of document 02's reasons comes exactly where there is no conversion, over any width and comparison. Assumes
-- nothing.
use mathlib.Core.Path.{◌≡◌, refl, subst}
use mathlib.Core.List.{◌++◌}
use mathlib.Core.Logic.{⊎_elim}
use Prim.Native.Nat.{ℕ, ◌+◌, ◌-◌, ◌^◌, ◌≤◌, ◌<◌}
use lib.Dec.{lit<, lit≤}
use native.Mathlib.Omega.{arith}
use Rattle.util_defs.specs.Refusal.{Outcome, answered, refused, First, Meets}
use Rattle.util_defs.proofs.Refusals.{answered_means, refused_means, no_number}
use Rattle.util_defs.proofs.Tables.{first_both, number_among}
use Rattle.layout_defs.specs.Layout.{Info, fixed, trailing, Layout, no_word, layout_causes}
use Rattle.shift_defs.specs.Match.{Comparison}
use Rattle.convert_defs.specs.Reasons.{conversion_causes, first_reason, last_reason}
use Rattle.convert_defs.specs.Convert.{Params, Converts, compute_causes, compute_for, NoConversion}
use Rattle.convert_defs.proofs.Conversions.{conversion_complete, compute_meets}

-- a layout's own number is below the reasons', and a reason's is one of the eight
word_number : (i : Info) → (no_word i).number < first_reason
word_number (fixed s) = lit< tt
word_number (trailing t) = lit< tt

own_number : (w : ℕ) (l : Layout) (k : ℕ) → First (layout_causes w l) k → k < first_reason
own_number w l k f = number_among (λ n. n < first_reason) (layout_causes w l) k (lit< tt, (word_number l.info, tt)) f

abbrev IsReason : ℕ → Type 0
IsReason k = (first_reason ≤ k) × (k ≤ last_reason)

is_reason : (n : ℕ) → n ≤ last_reason - first_reason → IsReason (first_reason + n)
is_reason n l = (omega arith, omega arith)

reason_number : (w : ℕ) (same : Comparison) (s t : Layout) (k : ℕ) → First (conversion_causes w same s t) k → IsReason k
reason_number w same s t k f =
    number_among IsReason (conversion_causes w same s t) k (
      is_reason 0 (lit≤ tt),
      (
        is_reason 1 (lit≤ tt),
        (
          is_reason 2 (lit≤ tt),
          (
            is_reason 3 (lit≤ tt),
            (
              is_reason 4 (lit≤ tt),
              (is_reason 5 (lit≤ tt), (is_reason 6 (lit≤ tt), (is_reason 7 (lit≤ tt), tt))),
            ),
          ),
        ),
      ),
    ) f

-- a refusal by one of the eight comes exactly where neither layout is refused and there is no conversion
pub reason_none : (w : ℕ) (same : Comparison) (s t : Layout) (k : ℕ) → s.align < 2 ^ w → t.align < 2 ^ w → 0 < w
    → compute_for w same s t ≡ refused k → first_reason ≤ k → NoConversion w same s t
reason_none w same s t k hs ht pos e l =
    let f = refused_means (subst (Meets (compute_causes w same s t) (Converts w same s t)) e (compute_meets w same s t hs ht pos)) in
    ⊎_elim (λ x. let z = own_number w s k x in omega arith) (λ x. ⊎_elim (λ y. let z = own_number w t k y in omega arith) (λ y. record {
      source = x.0;
      target = y.0;
      none = λ q c. no_number (conversion_causes w same s t) k (conversion_complete w same s t q ht pos y.0 c).0 y.1;
    }) (first_both (layout_causes w t) (conversion_causes w same s t) k x.1))
    (first_both (layout_causes w s) (layout_causes w t ++ conversion_causes w same s t) k f)

pub none_reason : (w : ℕ) (same : Comparison) (s t : Layout) → s.align < 2 ^ w → t.align < 2 ^ w → 0 < w
    → NoConversion w same s t → (k : ℕ) × ((compute_for w same s t ≡ refused k) × IsReason k)
none_reason w same s t hs ht pos x = go (compute_for w same s t) refl (compute_meets w same s t hs ht pos)
  where
    go : (o : Outcome Params) → compute_for w same s t ≡ o → Meets (compute_causes w same s t) (Converts w same s t) o
        → (k : ℕ) × ((compute_for w same s t ≡ refused k) × IsReason k)
    go (answered q) e m = absurd (x.none q (answered_means m).1)
    go (refused k) e m = (
      k,
      (
        e,
        reason_number w same s t k (
            ⊎_elim (λ y. absurd (no_number (layout_causes w s) k x.source y)) (λ y. ⊎_elim (λ z. absurd (no_number (layout_causes w t) k x.target z)) (λ z. z.1)
            (first_both (layout_causes w t) (conversion_causes w same s t) k y.1))
            (first_both (layout_causes w s) (layout_causes w t ++ conversion_causes w same s t) k (refused_means m))
            ),
      ),
    )
