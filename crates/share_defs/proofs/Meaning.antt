-- What the padding over a list of counts gives means what it should, and nothing else does, at any width w. Assumes nothing.
use mathlib.Core.Path.{◌≡◌, refl, sym, subst, ap, ap₂, ◌∙◌}
use mathlib.Core.Bool.{Bool, true, false, cond}
use mathlib.Core.List.{List, map}
use mathlib.Core.Logic.{inl, inr}
use Prim.Native.Nat.{ℕ, ◌<◌}
use native.Mathlib.Omega.{arith}
use borrow.Author.Tests.{eqb-true, eqb-false}
use lib.Dec.{eqb}
use lib.ListN.{length, get_or, length-map}
use Rattle.util_defs.specs.Refusal.{Outcome, None, First, Tells, holds, fails, Meets, answers, refuses, Decided}
use Rattle.util_defs.specs.Placed.{Placed, reached, stopped, at_place, go_on}
use Rattle.util_defs.proofs.Refusals.{tells_eq, tells_lt, meets, one_number, no_number}
use Rattle.trailing_defs.specs.Size.{Trailing}
use Rattle.gcd_defs.specs.Fraction.{Fraction, LowestTerms, reduced}
use Rattle.gcd_defs.proofs.Fractions.{lowest_terms, one_fraction}
use Rattle.share_defs.specs.Totals.{whole_padding, sum, total_size, total_padding, causes_at, Totals, no_totals, totals_from}
use Rattle.share_defs.specs.Share.{Share, nothing, share_of, list_causes, sums_for, share_for}
use Rattle.share_defs.specs.Meaning.{FirstGreatest, Portion, Shares, Accepted, StopsAt, Stops, ShareMeans}
use Rattle.share_defs.proofs.Fold.{none_at, first_at, final, final_sizes, final_paddings, FoldMeans, fold_means}
use Rattle.share_defs.proofs.Greatest.{ends, first_greatest, one_greatest}
use Rattle.share_defs.proofs.Paddings.{one_paddings, accepted_fine, paddings_are}

pub list_decided : (t : Trailing) (ns : List ℕ) → Decided (list_causes t ns)
list_decided t ns = (tells_eq t.word 0, λ _. (tells_eq (length ns) 0, λ _. tt))

-- a part of a total in lowest terms
portion : (q s : ℕ) → Portion q s (cond (eqb s 0) nothing (reduced q s))
portion q s = go (eqb s 0) refl
  where
    go : (b : Bool) → eqb s 0 ≡ b → Portion q s (cond b nothing (reduced q s))
    go true e = inl (eqb-true s 0 e, (refl, refl))
    go false e = let n = eqb-false s 0 e in let pos : 0 < s = omega (arith, n) in inr (pos, lowest_terms q s pos)

-- and no other
pub one_portion : {q s : ℕ} {f h : Fraction} → Portion q s f → Portion q s h → f ≡ h
one_portion (inl (e, x)) (inl (g, y)) = λ i. record { numerator = (x.0 ∙ sym y.0) i; denominator = (x.1 ∙ sym y.1) i }
one_portion (inl (e, x)) (inr (l, y)) = absurd (omega arith)
one_portion (inr (l, x)) (inl (e, y)) = absurd (omega arith)
one_portion (inr (l, x)) (inr (m, y)) = one_fraction l x y

module _ (w : ℕ) (t : Trailing) (ns : List ℕ) where
  -- of the totals of counts that go through
  shares : None (list_causes t ns) → ((i : ℕ) → i < length ns → None (causes_at w t ns i)) → Shares w t ns (share_of (length ns) (final w t 0 ns no_totals))
  shares h f =
      let y = final w t 0 ns no_totals in
      let s : y.sizes ≡ total_size w t ns = omega (arith, final_sizes w t 0 ns no_totals) in
      let q : y.paddings ≡ total_padding w t ns = omega (arith, final_paddings w t 0 ns no_totals) in
      let pos : 0 < length ns = omega (arith, h.1.0) in
      record {
        paddings = map (whole_padding w t) ns;
        each = paddings_are w t ns (accepted_fine w t ns f);
        padding = subst (λ (z : ℕ). Portion z (total_size w t ns) (share_of (length ns) y).padding) q (subst (λ (z : ℕ). Portion y.paddings z (share_of (length ns) y).padding) s (portion y.paddings y.sizes));
        mean = subst (λ (z : ℕ). LowestTerms z (length ns) (share_of (length ns) y).mean) s (lowest_terms y.sizes (length ns) pos);
        greatest = first_greatest (map (whole_padding w t) ns) (omega (arith, length-map ns (whole_padding w t))) (ends w t 0 ns no_totals);
      }

  -- the fold over the whole list
  folded : None (list_causes t ns) → (p : Placed Totals) → FoldMeans w t 0 ns no_totals p → ShareMeans w t ns (go_on p (λ x. reached (share_of (length ns) x)))
  folded h (reached y) f =
      let all : (i : ℕ) → i < length ns → None (causes_at w t ns i) = λ i l. none_at w t (get_or ns i 0) (omega arith) (omega arith) (f.0 i l) in
      (record { list = h; counts = all }, subst (λ (z : Totals). Shares w t ns (share_of (length ns) z)) (sym f.1) (shares h all))
  folded h (stopped k p) s =
      let e : s.after ≡ p = omega (arith, s.place) in
      inr (subst (StopsAt w t ns k) e (record {
        list = h;
        within = s.within;
        before = λ j l. none_at w t (get_or ns j 0) (omega arith) (omega arith) (s.before j l);
        first = first_at w t k (get_or ns s.after 0) (omega arith) (omega arith) s.first;
      }))

  pub share_means : ShareMeans w t ns (share_for w t ns)
  unfolding share_for sums_for
  share_means = go (meets (list_causes t ns) {P = λ _. Unit {0}} tt (list_decided t ns) (λ _. tt))
    where
      go : {o : Outcome (Unit {0})} → Meets (list_causes t ns) (λ _. Unit {0}) o
          → ShareMeans w t ns (go_on (at_place 0 o (λ _. totals_from w t 0 ns no_totals)) (λ x. reached (share_of (length ns) x)))
      go (answers h _) = folded h (totals_from w t 0 ns no_totals) (fold_means w t 0 ns no_totals)
      go (refuses f) = inl (f, refl)

  -- totals are of some counts
  pub sums_some : {x : Totals} → sums_for w t ns ≡ reached x → 0 < length ns
  unfolding sums_for
  sums_some {x} e = go (meets (list_causes t ns) {P = λ _. Unit {0}} tt (list_decided t ns) (λ _. tt)) e
    where
      go : {o : Outcome (Unit {0})} → Meets (list_causes t ns) (λ _. Unit {0}) o → at_place 0 o (λ _. totals_from w t 0 ns no_totals) ≡ reached x → 0 < length ns
      go (answers h _) f = omega (arith, h.1.0)
      go (refuses h) f = let z : ◌≡◌ {A = ℕ} 0 1 = cc in absurd (omega arith)

  -- nothing else means it: what is given, and the place and number of a refusal
  one_given : {r s : Share} → None (list_causes t ns) → Shares w t ns r → Shares w t ns s → r ≡ s
  one_given {r} {s} h x y =
      let e = one_paddings w t ns y.paddings x.paddings y.each x.each in
      let g = one_greatest x.paddings x.greatest (subst (λ (qs : List ℕ). FirstGreatest qs s.greatest s.index) e y.greatest) in
      let p = one_portion x.padding (subst (λ (qs : List ℕ). Portion (sum qs) (total_size w t ns) s.padding) e y.padding) in
      let pos : 0 < length ns = omega (arith, h.1.0) in
      let m = one_fraction pos x.mean y.mean in
      λ i. record { padding = p i; mean = m i; greatest = g.0 i; index = g.1 i }

  one_stop : {j k p q : ℕ} → StopsAt w t ns j p → StopsAt w t ns k q → (j ≡ k) × (p ≡ q)
  one_stop {j} {k} {p} {q} x y = go (tells_lt p q) (tells_lt q p)
    where
      go : {b c : Bool} → Tells (p < q) b → Tells (q < p) c → (j ≡ k) × (p ≡ q)
      go (holds l) z = absurd (no_number (causes_at w t ns p) j (y.before p l) x.first)
      go (fails f) (holds l) = absurd (no_number (causes_at w t ns q) k (x.before q l) y.first)
      go (fails f) (fails h) =
          let e : q ≡ p = omega (arith, f, h) in
          (one_number (causes_at w t ns p) j k x.first (subst (λ (z : ℕ). First (causes_at w t ns z) k) e y.first), sym e)

  pub accepted_stops : {k p : ℕ} → Accepted w t ns → Stops w t ns k p → ⊥
  accepted_stops {k} {p} a (inl (f, _)) = no_number (list_causes t ns) k a.list f
  accepted_stops {k} {p} a (inr s) = no_number (causes_at w t ns p) k (a.counts p s.within) s.first

  pub one_share : (a b : Placed Share) → ShareMeans w t ns a → ShareMeans w t ns b → a ≡ b
  one_share (reached r) (reached s) (a, x) (b, y) = ap reached (one_given a.list x y)
  one_share (reached r) (stopped k p) (a, x) s = absurd (accepted_stops a s)
  one_share (stopped k p) (reached r) s (a, x) = absurd (accepted_stops a s)
  one_share (stopped j p) (stopped k q) (inl (f, e)) (inl (g, d)) = ap₂ stopped (one_number (list_causes t ns) j k f g) (e ∙ sym d)
  one_share (stopped j p) (stopped k q) (inl (f, e)) (inr s) = absurd (no_number (list_causes t ns) j s.list f)
  one_share (stopped j p) (stopped k q) (inr s) (inl (f, e)) = absurd (no_number (list_causes t ns) k s.list f)
  one_share (stopped j p) (stopped k q) (inr x) (inr y) = let e = one_stop x y in ap₂ stopped e.0 e.1
