-- The fold over counts: what refuses one of them, and what the totals of all of them are, at any width w. Assumes nothing.
use mathlib.Core.Path.{◌≡◌, refl, sym, subst, ap, ◌∙◌}
use mathlib.Core.List.{List, [], ◌∷◌}
use Prim.Native.Nat.{ℕ, zero, suc, ◌+◌, ◌≤◌, ◌<◌}
use native.Mathlib.Numerals.{add-one}
use native.Mathlib.Omega.{arith}
use lib.ListN.{length, take, drop, get_or, drop_of_length-le}
use lib.Seq.{drop-cons}
use Rattle.util_defs.specs.Width.{M}
use Rattle.util_defs.specs.Refusal.{Outcome, answered, refused, Cause, None, First, Meets, answers, refuses, Decided}
use Rattle.util_defs.specs.Placed.{Placed, reached, stopped, at_place}
use Rattle.util_defs.proofs.Refusals.{tells_lt, tells_or, meets}
use Rattle.trailing_defs.specs.Size.{Trailing, size_at}
use Rattle.trailing_defs.proofs.Sized.{tells_no_size}
use Rattle.share_defs.specs.Totals.{end_at, whole_padding, total_size, total_padding, count_causes, Totals, with_count, add_count, totals_from}

module _ (w : ℕ) (t : Trailing) where
  pub count_decided : (n s q : ℕ) → Decided (count_causes w t n s q)
  count_decided n s q =
      (tells_no_size w t 0, λ _. (tells_no_size w t n, λ _. (tells_lt (size_at w t n) (end_at t n), λ _. (tells_or (tells_lt (M w) s) (tells_lt (M w) q), λ _. tt))))

  add_meets : (i n : ℕ) (x : Totals)
      → Meets (count_causes w t n (x.sizes + size_at w t n) (x.paddings + whole_padding w t n)) (λ y. y ≡ with_count i (size_at w t n) (whole_padding w t n) x) (add_count w t i n x)
  unfolding add_count
  add_meets i n x =
      let s = x.sizes + size_at w t n in
      let q = x.paddings + whole_padding w t n in
      meets (count_causes w t n s q) (with_count i (size_at w t n) (whole_padding w t n) x) (count_decided n s q) (λ _. refl)

  -- what refuses the count with the index j of a list, behind sums s and q
  abbrev pub causes_from : (s q : ℕ) → List ℕ → ℕ → List Cause
  causes_from s q ns j = count_causes w t (get_or ns j 0) (s + total_size w t (take (suc j) ns)) (q + total_padding w t (take (suc j) ns))

  pub none_at : (n : ℕ) {s q s' q' : ℕ} → s ≡ s' → q ≡ q' → None (count_causes w t n s q) → None (count_causes w t n s' q')
  none_at n {s} {q} {s'} {q'} e f h = subst (λ (z : ℕ). None (count_causes w t n z q')) e (subst (λ (z : ℕ). None (count_causes w t n s z)) f h)

  pub first_at : (k n : ℕ) {s q s' q' : ℕ} → s ≡ s' → q ≡ q' → First (count_causes w t n s q) k → First (count_causes w t n s' q') k
  first_at k n {s} {q} {s'} {q'} e f h = subst (λ (z : ℕ). First (count_causes w t n z q') k) e (subst (λ (z : ℕ). First (count_causes w t n s z) k) f h)

  -- the totals where nothing refuses
  abbrev pub final : ℕ → List ℕ → Totals → Totals
  final i [] x = x
  final i (n ∷ ns) x = final (suc i) ns (with_count i (size_at w t n) (whole_padding w t n) x)

  pub final_sizes : (i : ℕ) (ns : List ℕ) (x : Totals) → (final i ns x).sizes ≡ x.sizes + total_size w t ns
  final_sizes i [] x = omega arith
  final_sizes i (n ∷ ns) x = omega (arith, final_sizes (suc i) ns (with_count i (size_at w t n) (whole_padding w t n) x))

  pub final_paddings : (i : ℕ) (ns : List ℕ) (x : Totals) → (final i ns x).paddings ≡ x.paddings + total_padding w t ns
  final_paddings i [] x = omega arith
  final_paddings i (n ∷ ns) x = omega (arith, final_paddings (suc i) ns (with_count i (size_at w t n) (whole_padding w t n) x))

  -- what the fold means: it stops at the first count that is refused, else no count is
  pub record StopsFrom (i : ℕ) (ns : List ℕ) (x : Totals) (k p : ℕ) : Type 0 where
    pub after : ℕ
    pub place : p ≡ i + after
    pub within : after < length ns
    pub before : (j : ℕ) → j < after → None (causes_from x.sizes x.paddings ns j)
    pub first : First (causes_from x.sizes x.paddings ns after) k

  abbrev pub FoldMeans : ℕ → List ℕ → Totals → Placed Totals → Type 0
  FoldMeans i ns x (reached y) = ((j : ℕ) → j < length ns → None (causes_from x.sizes x.paddings ns j)) × (y ≡ final i ns x)
  FoldMeans i ns x (stopped k p) = StopsFrom i ns x k p

  pub fold_means : (i : ℕ) (ns : List ℕ) (x : Totals) → FoldMeans i ns x (totals_from w t i ns x)
  unfolding totals_from
  fold_means i [] x = ((λ j h. absurd (omega arith)), refl)
  fold_means i (n ∷ ns) x = go (add_meets i n x) (λ y. fold_means (suc i) ns y)
    where
      here : None (count_causes w t n (x.sizes + size_at w t n) (x.paddings + whole_padding w t n)) → None (causes_from x.sizes x.paddings (n ∷ ns) 0)
      here h = none_at n (omega arith) (omega arith) h

      ahead : (j : ℕ) → None (causes_from (x.sizes + size_at w t n) (x.paddings + whole_padding w t n) ns j) → None (causes_from x.sizes x.paddings (n ∷ ns) (suc j))
      ahead j h = none_at (get_or ns j 0) (omega arith) (omega arith) h

      all : (m : ℕ) → None (causes_from x.sizes x.paddings (n ∷ ns) 0)
          → ((j : ℕ) → j < m → None (causes_from (x.sizes + size_at w t n) (x.paddings + whole_padding w t n) ns j))
          → (j : ℕ) → j < suc m → None (causes_from x.sizes x.paddings (n ∷ ns) j)
      all m h f zero l = h
      all m h f (suc j) l = ahead j (f j (omega arith))

      next : None (count_causes w t n (x.sizes + size_at w t n) (x.paddings + whole_padding w t n)) → (p : Placed Totals)
          → FoldMeans (suc i) ns (with_count i (size_at w t n) (whole_padding w t n) x) p → FoldMeans i (n ∷ ns) x p
      next h (reached z) f = (all (length ns) (here h) f.0, f.1)
      next h (stopped k p) s = record {
        after = suc s.after;
        place = omega (arith, s.place);
        within = omega (arith, s.within);
        before = all s.after (here h) s.before;
        first = first_at k (get_or ns s.after 0) (omega arith) (omega arith) s.first;
      }

      go : {o : Outcome Totals} → Meets (count_causes w t n (x.sizes + size_at w t n) (x.paddings + whole_padding w t n)) (λ y. y ≡ with_count i (size_at w t n) (whole_padding w t n) x) o
          → ((y : Totals) → FoldMeans (suc i) ns y (totals_from w t (suc i) ns y)) → FoldMeans i (n ∷ ns) x (at_place i o (λ y. totals_from w t (suc i) ns y))
      go (answers {x = y} h e) f =
          next h (totals_from w t (suc i) ns y) (subst (λ (z : Totals). FoldMeans (suc i) ns z (totals_from w t (suc i) ns y)) e (f y))
      go (refuses {k = k} f) g = record {
        after = 0;
        place = omega arith;
        within = omega arith;
        before = λ j l. absurd (omega arith);
        first = first_at k n (omega arith) (omega arith) f;
      }

  -- one count of a list, and the end of it
  pub totals_on : (ns : List ℕ) (i : ℕ) (x y : Totals) → i < length ns → add_count w t i (get_or ns i 0) x ≡ answered y
      → totals_from w t i (drop i ns) x ≡ totals_from w t (i + 1) (drop (i + 1) ns) y
  unfolding totals_from
  totals_on ns i x y l e =
      ap (λ (z : List ℕ). totals_from w t i z x) (drop-cons ns i 0 l) ∙ ap (λ (o : Outcome Totals). at_place i o (λ y. totals_from w t (suc i) (drop (suc i) ns) y)) e
      ∙ ap (λ (k : ℕ). totals_from w t k (drop k ns) y) (sym (add-one i))

  pub totals_off : {k : ℕ} (ns : List ℕ) (i : ℕ) (x : Totals) → i < length ns → add_count w t i (get_or ns i 0) x ≡ refused k
      → totals_from w t i (drop i ns) x ≡ stopped k i
  unfolding totals_from
  totals_off ns i x l e =
      ap (λ (z : List ℕ). totals_from w t i z x) (drop-cons ns i 0 l) ∙ ap (λ (o : Outcome Totals). at_place i o (λ y. totals_from w t (suc i) (drop (suc i) ns) y)) e

  pub totals_end : (ns : List ℕ) (i : ℕ) (x : Totals) → length ns ≤ i → totals_from w t i (drop i ns) x ≡ reached x
  unfolding totals_from
  totals_end ns i x l = ap (λ (z : List ℕ). totals_from w t i z x) (drop_of_length-le ns l)
