-- The order of counts: any permutation of an accepted list is accepted, and gives the same but for the index. Assumes nothing.
use mathlib.Core.Path.{◌≡◌, refl, sym, subst, ap, ap₂, ◌∙◌}
use mathlib.Core.HLevel.{⊥_prop}
use mathlib.Core.List.Permᴰ
use mathlib.Core.List.{List, [], ◌∷◌, map, Perm, Permᴰ}
use mathlib.Core.Logic.{inl, ⊎_elim, ∥∥₁_elim}
use Prim.Native.Nat.{ℕ, zero, suc, ◌+◌, ◌-◌, ◌≤◌, ◌<◌}
use native.Mathlib.Nat.{ℕ_set}
use native.Mathlib.Omega.{arith}
use lib.ListN.{length, take, get_or, length-map}
use lib.Seq.{take-length}
use Rattle.util_defs.specs.Width.{M}
use Rattle.util_defs.specs.Refusal.{None}
use Rattle.util_defs.specs.Placed.{Placed, reached, stopped}
use Rattle.util_defs.proofs.Refusals.{known, tells_le}
use Rattle.trailing_defs.specs.Size.{Trailing, size_at, HasSize}
use Rattle.gcd_defs.specs.Fraction.{Fraction, LowestTerms}
use Rattle.gcd_defs.proofs.Fractions.{one_fraction}
use Rattle.share_defs.specs.Totals.{whole_padding, sum, total_size, total_padding}
use Rattle.share_defs.specs.Share.{Share, list_causes, share_for}
use Rattle.share_defs.specs.Meaning.{FirstGreatest, Portion, Shares, Accepted, ShareMeans, Alike, Another, OrderFree}
use Rattle.share_defs.proofs.Paddings.{All, all_from, all_at, Fine, accepted_fine, one_paddings, paddings_are}
use Rattle.share_defs.proofs.Meaning.{one_portion, accepted_stops, share_means}

-- what a permutation keeps: what is so of every number, the number of them, and sums
perm_all : {ns ms : List ℕ} (P : ℕ → Type 0) → Permᴰ ns ms → All P ns → All P ms
perm_all P Permᴰ.nil a = tt
perm_all P (Permᴰ.cons e d) a = (subst P e a.0, perm_all P d a.1)
perm_all P (Permᴰ.swap e f) a = (subst P f a.1.0, (subst P e a.0, a.1.1))
perm_all P (Permᴰ.trans c d) a = perm_all P d (perm_all P c a)

perm_length : {ns ms : List ℕ} → Permᴰ ns ms → length ns ≡ length ms
perm_length Permᴰ.nil = refl
perm_length (Permᴰ.cons e d) = ap suc (perm_length d)
perm_length (Permᴰ.swap e f) = refl
perm_length (Permᴰ.trans c d) = perm_length c ∙ perm_length d

perm_sum : {ns ms : List ℕ} (f : ℕ → ℕ) → Permᴰ ns ms → sum (map f ns) ≡ sum (map f ms)
perm_sum f Permᴰ.nil = refl
perm_sum f (Permᴰ.cons e d) = ap₂ (λ (x y : ℕ). x + y) (ap f e) (perm_sum f d)
perm_sum f (Permᴰ.swap {l = l} e g) = omega (arith, ap f e, ap f g)
perm_sum f (Permᴰ.trans c d) = perm_sum f c ∙ perm_sum f d

-- the sum of a first part is at most that of all
part_sum : (f : ℕ → ℕ) (k : ℕ) (ns : List ℕ) → sum (map f (take k ns)) ≤ sum (map f ns)
part_sum f zero ns = omega arith
part_sum f (suc k) [] = omega arith
part_sum f (suc k) (n ∷ ns) = omega (arith, part_sum f k ns)

-- what is left of sizes is at most the sizes, whatever is taken from them
pub padding_size : (w : ℕ) (t : Trailing) (ns : List ℕ) → total_padding w t ns ≤ total_size w t ns
padding_size w t [] = omega arith
padding_size w t (n ∷ ns) = omega (arith, padding_size w t ns)

-- the number at an index of a list that was mapped
map_at : (f : ℕ → ℕ) (ns : List ℕ) (j : ℕ) → j < length ns → get_or (map f ns) j 0 ≡ f (get_or ns j 0)
map_at f [] j l = elim l [ ]
map_at f (n ∷ ns) zero l = refl
map_at f (n ∷ ns) (suc j) l = map_at f ns j (omega arith)

module _ (w : ℕ) (t : Trailing) where
  -- accepted lists: a list that is not empty, of counts that go through, whose sizes have a sum of at most M
  accepted_sum : (ns : List ℕ) → Accepted w t ns → total_size w t ns ≤ M w
  accepted_sum [] a = absurd (a.list.1.0 refl)
  accepted_sum (n ∷ ns) a =
      let h = a.counts (length ns) (omega arith) in
      let e : take (suc (length ns)) (n ∷ ns) ≡ n ∷ ns = ap (λ (z : List ℕ). n ∷ z) (take-length ns) in
      known (tells_le (total_size w t (n ∷ ns)) (M w))
      (λ g. h.1.1.1.0 (inl (subst (λ (z : List ℕ). M w < total_size w t z) (sym e) (omega (arith, g)))))

  sum_accepted : (ns : List ℕ) → None (list_causes t ns) → HasSize w t 0 → All (Fine w t) ns → total_size w t ns ≤ M w → Accepted w t ns
  sum_accepted ns h z f l = record {
    list = h;
    counts = λ i b.
        let x = all_at (Fine w t) ns f i b in
        let s = part_sum (size_at w t) (suc i) ns in
        let q = padding_size w t (take (suc i) ns) in
        ((λ n. n z), ((λ n. n x.0), ((λ n. omega (arith, x.1)), ((λ n. ⊎_elim (λ g. omega arith) (λ g. omega arith) n), tt))));
  }

  zero_size : (ns : List ℕ) → Accepted w t ns → HasSize w t 0
  zero_size ns a = known (tells_le (size_at w t 0) (M w)) (a.counts 0 (omega (arith, a.list.1.0))).0

  -- the greatest of the paddings is at most that of another order
  greatest_within : (ns ms : List ℕ) {q r i j : ℕ} → Permᴰ ns ms → FirstGreatest (map (whole_padding w t) ns) q i → FirstGreatest (map (whole_padding w t) ms) r j → q ≤ r
  greatest_within ns ms {q} {r} {i} {j} d x y =
      let f = whole_padding w t in
      let a = all_from (λ n. f n ≤ r) ms (λ k l. omega (arith, map_at f ms k l, y.greatest k (omega (arith, length-map ms f)))) in
      let l : i < length ns = omega (arith, x.within, length-map ns f) in
      omega (arith, x.here, map_at f ns i l, all_at (λ n. f n ≤ r) ns (perm_all (λ n. f n ≤ r) (Permᴰ.symm d) a) i l)

  -- the paddings of counts that are accepted
  given_paddings : (ns : List ℕ) {r : Share} → Accepted w t ns → (x : Shares w t ns r) → x.paddings ≡ map (whole_padding w t) ns
  given_paddings ns a x = one_paddings w t ns x.paddings (map (whole_padding w t) ns) x.each (paddings_are w t ns (accepted_fine w t ns a.counts))

  alike : (ns ms : List ℕ) {r s : Share} → Permᴰ ns ms → Accepted w t ns → Shares w t ns r → Accepted w t ms → Shares w t ms s → Alike r s
  alike ns ms {r} {s} d a x b y =
      let f = whole_padding w t in
      let p = perm_sum f d in
      let z = perm_sum (size_at w t) d in
      let qs = given_paddings ns a x in
      let rs = given_paddings ms b y in
      let gx = subst (λ (l : List ℕ). FirstGreatest l r.greatest r.index) qs x.greatest in
      let gy = subst (λ (l : List ℕ). FirstGreatest l s.greatest s.index) rs y.greatest in
      let mx = subst (λ (n : ℕ). LowestTerms (total_size w t ms) n r.mean) (perm_length d) (subst (λ (n : ℕ). LowestTerms n (length ns) r.mean) z x.mean) in
      let px = subst (λ (n : ℕ). Portion n (total_size w t ms) r.padding) (ap sum qs ∙ p ∙ sym (ap sum rs)) (subst (λ (n : ℕ). Portion (sum x.paddings) n r.padding) z x.padding) in
      let pos : 0 < length ms = omega (arith, b.list.1.0) in
      record {
        padding = one_portion y.padding px;
        mean = one_fraction pos y.mean mx;
        greatest = omega (arith, greatest_within ns ms d gx gy, greatest_within ms ns (Permᴰ.symm d) gy gx);
      }

module _ (w : ℕ) (t : Trailing) (ns ms : List ℕ) (r : Share) (e : share_for w t ns ≡ reached r) where
  here : ShareMeans w t ns (reached r)
  here = subst (ShareMeans w t ns) e (share_means w t ns)

  there : Permᴰ ns ms → Accepted w t ms
  there d =
      let a = here.0 in
      sum_accepted w t ms (a.list.0, ((λ z. a.list.1.0 (perm_length d ∙ z)), tt)) (zero_size w t ns a)
      (perm_all (Fine w t) d (accepted_fine w t ns a.counts)) (omega (arith, accepted_sum w t ns a, perm_sum (size_at w t) d))

  -- by each number of it, since a permutation tells of no more than equal numbers
  same : (s : Share) → ShareMeans w t ms (reached s) → Perm ns ms → Alike r s
  same s m d = record {
    padding = fraction (λ x. x.padding) (λ a. a.padding);
    mean = fraction (λ x. x.mean) (λ a. a.mean);
    greatest = number (λ x. x.greatest) (λ a. a.greatest);
  }
    where
      number : (f : Share → ℕ) → (Alike r s → f s ≡ f r) → f s ≡ f r
      number f g = ∥∥₁_elim d (ℕ_set (f s) (f r)) (λ x. g (alike w t ns ms x here.0 here.1 m.0 m.1))

      fraction : (f : Share → Fraction) → (Alike r s → f s ≡ f r) → f s ≡ f r
      fraction f g = λ i. record {
        numerator = number (λ x. (f x).numerator) (λ a. ap (λ (z : Fraction). z.numerator) (g a)) i;
        denominator = number (λ x. (f x).denominator) (λ a. ap (λ (z : Fraction). z.denominator) (g a)) i;
      }

  another : Perm ns ms → (o : Placed Share) → share_for w t ms ≡ o → ShareMeans w t ms o → Another w t ms r
  another d (reached s) g m = record { share = s; accepted = g; alike = same s m d }
  another d (stopped k i) g m = absurd (∥∥₁_elim d ⊥_prop (λ x. accepted_stops w t ms (there x) m))

pub order_free : (w : ℕ) → OrderFree w
order_free w t ns ms r d e = another w t ns ms r e d (share_for w t ms) refl (share_means w t ms)

-- so that two orders that are accepted give the same
pub same_given : (w : ℕ) (t : Trailing) (ns ms : List ℕ) (r s : Share) → Perm ns ms → share_for w t ns ≡ reached r → share_for w t ms ≡ reached s
    → (r.padding ≡ s.padding) × ((r.mean ≡ s.mean) × (r.greatest ≡ s.greatest))
same_given w t ns ms r s d e g =
    let x = order_free w t ns ms r d e in
    let i : x.share ≡ s = same (sym x.accepted ∙ g) in
    (sym x.alike.padding ∙ ap (λ (z : Share). z.padding) i, (sym x.alike.mean ∙ ap (λ (z : Share). z.mean) i, sym x.alike.greatest ∙ ap (λ (z : Share). z.greatest) i))
  where
    same : {a b : Share} → reached a ≡ reached b → a ≡ b
    same e = cc
