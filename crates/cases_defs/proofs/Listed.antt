-- All cases are there, none else, none twice, in order. Assumes nothing.
use mathlib.Core.Path.{◌≡◌, refl, sym, ap, subst, ◌∙◌}
use mathlib.Core.List.Memᴰ
use mathlib.Core.List.{List, [], ◌∷◌, ◌++◌, map, Memᴰ}
use mathlib.Core.Logic.{◌⊎◌, inl, inr}
use Prim.Native.Nat.{ℕ, zero, suc, ◌+◌, ◌<◌}
use lib.ListN.{length}
use native.Mathlib.Omega.{arith}
use native.Mathlib.Nat.{eq-or-lt_of_le}
use Rattle.cases_defs.specs.Cases.{Case, scalars, packings, lists_of, under_each, cases_of, cases_to}
use Rattle.cases_defs.specs.Order.{IsCase, FromLeft, lower, alike, Before, shorter, by_code, by_packing, Ordered, AllCases}
use Rattle.cases_defs.proofs.Orders.{ordered_append, once, one_order, ordered_map, in_flat, flat_in, ordered_flat, Less, rises_ordered}

-- ---- the order is strict ----

left_long : (cs ds : List ℕ) → FromLeft cs ds → length cs ≡ length ds
left_long (c ∷ cs) [] x3 = elim x3 [ ]
left_long [] ds z1 = elim z1 [ ]
left_long (c ∷ cs) (d ∷ ds) (lower h e) = ap suc e
left_long (c ∷ cs) (d ∷ ds) (alike e f) = ap suc (left_long cs ds f)

left_irr : (cs : List ℕ) → FromLeft cs cs → ⊥
left_irr [] z1 = elim z1 [ ]
left_irr (c ∷ cs) (lower h e) = omega arith
left_irr (c ∷ cs) (alike e f) = left_irr cs f

left_asym : (cs ds : List ℕ) → FromLeft cs ds → FromLeft ds cs → ⊥
left_asym (c ∷ cs) [] x5 _ = elim x5 [ ]
left_asym [] ds z2 _ = elim z2 [ ]
left_asym (c ∷ cs) (d ∷ ds) (lower h e) (lower g k) = omega arith
left_asym (c ∷ cs) (d ∷ ds) (lower h e) (alike g k) = omega arith
left_asym (c ∷ cs) (d ∷ ds) (alike e f) (lower g k) = omega arith
left_asym (c ∷ cs) (d ∷ ds) (alike e f) (alike g k) = left_asym cs ds f k

pub before_irr : (c : Case) → Before c c → ⊥
before_irr c (shorter h) = omega arith
before_irr c (by_code f) = left_irr c.codes f
before_irr c (by_packing e h) = omega arith

pub before_asym : (c d : Case) → Before c d → Before d c → ⊥
before_asym c d (shorter h) (shorter g) = omega arith
before_asym c d (shorter h) (by_code f) = omega (arith, left_long d.codes c.codes f)
before_asym c d (shorter h) (by_packing e g) = let k : length d.codes ≡ length c.codes = ap length e in omega arith
before_asym c d (by_code f) (shorter h) = omega (arith, left_long c.codes d.codes f)
before_asym c d (by_code f) (by_code g) = left_asym c.codes d.codes f g
before_asym c d (by_code f) (by_packing e g) = left_irr c.codes (subst (λ (x : List ℕ). FromLeft c.codes x) e f)
before_asym c d (by_packing e h) (shorter g) = let k : length c.codes ≡ length d.codes = ap length e in omega arith
before_asym c d (by_packing e h) (by_code g) = left_irr d.codes (subst (λ (x : List ℕ). FromLeft d.codes x) e g)
before_asym c d (by_packing e h) (by_packing d' g) = omega arith

-- ---- the lists of k codes ----

-- each has that length, and codes of the four alone
abbrev Codes : List ℕ → Type 0
Codes cs = (x : ℕ) → Memᴰ x cs → Memᴰ x scalars

pub lists_are : (k : ℕ) (cs : List ℕ) → Memᴰ cs (lists_of k) → (length cs ≡ k) × Codes cs
unfolding lists_of
lists_are zero cs m = nil (Memᴰ.cases_cons m)
  where
    nil : (cs ≡ []) ⊎ Memᴰ cs [] → (length cs ≡ 0) × Codes cs
    nil (inl e) = (ap length e, λ x n. absurd (Memᴰ.not-nil (subst (λ (l : List ℕ). Memᴰ x l) e n)))
    nil (inr n) = absurd (Memᴰ.not-nil n)
lists_are (suc k) cs m =
    let r = in_flat (λ (c : ℕ). map (λ (l : List ℕ). c ∷ l) (lists_of k)) scalars m in
    let q = Memᴰ.of_map (λ (l : List ℕ). r.0 ∷ l) (lists_of k) r.2 in
    let s = lists_are k q.0 q.1 in
    (sym (ap length q.2) ∙ ap suc s.0, λ x n. each r.0 q.0 r.1 s.1 x (Memᴰ.cases_cons (subst (λ (l : List ℕ). Memᴰ x l) (sym q.2) n)))
  where
    each : (c : ℕ) (l : List ℕ) → Memᴰ c scalars → Codes l → (x : ℕ) → (x ≡ c) ⊎ Memᴰ x l → Memᴰ x scalars
    each c l m f x (inl e) = Memᴰ.cast e m
    each c l m f x (inr n) = f x n

-- and each such list is among them
pub lists_all : (cs : List ℕ) → Codes cs → Memᴰ cs (lists_of (length cs))
unfolding lists_of
lists_all [] f = Memᴰ.head refl
lists_all (c ∷ cs) f =
    flat_in (λ (c : ℕ). map (λ (l : List ℕ). c ∷ l) (lists_of (length cs))) scalars (f c (Memᴰ.head refl))
    (Memᴰ.map (λ (l : List ℕ). c ∷ l) (lists_all cs (λ x m. f x (Memᴰ.tail m))))

-- lists by code from the left
pub lists_ordered : (k : ℕ) → Ordered FromLeft (lists_of k)
unfolding lists_of
lists_ordered zero = (λ y m. absurd (Memᴰ.not-nil m), tt)
lists_ordered (suc k) =
    ordered_flat Less FromLeft (λ (c : ℕ). map (λ (l : List ℕ). c ∷ l) (lists_of k)) scalars
    (λ c. ordered_map FromLeft FromLeft (λ (l : List ℕ). c ∷ l) (λ x y f. alike refl f) (lists_of k) (lists_ordered k))
    (λ c d _ _ h u v m n.
    let p = Memᴰ.of_map (λ (l : List ℕ). c ∷ l) (lists_of k) m in
    let q = Memᴰ.of_map (λ (l : List ℕ). d ∷ l) (lists_of k) n in
    subst (λ (x : List ℕ). FromLeft x v) p.2 (subst (λ (y : List ℕ). FromLeft (c ∷ p.0) y) q.2
    (lower h ((lists_are k p.0 p.1).0 ∙ sym (lists_are k q.0 q.1).0))))
    (rises_ordered 0 (1 ∷ 2 ∷ 3 ∷ []) (omega arith, (omega arith, (omega arith, tt))))

-- ---- the cases of k members ----

abbrev under : List ℕ → ℕ → Case
under cs q = record { codes = cs; packing = q }

-- a case of k members: its length, its codes and its packing
pub record CaseOf (k : ℕ) (c : Case) : Type 0 where
  pub long : length c.codes ≡ k
  pub scalar : Codes c.codes
  pub under : Memᴰ c.packing packings

pub cases_are : (k : ℕ) (c : Case) → Memᴰ c (cases_of k) → CaseOf k c
cases_are k c m =
    let r = in_flat under_each (lists_of k) m in
    let q = Memᴰ.of_map (under r.0) packings r.2 in
    let s = lists_are k r.0 r.1 in
    subst (CaseOf k) q.2 (record { long = s.0; scalar = s.1; under = q.1 })

pub cases_all : (c : Case) → Codes c.codes → Memᴰ c.packing packings → Memᴰ c (cases_of (length c.codes))
cases_all c f m = flat_in under_each (lists_of (length c.codes)) (lists_all c.codes f) (Memᴰ.map (under c.codes) m)

pub cases_ordered : (k : ℕ) → Ordered Before (cases_of k)
cases_ordered k =
    ordered_flat FromLeft Before under_each (lists_of k)
    (λ cs. ordered_map Less Before (under cs) (λ x y h. by_packing refl h) packings
    (rises_ordered 0 (1 ∷ 2 ∷ 4 ∷ 8 ∷ []) (omega arith, (omega arith, (omega arith, (omega arith, tt))))))
    (λ cs ds _ _ f u v m n.
    let p = Memᴰ.of_map (under cs) packings m in
    let q = Memᴰ.of_map (under ds) packings n in
    by_code (subst (λ (x : Case). FromLeft x.codes v.codes) p.2 (subst (λ (y : Case). FromLeft cs y.codes) q.2 f)))
    (lists_ordered k)

-- ---- those of up to n members ----

to_are : (n : ℕ) (c : Case) → Memᴰ c (cases_to n) → IsCase n c
unfolding cases_to
to_are zero c m = let r = cases_are 0 c m in record { short = omega (arith, r.long); scalar = r.scalar; under = r.under }
to_are (suc n) c m = go (λ (k : Memᴰ c (cases_to n)). to_are n c k) (Memᴰ.append_cases (cases_to n) m)
  where
    go : (Memᴰ c (cases_to n) → IsCase n c) → Memᴰ c (cases_to n) ⊎ Memᴰ c (cases_of (suc n)) → IsCase (suc n) c
    go below (inl k) = let r = below k in record { short = omega (arith, r.short); scalar = r.scalar; under = r.under }
    go below (inr k) = let r = cases_are (suc n) c k in record { short = omega (arith, r.long); scalar = r.scalar; under = r.under }

to_all : (n : ℕ) (c : Case) → IsCase n c → Memᴰ c (cases_to n)
unfolding cases_to
to_all zero c p =
    let e : length c.codes ≡ 0 = omega (arith, p.short) in
    subst (λ (k : ℕ). Memᴰ c (cases_of k)) e (cases_all c p.scalar p.under)
to_all (suc n) c p = go (λ (q : IsCase n c). to_all n c q) (eq-or-lt_of_le p.short)
  where
    go : (IsCase n c → Memᴰ c (cases_to n)) → (length c.codes ≡ suc n) ⊎ (length c.codes < suc n) → Memᴰ c (cases_to n ++ cases_of (suc n))
    go below (inl e) = Memᴰ.append_right (cases_to n) (subst (λ (k : ℕ). Memᴰ c (cases_of k)) e (cases_all c p.scalar p.under))
    go below (inr h) = Memᴰ.append_left (cases_of (suc n)) (below (record { short = omega arith; scalar = p.scalar; under = p.under }))

to_ordered : (n : ℕ) → Ordered Before (cases_to n)
unfolding cases_to
to_ordered zero = cases_ordered 0
to_ordered (suc n) =
    ordered_append Before (cases_to n) (cases_of (suc n)) (to_ordered n) (cases_ordered (suc n))
    (λ x y m k. shorter (omega (arith, (to_are n x m).short, (cases_are (suc n) y k).long)))

-- the list is what document 02 says, and no other list is
pub all_cases : (n : ℕ) → AllCases n (cases_to n)
all_cases n = record {
  only = to_are n;
  complete = to_all n;
  once = once Before before_irr (cases_to n) (to_ordered n);
  ordered = to_ordered n;
}

pub one_list : (n : ℕ) (xs ys : List Case) → AllCases n xs → AllCases n ys → xs ≡ ys
one_list n xs ys p q =
    one_order Before before_irr before_asym xs ys p.ordered q.ordered (λ c m. q.complete c (p.only c m)) (λ c m. p.complete c (q.only c m))
