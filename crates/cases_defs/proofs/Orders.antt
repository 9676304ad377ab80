-- Lists in order: what stands in them, one behind the other, and that nothing but the order and the elements decides them.
-- Assumes nothing.
use mathlib.Core.Path.{◌≡◌, refl, sym, subst, ◌∙◌}
use mathlib.Core.List.Memᴰ
use mathlib.Core.List.{List, [], ◌∷◌, ◌++◌, map, flat_map, Memᴰ}
use mathlib.Core.Logic.{◌⊎◌, inl, inr}
use Prim.Native.Nat.{ℕ, ◌<◌}
use native.Mathlib.Omega.{arith}
use Rattle.cases_defs.specs.Order.{Ordered, NoneTwice}

module _ {T : Type 0} (R : T → T → Type 0) where
  -- lists in order, one before the other
  pub ordered_append : (xs ys : List T) → Ordered R xs → Ordered R ys → ((x y : T) → Memᴰ x xs → Memᴰ y ys → R x y)
      → Ordered R (xs ++ ys)
  ordered_append [] ys p q f = q
  ordered_append (x ∷ xs) ys p q f =
      (λ y m. step y (Memᴰ.append_cases xs m), ordered_append xs ys p.1 q (λ u v m n. f u v (Memᴰ.tail m) n))
    where
      step : (y : T) → Memᴰ y xs ⊎ Memᴰ y ys → R x y
      step y (inl m) = p.0 y m
      step y (inr m) = f x y (Memᴰ.head refl) m

  -- what is in order is there once
  pub once : ((x : T) → R x x → ⊥) → (xs : List T) → Ordered R xs → NoneTwice xs
  once irr [] p = tt
  once irr (x ∷ xs) p = (λ m. irr x (p.0 x m), once irr xs p.1)

  -- two lists in order that have the same elements are one
  module _ (irr : (x : T) → R x x → ⊥) (asym : (x y : T) → R x y → R y x → ⊥) where
    abbrev In : List T → List T → Type 0
    In xs ys = (x : T) → Memᴰ x xs → Memᴰ x ys

    -- the first elements are the same
    heads : (x y : T) (xs ys : List T) → Ordered R (x ∷ xs) → Ordered R (y ∷ ys) → In (x ∷ xs) (y ∷ ys) → In (y ∷ ys) (x ∷ xs) → x ≡ y
    heads x y xs ys p q f g = go (Memᴰ.cases_cons (f x (Memᴰ.head refl))) (Memᴰ.cases_cons (g y (Memᴰ.head refl)))
      where
        go : (x ≡ y) ⊎ Memᴰ x ys → (y ≡ x) ⊎ Memᴰ y xs → x ≡ y
        go (inl e) n = e
        go (inr m) (inl e) = sym e
        go (inr m) (inr n) = absurd (asym x y (p.0 y n) (q.0 x m))

    -- what stands behind one of them stands behind the other
    tails : (x y : T) (xs ys : List T) → x ≡ y → Ordered R (x ∷ xs) → In (x ∷ xs) (y ∷ ys) → In xs ys
    tails x y xs ys e p f z m = go (Memᴰ.cases_cons (f z (Memᴰ.tail m)))
      where
        go : (z ≡ y) ⊎ Memᴰ z ys → Memᴰ z ys
        go (inl d) = absurd (irr x (p.0 x (Memᴰ.cast (e ∙ sym d) m)))
        go (inr n) = n

    pub one_order : (xs ys : List T) → Ordered R xs → Ordered R ys → In xs ys → In ys xs → xs ≡ ys
    one_order [] [] p q f g = refl
    one_order [] (y ∷ ys) p q f g = absurd (Memᴰ.not-nil (g y (Memᴰ.head refl)))
    one_order (x ∷ xs) [] p q f g = absurd (Memᴰ.not-nil (f x (Memᴰ.head refl)))
    one_order (x ∷ xs) (y ∷ ys) p q f g =
        let e : x ≡ y = heads x y xs ys p q f g in
        let r : xs ≡ ys = one_order xs ys p.1 q.1 (tails x y xs ys e p f) (tails y x ys xs (sym e) q g) in
        λ i. e i ∷ r i

-- what a function that keeps the order makes of a list in order
pub ordered_map : {S T : Type 0} (R : S → S → Type 0) (Q : T → T → Type 0) (f : S → T) → ((x y : S) → R x y → Q (f x) (f y))
    → (xs : List S) → Ordered R xs → Ordered Q (map f xs)
ordered_map R Q f k [] p = tt
ordered_map {S} {T} R Q f k (x ∷ xs) p =
    (λ y m. let r = Memᴰ.of_map f xs m in subst (λ (z : T). Q (f x) z) r.2 (k x r.0 (p.0 r.0 r.1)), ordered_map R Q f k xs p.1)

-- what stands in the lists that a list makes stands in one of them, and the other way round
pub in_flat : {S T : Type 0} (f : S → List T) (xs : List S) {y : T} → Memᴰ y (flat_map f xs) → (x : S) × Memᴰ x xs × Memᴰ y (f x)
unfolding flat_map
in_flat f [] m = absurd (Memᴰ.not-nil m)
in_flat {S} {T} f (x ∷ xs) {y} m = step (λ (n : Memᴰ y (flat_map f xs)). in_flat f xs n) (Memᴰ.append_cases (f x) m)
  where
    step : (Memᴰ y (flat_map f xs) → (z : S) × Memᴰ z xs × Memᴰ y (f z)) → Memᴰ y (f x) ⊎ Memᴰ y (flat_map f xs)
        → (z : S) × Memᴰ z (x ∷ xs) × Memᴰ y (f z)
    step below (inl n) = (x, Memᴰ.head refl, n)
    step below (inr n) = let r = below n in (r.0, Memᴰ.tail r.1, r.2)

pub flat_in : {S T : Type 0} (f : S → List T) (xs : List S) {x : S} {y : T} → Memᴰ x xs → Memᴰ y (f x) → Memᴰ y (flat_map f xs)
unfolding flat_map
flat_in f [] m n = absurd (Memᴰ.not-nil m)
flat_in {S} {T} f (z ∷ xs) {x} {y} m n = step (λ (k : Memᴰ x xs). flat_in f xs k n) (Memᴰ.cases_cons m)
  where
    step : (Memᴰ x xs → Memᴰ y (flat_map f xs)) → (x ≡ z) ⊎ Memᴰ x xs → Memᴰ y (f z ++ flat_map f xs)
    step below (inl e) = Memᴰ.append_left (flat_map f xs) (subst (λ (v : S). Memᴰ y (f v)) e n)
    step below (inr k) = Memᴰ.append_right (f z) (below k)

-- lists in order that a list in order makes are in order, end to end
pub ordered_flat : {S T : Type 0} (R : S → S → Type 0) (Q : T → T → Type 0) (f : S → List T) (xs : List S)
    → ((x : S) → Ordered Q (f x)) → ((x y : S) → Memᴰ x xs → Memᴰ y xs → R x y → (u v : T) → Memᴰ u (f x) → Memᴰ v (f y) → Q u v)
    → Ordered R xs → Ordered Q (flat_map f xs)
unfolding flat_map
ordered_flat R Q f [] o k p = tt
ordered_flat {S} {T} R Q f (x ∷ xs) o k p =
    ordered_append Q (f x) (flat_map f xs) (o x)
    (ordered_flat R Q f xs o (λ u v m n. k u v (Memᴰ.tail m) (Memᴰ.tail n)) p.1)
    (λ u v m n. let r = in_flat f xs n in k x r.0 (Memᴰ.head refl) (Memᴰ.tail r.1) (p.0 r.0 r.1) u v m r.2)

-- numbers that rise from each to the next are in order
abbrev pub Less : ℕ → ℕ → Type 0
Less a b = a < b

abbrev pub Rises : ℕ → List ℕ → Type 0
Rises x [] = Unit {0}
Rises x (y ∷ ys) = (x < y) × Rises y ys

pub rises_ordered : (x : ℕ) (ys : List ℕ) → Rises x ys → Ordered Less (x ∷ ys)
rises_ordered x [] p = (λ z m. absurd (Memᴰ.not-nil m), tt)
rises_ordered x (y ∷ ys) p = let o = rises_ordered y ys p.1 in (λ z m. go z o.0 (Memᴰ.cases_cons m), o)
  where
    go : (z : ℕ) → ((v : ℕ) → Memᴰ v ys → y < v) → (z ≡ y) ⊎ Memᴰ z ys → x < z
    go z f (inl e) = let h : x < y = p.0 in omega arith
    go z f (inr m) = let h : x < y = p.0 in omega (arith, f z m)
