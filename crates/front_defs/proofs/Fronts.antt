-- What serves, and the part that comes back. Assumes nothing.
use mathlib.Core.Path.{◌≡◌, refl, sym, ap, subst, ◌∙◌}
use mathlib.Core.List.{List}
use Prim.Native.Nat.{ℕ, ◌^◌, ◌≤◌, ◌<◌}
use lib.ListN.{length}
use lib.Seq.{length-take-le}
use Rattle.util_defs.specs.Refusal.{Outcome, answered, refused, Meets, answers, refuses}
use Rattle.util_defs.proofs.Refusals.{one_number, no_number}
use Rattle.layout_defs.specs.Layout.{Layout}
use Rattle.cast_defs.specs.Cast.{prefix, cast_causes, Grant, cast_for, GrantMeans}
use Rattle.cast_defs.proofs.Grants.{cast_meets}
use Rattle.cast_defs.proofs.Only.{one_grant}
use Rattle.front_defs.specs.Front.{Serving, of_map, of_spare, of_neither, chosen, serving_for, part_of, split_of, front_for}
use Rattle.front_defs.specs.Front.{IsGranted, Serves, map_serves, spare_serves, none_serves, FrontMeans}

module _ (w : ℕ) (l : Layout) (a m b s : ℕ) where
  -- casts that mean what they gave make the choice mean it
  choice : (o u : Outcome Grant) → Meets (cast_causes w l prefix a m) (GrantMeans w l.info prefix m) o
      → Meets (cast_causes w l prefix b s) (GrantMeans w l.info prefix s) u → Serves w l a m b s (chosen o u)
  choice (answered g) u (answers n x) y = map_serves (record { none = n; means = x })
  choice (refused k) (answered g) (refuses f) (answers n x) = spare_serves f (record { none = n; means = x })
  choice (refused k) (refused j) (refuses f) (refuses e) = none_serves f e

  -- what serves is what document 02 says
  pub serves : l.align < 2 ^ w → 0 < w → Serves w l a m b s (serving_for w l a m b s)
  unfolding serving_for
  serves h f = choice (cast_for w l prefix a m) (cast_for w l prefix b s) (cast_meets w l prefix a m h f) (cast_meets w l prefix b s h f)

  -- and nothing else is
  pub one_serving : (x y : Serving) → Serves w l a m b s x → Serves w l a m b s y → x ≡ y
  one_serving (of_map g) (of_map h) (map_serves u) (map_serves v) = ap of_map (one_grant g h u.means v.means)
  one_serving (of_map g) (of_spare k h) (map_serves u) (spare_serves f v) = absurd (no_number (cast_causes w l prefix a m) k u.none f)
  one_serving (of_map g) (of_neither k j) (map_serves u) (none_serves f e) = absurd (no_number (cast_causes w l prefix a m) k u.none f)
  one_serving (of_spare k h) (of_map g) (spare_serves f v) (map_serves u) = absurd (no_number (cast_causes w l prefix a m) k u.none f)
  one_serving (of_spare k g) (of_spare j h) (spare_serves f u) (spare_serves e v) =
      let p = one_number (cast_causes w l prefix a m) k j f e in
      let q = one_grant g h u.means v.means in
      λ i. of_spare (p i) (q i)
  one_serving (of_spare k g) (of_neither i j) (spare_serves f u) (none_serves e d) = absurd (no_number (cast_causes w l prefix b s) j u.none d)
  one_serving (of_neither k j) (of_map g) (none_serves f e) (map_serves u) = absurd (no_number (cast_causes w l prefix a m) k u.none f)
  one_serving (of_neither i j) (of_spare k g) (none_serves e d) (spare_serves f u) = absurd (no_number (cast_causes w l prefix b s) j u.none d)
  one_serving (of_neither k j) (of_neither k' j') (none_serves f e) (none_serves f' e') =
      let p = one_number (cast_causes w l prefix a m) k k' f f' in
      let q = one_number (cast_causes w l prefix b s) j j' e e' in
      λ i. of_neither (p i) (q i)

-- a granted split is within the bytes
pub split_within : {w : ℕ} {l : Layout} {addr len : ℕ} {g : Grant} → IsGranted w l addr len g → g.split ≤ len
split_within {w} {l} {addr} {len} {g} x = subst (λ (n : ℕ). n ≤ len) (sym x.means.split) x.means.greatest.fits

module _ (w : ℕ) (l : Layout) (a : ℕ) (map : List ℕ) (b : ℕ) (spare : List ℕ) where
  -- the part is as long as the split
  part_split : (x : Serving) → Serves w l a (length map) b (length spare) x → length (part_of x map spare) ≡ split_of x
  part_split (of_map g) (map_serves u) = length-take-le g.split map (split_within u)
  part_split (of_spare k g) (spare_serves f u) = length-take-le g.split spare (split_within u)
  part_split (of_neither k j) x = refl

  -- the part that comes back is the one of document 02, and no other
  pub front_means : l.align < 2 ^ w → 0 < w → FrontMeans w l a map b spare (front_for w l a map b spare)
  front_means h f =
      let v = serves w l a (length map) b (length spare) h f in
      record {
        serving = serving_for w l a (length map) b (length spare);
        serves = v;
        bytes = refl;
        split = part_split (serving_for w l a (length map) b (length spare)) v;
      }

  pub one_front : (x y : List ℕ) → FrontMeans w l a map b spare x → FrontMeans w l a map b spare y → x ≡ y
  one_front x y u v =
      u.bytes ∙ ap (λ (z : Serving). part_of z map spare) (one_serving w l a (length map) b (length spare) u.serving v.serving u.serves v.serves) ∙ sym v.bytes

-- ---- what is worked out from the casts' answers means what it says ----

module _ (w : ℕ) (l : Layout) (a m b s : ℕ) (h : l.align < 2 ^ w) (f : 0 < w) where
  pub serves_as : (o u : Outcome Grant) → cast_for w l prefix a m ≡ o → cast_for w l prefix b s ≡ u
      → (chosen o u ≡ serving_for w l a m b s) × Serves w l a m b s (chosen o u)
  unfolding serving_for
  serves_as o u d e =
      let q : chosen o u ≡ serving_for w l a m b s = sym (λ i. chosen (d i) (e i)) in
      (q, subst (Serves w l a m b s) (sym q) (serves w l a m b s h f))

-- the part is within the buffer that serves
pub within_map : {w : ℕ} {l : Layout} {a m b s : ℕ} {g : Grant} → Serves w l a m b s (of_map g) → g.split ≤ m
within_map (map_serves u) = split_within u

pub within_spare : {w : ℕ} {l : Layout} {a m b s k : ℕ} {g : Grant} → Serves w l a m b s (of_spare k g) → g.split ≤ s
within_spare (spare_serves f u) = split_within u

pub front_as : (w : ℕ) (l : Layout) (a : ℕ) (map : List ℕ) (b : ℕ) (spare : List ℕ) (x : Serving) → l.align < 2 ^ w → 0 < w
    → x ≡ serving_for w l a (length map) b (length spare)
    → (part_of x map spare ≡ front_for w l a map b spare) × FrontMeans w l a map b spare (part_of x map spare)
front_as w l a map b spare x h f e =
    let q : part_of x map spare ≡ front_for w l a map b spare = ap (λ (z : Serving). part_of z map spare) e in
    (q, subst (FrontMeans w l a map b spare) (sym q) (front_means w l a map b spare h f))
