-- Where a member lands, over any width, by a rounding up and a sum that wraps at that width or a greater one. Assumes nothing.
use mathlib.Core.Path.{◌≡◌, refl, sym, ap, ◌∙◌}
use mathlib.Core.Bool.{Bool, true, false, ◌||◌}
use Prim.Native.Nat.{ℕ, ◌+◌, ◌-◌, ◌%◌, ◌^◌, ◌≤◌, ◌<◌}
use native.Mathlib.Nat.{mod-eq_of_lt}
use native.Mathlib.Omega.{arith}
use borrow.Author.Tests.{le-ltb, ltb-false}
use lib.Dec.{ltb}
use lib.Pow.{pow_pos, pow_mono}
use Rattle.util_defs.specs.Width.{M}
use Rattle.util_defs.specs.Power.{PowerOfTwo}
use Rattle.util_defs.specs.Round.{up}
use Rattle.util_defs.specs.Refusal.{answered, refused, unless}
use Rattle.util_defs.proofs.Refusals.{told_true}
use Rattle.util_defs.proofs.Powers.{positive, tells_power}
use Rattle.util_defs.proofs.Rounding.{up_ge}
use Rattle.util_defs.proofs.Tables.{apart}
use Rattle.layout_defs.specs.Layout.{Info, fixed, trailing, Layout}
use Rattle.layout_defs.specs.Extend.{member_align, place_of, placed_at, is_member_past_m, round_up_for}
use Rattle.compose_defs.specs.Places.{end_of, Lands}
use Rattle.compose_defs.proofs.Accepted.{went}
use Rattle.compose_defs.proofs.Places.{info_after, place_is}

-- rounding up is not refused where the step is not
rounds : (w v a : ℕ) → PowerOfTwo a → a < 2 ^ w → up v a ≤ M w → round_up_for w v a ≡ answered (up v a)
unfolding round_up_for unless
rounds w v a p h g = rw (told_true (tells_power w a h) p, le-ltb (M w) (up v a) g)

-- the end of a member that is not refused by 9 does not pass M
end_fits : (w q : ℕ) (i : Info) → is_member_past_m w q i ≡ false → q + end_of i ≤ M w
end_fits w q (fixed s) e = ltb-false (M w) (q + s) e
end_fits w q (trailing t) e = ltb-false (M w) (q + t.base) (second (ltb (M w) (q + t.offset)) e)
  where
    second : (a : Bool) {b : Bool} → (a || b) ≡ false → b ≡ false
    second true e = let z : ◌≡◌ {A = ℕ} 0 1 = cc in absurd (omega arith)
    second false e = e

end_placed : (q : ℕ) (i : Info) → end_of (placed_at q i) ≡ q + end_of i
end_placed q (fixed s) = refl
end_placed q (trailing t) = refl

-- rounded up and added up at w bits, and kept at v of them
pub landed : (v w p end : ℕ) (m : Layout) {place sum : ℕ} → v ≤ w → round_up_for w end (member_align m.align p) ≡ answered place → sum ≡ (place + end_of m.info) % 2 ^ w
    → Lands v p end m (place % 2 ^ v) ((place - end) % 2 ^ v) sum
landed v w p end m {place} {sum} n e f l r h g =
    let t = went v p l m g in
    let a = member_align m.align p in
    let x : 2 ^ v ≤ 2 ^ w = pow_mono n in
    let q : place_of l m p ≡ up end a = place_is v p l m h t in
    let o : answered place ≡ answered (up end a) = sym e ∙ rounds w end a t.power (omega (arith, t.below, x)) (omega (arith, t.place, x)) in
    let k : place ≡ up end a = cc in
    let b : place + end_of m.info ≤ M v = omega (arith, end_fits v (place_of l m p) m.info t.fits) in
    let c : (place + end_of m.info) % 2 ^ w ≡ place + end_of m.info = mod-eq_of_lt (omega (arith, pow_pos v, x)) in
    let y : place % 2 ^ v ≡ place = mod-eq_of_lt (omega (arith, pow_pos v)) in
    let z : (place - end) % 2 ^ v ≡ place - end = mod-eq_of_lt (omega (arith, pow_pos v)) in
    let d : end_of r.info ≡ place_of l m p + end_of m.info = ap end_of (info_after l m p t.is) ∙ end_placed (place_of l m p) m.info in
    (y ∙ k ∙ sym q, (omega (arith, y, z, up_ge end a (positive t.power)), omega (arith, c, d)))

pub never_landed : (v w p end : ℕ) (m : Layout) (x y z : ℕ) {k : ℕ} → v ≤ w → round_up_for w end (member_align m.align p) ≡ refused k → Lands v p end m x y z
never_landed v w p end m x y z n e l r h g =
    let t = went v p l m g in
    let b : 2 ^ v ≤ 2 ^ w = pow_mono n in
    let q : place_of l m p ≡ up end (member_align m.align p) = place_is v p l m h t in
    absurd (apart (sym e ∙ rounds w end (member_align m.align p) t.power (omega (arith, t.below, b)) (omega (arith, t.place, b))))
