-- Layouts made of numbers at v bits, by w: the same; and a number rounded up. Assumes nothing.
use mathlib.Core.Path.{◌≡◌, refl, ap, ◌∙◌}
use mathlib.Core.Bool.{Bool, true, false, cond, not}
use mathlib.Core.List.{[], ◌∷◌}
use Prim.Native.Nat.{ℕ, ◌^◌, ◌≤◌, ◌<◌}
use native.Mathlib.Nat.{mod-eq_of_lt}
use native.Mathlib.Omega.{arith}
use borrow.Author.Tests.{lt-leb, le-leb}
use lib.Dec.{eqb, leb}
use lib.Pow.{pow_pos, pow_mono}
use Rattle.util_defs.specs.Width.{M}
use Rattle.util_defs.specs.Round.{up}
use Rattle.util_defs.specs.Refusal.{unless}
use Rattle.util_defs.specs.Helpers.{align_causes}
use Rattle.util_defs.proofs.Refusals.{tells_lt}
use Rattle.util_defs.proofs.Helpers.{align_decided}
use Rattle.layout_defs.specs.Extend.{rounding_passes, round_up_causes, round_up_for}
use Rattle.make.specs.Make.{asked, empty_layout, new_zst_for, type_causes, type_layout, type_for, slice_layout, slice_for}
use Rattle.make.proofs.Made.{type_decided}
use Rattle.widths_defs.specs.Low.{mapped, low}
use Rattle.widths_defs.specs.Within.{limited}
use Rattle.widths_defs.proofs.Widths.{held, same_power, unless_same, tables, limit}
use Rattle.widths_layouts_defs.specs.Low.{low_layout}
use Rattle.widths_layouts_defs.proofs.Layouts.{low_layout_lem}

-- `new_zst`
pub zst_same : (v w a : ℕ) → v ≤ w → asked a < 2 ^ v → new_zst_for v a ≡ new_zst_for w a
unfolding new_zst_for unless
zst_same v w a l h = simp (same_power v w (asked a) l h)

pub zst_low : (v w a : ℕ) → v ≤ w → asked a < 2 ^ v → new_zst_for v a ≡ mapped (low_layout v) (new_zst_for w a)
unfolding new_zst_for
zst_low v w a l h =
    unless_same (low_layout v) (align_causes v (asked a)) (empty_layout a) (align_decided v (asked a) h, λ _. tt)
    (λ _. low_layout_lem v (empty_layout a) (record { align = h; info = pow_pos v }))
    ∙ ap (mapped (low_layout v)) (zst_same v w a l h)

-- `for_type` and `for_unpadded_type`
pub type_low : (v w : ℕ) (mark : Bool) (size a : ℕ) → v ≤ w → size < 2 ^ v → a < 2 ^ v → type_for v mark size a ≡ mapped (low_layout v) (type_for w mark size a)
unfolding type_for unless
type_low v w mark size a l hs h =
    unless_same (low_layout v) (type_causes v size a) (type_layout mark size a) (type_decided v size a h)
    (λ _. low_layout_lem v (type_layout mark size a) (record { align = h; info = hs }))
    ∙ simp (same_power v w a l h)

-- `for_slice`
pub slice_low : (v w size a : ℕ) → v ≤ w → size < 2 ^ v → a < 2 ^ v → slice_for v size a ≡ mapped (low_layout v) (slice_for w size a)
unfolding slice_for unless
slice_low v w size a l hs h =
    unless_same (low_layout v) (type_causes v size a) (slice_layout size a) (type_decided v size a h)
    (λ _. low_layout_lem v (slice_layout size a) (record { align = h; info = record { offset = pow_pos v; elem = hs; base = pow_pos v; word = h } }))
    ∙ simp (same_power v w a l h)

-- an alignment asked for is held where its parameter is
pub asked_in : (v a : ℕ) → 0 < v → a < 2 ^ v → asked a < 2 ^ v
asked_in v a pos h = go (eqb a 0)
  where
    go : (b : Bool) → cond b 1 a < 2 ^ v
    go true = let m : 2 ^ 1 ≤ 2 ^ v = pow_mono pos in omega arith
    go false = h

-- `round_up`: 8 where what is rounded passes M at v
round_narrows : (v w n a : ℕ) → v ≤ w → a < 2 ^ v → round_up_for v n a ≡ limited 8 (λ x. leb x (M v)) (round_up_for w n a)
unfolding round_up_for unless
round_narrows v w n a h ha =
    let m : 2 ^ v ≤ 2 ^ w = pow_mono h in
    let z = up n a in
    tables (limited 8 (λ x. leb x (M v))) (λ k. refl) (align_causes v a) (align_causes w a) (rounding_passes v z ∷ []) (rounding_passes w z ∷ []) z z
    ((ap not (same_power v w a h ha), refl), tt) (align_decided w a (held v w h ha), λ _. tt)
    (λ _. limit 8 z (λ x. leb x (M v)) (tells_lt (M v) z) (tells_lt (M w) z) (λ x. omega (arith, x, m)) (λ x. lt-leb z (M v) x) (λ x. le-leb z (M v) (omega (arith, x))))

pub round_low : (v w n a : ℕ) → v ≤ w → a < 2 ^ v → round_up_for v n a ≡ mapped (low v) (limited 8 (λ x. leb x (M v)) (round_up_for w n a))
unfolding round_up_for
round_low v w n a h ha =
    unless_same (low v) (round_up_causes v n a) (up n a) (align_decided v a ha, λ _. (tells_lt (M v) (up n a), λ _. tt))
    (λ x. mod-eq_of_lt (omega (arith, x.1.0, pow_pos v)))
    ∙ ap (mapped (low v)) (round_narrows v w n a h ha)
