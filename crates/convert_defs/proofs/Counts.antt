-- The converted count of a conversion that is accepted has the source's size, at any width and for any sound comparison.
-- Assumes nothing.
use mathlib.Core.Path.{◌≡◌, refl}
use mathlib.Core.Logic.{inl, inr}
use Prim.Native.Nat.{ℕ, ◌+◌, ◌*◌, ◌≤◌, ◌<◌}
use native.Mathlib.Nat.{le-mul_of_pos_right}
use native.Mathlib.Omega.{arith}
use Rattle.util_defs.specs.Width.{M}
use Rattle.util_defs.specs.Refusal.{None}
use Rattle.trailing_defs.specs.Size.{Trailing, A, p, size_at}
use Rattle.trailing_defs.proofs.Sizes.{size_ge}
use Rattle.layout_defs.specs.Layout.{Marks, Info, Layout, size_in, layout_causes, FitsWidth}
use Rattle.cast_defs.proofs.Grants.{align_pos}
use Rattle.shift_defs.specs.Match.{Comparison, Sound, Matches}
use Rattle.shift_defs.specs.Shift.{IsShift}
use Rattle.shift_defs.proofs.Matching.{match_sizes}
use Rattle.convert_defs.specs.Convert.{Params, KindsConvert, fixed_to_fixed, fixed_to_trailing, trailing_to_trailing, Converted}

-- a count is at most its size, where the elements have one
count_le : (w : ℕ) (t : Trailing) (n : ℕ) → 0 < w → (t.word ≡ 0 → ⊥) → 0 < t.elem → n ≤ size_at w t n
count_le w t n pos nw h =
    omega (arith, le-mul_of_pos_right n h, size_ge t.base (A w t) (p w t) (n * t.elem) (align_pos w t pos nw))

shift_match : {w : ℕ} {same : Comparison} {s t : Trailing} {d : ℕ} → IsShift w same s t d → Matches w same s t d
shift_match (inl f) = f.match
shift_match (inr f) = f.match

-- the converted count keeps what it should, where the kinds convert
pub count_kept : {i j : Info} {q : Params} (w : ℕ) (same : Comparison) (a b : ℕ) (k m : Marks) (n : ℕ) → 0 < w → Sound w same
    → let s : Layout = record { align = a; info = i; mark = k.0; modifier = k.1 } in
    let t : Layout = record { align = b; info = j; mark = m.0; modifier = m.1 } in
    FitsWidth w s → FitsWidth w t → None (layout_causes w s) → None (layout_causes w t) → KindsConvert w same i j q
    → size_in w i n ≤ M w → Converted w i j q n
count_kept w same a b k m n pos sound hs ht oks okt (fixed_to_fixed {a = x}) fits =
    record { elem = λ z. z; fits = omega arith; count = refl; size = refl }
count_kept w same a b k m n pos sound hs ht oks okt (fixed_to_trailing {a = x} {n = c} {t = u} e) fits = record {
  elem = λ z. omega (arith, e.elem);
  fits = omega (arith, count_le w u c pos okt.1.0 e.elem, e.size);
  count = tt;
  size = e.size;
}
count_kept w same a b k m n pos sound hs ht oks okt (trailing_to_trailing {s = v} {t = u} {d = d} {k = f} x h) fits =
    let z = match_sizes sound (omega (arith, oks.1.0)) hs.word (omega (arith, okt.1.0)) ht.word (shift_match h) x n in
    record {
      elem = λ y. omega (arith, x.target);
      fits = omega (arith, count_le w u (d + n * f) pos okt.1.0 x.target);
      count = tt;
      size = z;
    }
