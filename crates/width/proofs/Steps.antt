-- The steps of a loop that serves both widths, on layouts whose numbers the width holds: they are those of the width, and what they
-- give is held. Assumes nothing.
use mathlib.Core.Bool.{Bool, true, false}
use mathlib.Core.Path.{◌≡◌, refl, sym, subst, ◌∙◌}
use Prim.Native.Nat.{ℕ, ◌^◌, ◌<◌}
use native.Mathlib.Nat.{mod-lt}
use native.Mathlib.Omega.{arith}
use lib.Pow.{pow_pos}
use Rattle.util_defs.specs.Width.{M}
use Rattle.util_defs.specs.Refusal.{Outcome, answered, refused}
use Rattle.util_defs.proofs.Tables.{apart}
use Rattle.layout_defs.specs.Layout.{Info, fixed, trailing, Layout}
use Rattle.layout_defs.specs.Extend.{extend_for}
use Rattle.padding_defs.specs.Pad.{pad_for}
use Rattle.make.specs.Make.{new_zst_for}
use Rattle.describe_defs.specs.Elements.{array_for, slice_of_for}
use Rattle.describe_defs.specs.Faults.{ScalarsAccepted}
use Rattle.describe_defs.proofs.Accepted.{scalars64}
use Rattle.widths_defs.specs.Low.{mapped}
use Rattle.widths_layouts_defs.specs.Low.{low_layout, InfoIn, LayoutIn}
use Rattle.widths_layouts_defs.specs.Within.{step_within}
use Rattle.widths_layouts_defs.proofs.Made.{zst_low, asked_in, zst_same}
use Rattle.widths_layouts_defs.proofs.Step.{extend_narrows, extend_low}
use Rattle.widths_layouts_defs.proofs.Closing.{pad_narrows}
use Rattle.scalar32.proofs.Accepted.{scalars32}
use Rattle.elements32.proofs.Narrowed.{array_narrows, slice_same}
use Rattle.width.specs.Width.{bits_of, target_of, width_extend, width_pad, width_array, Held}

-- ---- what v bits keep, they hold: so they hold what is answered at v bits
low_in : (v : ℕ) (l : Layout) → LayoutIn v (low_layout v l)
low_in v l = record { align = mod-lt l.align (pow_pos v); info = go l.info }
  where
    go : (i : Info) → InfoIn v (low_layout v (record { align = 0; info = i; mark = l.mark; modifier = l.modifier })).info
    go (fixed s) = mod-lt s (pow_pos v)
    go (trailing t) = record {
      offset = mod-lt t.offset (pow_pos v);
      elem = mod-lt t.elem (pow_pos v);
      base = mod-lt t.base (pow_pos v);
      word = mod-lt t.word (pow_pos v);
    }

pub answered_in : (v : ℕ) (p : Outcome Layout) {o : Outcome Layout} {r : Layout} → o ≡ mapped (low_layout v) p → o ≡ answered r → LayoutIn v r
answered_in v (answered x) {r = r} e f = let z : low_layout v x ≡ r = cc in subst (LayoutIn v) z (low_in v x)
answered_in v (refused k) e f = absurd (apart (sym e ∙ f))

-- ---- the steps
pub extend_at : (k : Bool) (l m : Layout) (p : ℕ) → Held k l → Held k m → p < 2 ^ bits_of k → extend_for (bits_of k) l m p ≡ width_extend k l m p
extend_at true l m p hl hm hp = extend_narrows 32 64 l m p (omega arith) hl hm hp
extend_at false l m p hl hm hp = refl

pub extend_held : (k : Bool) (l m : Layout) (p : ℕ) {r : Layout} → Held k l → Held k m → p < 2 ^ bits_of k → width_extend k l m p ≡ answered r → Held k r
extend_held true l m p hl hm hp e =
    answered_in 32 (step_within (M 32) m.info (extend_for 64 l m p)) (extend_low 32 64 l m p (omega arith) hl hm hp) (extend_narrows 32 64 l m p (omega arith) hl hm hp ∙ e)
extend_held false l m p hl hm hp e = tt

pub pad_at : (k : Bool) (l : Layout) → Held k l → pad_for (bits_of k) l ≡ width_pad k l
pad_at true l h = pad_narrows 32 64 l (omega arith) h
pad_at false l h = refl

pub array_at : (k : Bool) (l : Layout) (n : ℕ) → Held k l → array_for (bits_of k) l n ≡ width_array k l n
array_at true l n h = array_narrows 32 64 l n (omega arith) h.align
array_at false l n h = refl

pub slice_at : (k : Bool) (l : Layout) → Held k l → slice_of_for (bits_of k) l ≡ slice_of_for 64 l
slice_at true l h = slice_same 32 64 l (omega arith) h.align
slice_at false l h = refl

pub zst_at : (k : Bool) (a : ℕ) → a < 2 ^ bits_of k → new_zst_for (bits_of k) a ≡ new_zst_for 64 a
zst_at true a h = zst_same 32 64 a (omega arith) (asked_in 32 a (omega arith) h)
zst_at false a h = refl

pub zst_held : (k : Bool) (a : ℕ) {r : Layout} → a < 2 ^ bits_of k → new_zst_for 64 a ≡ answered r → Held k r
zst_held true a h e =
    let g = asked_in 32 a (omega arith) h in
    answered_in 32 (new_zst_for 64 a) (zst_low 32 64 a (omega arith) g) (zst_same 32 64 a (omega arith) g ∙ e)
zst_held false a h e = tt

-- ---- the scalars
pub scalars_at : (k : Bool) → ScalarsAccepted (bits_of k) (target_of k)
scalars_at true = scalars32
scalars_at false = scalars64
