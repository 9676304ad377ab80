-- Final padding, and what padding a layout needs (document 01, module 4; the last step of the Reference's rule
-- layout.repr.c.struct.size-field-offset). Assumes nothing.
use Rattle.std.specs.Prelude.{◌≡◌, Bool, true, false, cond, not, ◌&&◌, ◌||◌, List, [], ◌∷◌, ◌++◌, ◌⊎◌, ℕ, ◌+◌, ◌%◌, ◌≤◌, ◌<◌}
use Rattle.std.specs.Prelude.{eqb, ltb}
use Rattle.util_defs.specs.Width.{M}
use Rattle.util_defs.specs.Round.{up, down, GreatestMultiple}
use Rattle.util_defs.specs.Refusal.{Outcome, answered, Cause, unless, Tells}
use Rattle.rounding.specs.Word.{IsWord}
use Rattle.trailing_defs.specs.Size.{Trailing, A, p, size_at, HasSize}
use Rattle.layout_defs.specs.Layout.{Info, fixed, trailing, Layout, IsCount, size_in, layout_causes}
use Rattle.layout_defs.specs.Extend.{rounding_passes, LeastPlace}

-- a trailing layout under an alignment a above A: f = up(b, A) + p, new base down(f, a), new word a + (f mod a)
abbrev pub fixed_part : ℕ → Trailing → ℕ
fixed_part w t = up t.base (A w t) + p w t

abbrev pub coarser : ℕ → ℕ → Trailing → Trailing
coarser w a t = record { offset = t.offset; elem = t.elem; base = down (fixed_part w t) a; word = a + fixed_part w t % a }

-- otherwise b is rounded up to a
abbrev pub finer : ℕ → Trailing → Trailing
finer a t = record { offset = t.offset; elem = t.elem; base = up t.base a; word = t.word }

unfoldable pub padded_tail : ℕ → ℕ → Trailing → Trailing
padded_tail w a t = cond (ltb (A w t) a) (coarser w a t) (finer a t)

-- the size after padding to a
abbrev pub padded_info : ℕ → ℕ → Info → Info
padded_info w a (fixed s) = fixed (up s a)
padded_info w a (trailing t) = trailing (padded_tail w a t)

-- the mark after padding to a: that of a fixed layout falls if bytes were added, that of a trailing one stays
abbrev pub padded_mark : ℕ → Info → Bool → Bool
padded_mark a (fixed s) mark = mark && eqb (up s a) s
padded_mark a (trailing t) mark = mark

unfoldable pub padded : ℕ → Layout → Layout
padded w l = record {
  align = l.align;
  info = padded_info w l.align l.info;
  mark = padded_mark l.align l.info l.mark;
  modifier = l.modifier;
}

-- the number that rounding up must not take past M
abbrev pub padding_needs : ℕ → ℕ → Info → ℕ
padding_needs w a (fixed s) = up s a
padding_needs w a (trailing t) = cond (ltb (A w t) a) (fixed_part w t) (up t.base a)

abbrev pub pad_causes : ℕ → Layout → List Cause
pad_causes w l = layout_causes w l ++ (rounding_passes w (padding_needs w l.align l.info) ∷ [])

-- `pad_to_align`
unfoldable pub pad_for : ℕ → Layout → Outcome Layout
pad_for w l = unless (pad_causes w l) (padded w l)

-- u is the trailing layout t padded to a: where A is below a, the new base is the greatest multiple of a in the fixed part f,
-- and the
-- new phase the rest of it; otherwise the base is rounded up to a. The offset and the element size stay.
pub record PaddedTo (w a : ℕ) (t u : Trailing) : Type 0 where
  pub offset : u.offset ≡ t.offset
  pub elem : u.elem ≡ t.elem
  pub below : A w t < a → GreatestMultiple (fixed_part w t) a u.base × IsWord u.word a (fixed_part w t % a)
  pub other : a ≤ A w t → LeastPlace t.base a u.base × (u.word ≡ t.word)

-- a fixed size is rounded up
abbrev pub PaddedInfo : ℕ → ℕ → Info → Info → Type 0
PaddedInfo w a (fixed s) (fixed r) = LeastPlace s a r
PaddedInfo w a (trailing t) (trailing u) = PaddedTo w a t u
PaddedInfo w a (fixed s) (trailing u) = ⊥
PaddedInfo w a (trailing t) (fixed r) = ⊥

-- the mark does not fall: a fixed layout has no bytes added; a trailing one's mark stays
abbrev pub KeepsMark : Info → Info → Type 0
KeepsMark (fixed s) i = i ≡ fixed s
KeepsMark (trailing t) i = Unit {0}

-- what padding means; and the sizes are then the old ones rounded up to the alignment, at every count, as whole numbers
pub record Padded (w : ℕ) (l r : Layout) : Type 0 where
  pub align : r.align ≡ l.align
  pub info : PaddedInfo w l.align l.info r.info
  pub mark : Tells ((l.mark ≡ true) × KeepsMark l.info r.info) r.mark
  pub modifier : r.modifier ≡ l.modifier
  pub sizes : (n : ℕ) → IsCount l.info n → size_in w r.info n ≡ up (size_in w l.info n) l.align

-- document 02, request 14: where final padding is accepted the padded sizes are the old ones rounded up to the alignment at every
-- count, as whole numbers, and padding again is accepted and changes nothing
abbrev pub PadsSizes : ℕ → Layout → Type 0
PadsSizes w l =
    (r : Layout) → pad_for w l ≡ answered r
    → ((n : ℕ) → IsCount l.info n → size_in w r.info n ≡ up (size_in w l.info n) l.align) × (pad_for w r ≡ answered r)

-- `requires_static_padding`: the mark is unset
unfoldable pub static_for : ℕ → Layout → Outcome Bool
static_for w l = unless (layout_causes w l) (not l.mark)

-- `requires_dynamic_padding`: no for fixed; for trailing yes exactly when the size at 0 does not exist, or differs from o,
-- or e is not a multiple of A
abbrev pub DynamicPadding : ℕ → Info → Type 0
DynamicPadding w (fixed s) = ⊥
DynamicPadding w (trailing t) = (HasSize w t 0 → ⊥) ⊎ ((size_at w t 0 ≡ t.offset → ⊥) ⊎ (t.elem % A w t ≡ 0 → ⊥))

abbrev pub dynamic_padding : ℕ → Info → Bool
dynamic_padding w (fixed s) = false
dynamic_padding w (trailing t) =
    ltb (M w) (size_at w t 0) || (not (eqb (size_at w t 0) t.offset) || not (eqb (t.elem % A w t) 0))

unfoldable pub dynamic_for : ℕ → Layout → Outcome Bool
dynamic_for w l = unless (layout_causes w l) (dynamic_padding w l.info)
