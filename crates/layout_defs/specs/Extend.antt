-- The member step: one member more at the end of a layout (document 01, module 4; the Reference's rules
-- layout.repr.c.struct.size-field-offset and layout.repr.alignment.packed-fields). Assumes nothing.
use Rattle.std.specs.Prelude.{◌≡◌, Bool, true, false, cond, not, ◌&&◌, ◌||◌, List, [], ◌∷◌, ◌++◌, ◌⊎◌, ℕ, ◌+◌, ◌%◌, ◌^◌, ◌≤◌}
use Rattle.std.specs.Prelude.{◌<◌, max, min, eqb, ltb}
use Rattle.util_defs.specs.Width.{M}
use Rattle.util_defs.specs.Power.{PowerOfTwo, power_of_two}
use Rattle.util_defs.specs.Round.{up}
use Rattle.util_defs.specs.Refusal.{Outcome, Cause, unless, Tells}
use Rattle.util_defs.specs.Helpers.{bad_align, Larger}
use Rattle.layout_defs.specs.Layout.{Info, fixed, trailing, Layout, layout_causes}

-- a member's alignment: the smaller of its own and the packing; packing 0 means that none was asked for
abbrev pub member_align : ℕ → ℕ → ℕ
member_align a packing = cond (eqb packing 0) a (min a packing)

-- the size that a member comes after (7 refuses a layout that has none)
abbrev pub preceding_size : Info → ℕ
preceding_size (fixed s) = s
preceding_size (trailing t) = 0

-- where a member is placed: the preceding size rounded up to the member's alignment
abbrev pub place_of : Layout → Layout → ℕ → ℕ
place_of l m packing = up (preceding_size l.info) (member_align m.align packing)

-- the alignment after the step: the larger of the layout's and the member's
abbrev pub step_align : Layout → Layout → ℕ → ℕ
step_align l m packing = max l.align (member_align m.align packing)

-- the size after the step: a trailing member has the place added to o and b
abbrev pub placed_at : ℕ → Info → Info
placed_at q (fixed s) = fixed (q + s)
placed_at q (trailing t) = trailing (record { offset = q + t.offset; elem = t.elem; base = q + t.base; word = t.word })

-- the mark after the step: it stays only if both had it and no gap arose
abbrev pub step_mark : Layout → Layout → ℕ → Bool
step_mark l m packing = l.mark && (m.mark && eqb (place_of l m packing) (preceding_size l.info))

-- the alignment modifier after the step: either had one
abbrev pub step_modifier : Layout → Layout → Bool
step_modifier l m = l.modifier || m.modifier

unfoldable pub extended : Layout → Layout → ℕ → Layout
extended l m packing = record {
  align = step_align l m packing;
  info = placed_at (place_of l m packing) m.info;
  mark = step_mark l m packing;
  modifier = step_modifier l m;
}

-- 5: the packing is no power of two
abbrev pub bad_packing : ℕ → ℕ → Cause
bad_packing w packing = record {
  number = 5;
  test = not (eqb packing 0 || power_of_two w packing);
  means = (packing ≡ 0) ⊎ PowerOfTwo packing → ⊥;
}

-- 6: the own or the member's alignment, or the packing, is above 2^29
abbrev pub greatest_align : ℕ
greatest_align = 2 ^ 29

abbrev pub above_greatest : ℕ → ℕ → ℕ → Cause
above_greatest own member packing = record {
  number = 6;
  test = ltb greatest_align own || (ltb greatest_align member || ltb greatest_align packing);
  means = (greatest_align < own) ⊎ ((greatest_align < member) ⊎ (greatest_align < packing));
}

-- 7: a member after a trailing part
abbrev pub IsTrailing : Info → Type 0
IsTrailing (fixed s) = ⊥
IsTrailing (trailing t) = Unit {0}

abbrev pub is_trailing : Info → Bool
is_trailing (fixed s) = false
is_trailing (trailing t) = true

abbrev pub after_trailing : Info → Cause
after_trailing i = record { number = 7; test = is_trailing i; means = IsTrailing i }

-- 8: rounding up passes M
abbrev pub rounding_passes : ℕ → ℕ → Cause
rounding_passes w v = record { number = 8; test = ltb (M w) v; means = M w < v }

-- q is the least place that is no lower than s and a multiple of a
pub record LeastPlace (s a q : ℕ) : Type 0 where
  pub after : s ≤ q
  pub aligned : q % a ≡ 0
  pub least : (k : ℕ) → s ≤ k → k % a ≡ 0 → q ≤ k

-- `round_up`: a number rounded up, as places and sizes are
abbrev pub round_up_causes : ℕ → ℕ → ℕ → List Cause
round_up_causes w v a = bad_align w a ∷ rounding_passes w (up v a) ∷ []

unfoldable pub round_up_for : ℕ → ℕ → ℕ → Outcome ℕ
round_up_for w v a = unless (round_up_causes w v a) (up v a)

-- 9: the member's size, o or b, placed at q, passes M
abbrev pub MemberPastM : ℕ → ℕ → Info → Type 0
MemberPastM w q (fixed s) = M w < q + s
MemberPastM w q (trailing t) = (M w < q + t.offset) ⊎ (M w < q + t.base)

abbrev pub is_member_past_m : ℕ → ℕ → Info → Bool
is_member_past_m w q (fixed s) = ltb (M w) (q + s)
is_member_past_m w q (trailing t) = ltb (M w) (q + t.offset) || ltb (M w) (q + t.base)

abbrev pub member_passes : ℕ → ℕ → Info → Cause
member_passes w q i = record { number = 9; test = is_member_past_m w q i; means = MemberPastM w q i }

-- what refuses to place the member; what refuses the step once both layouts are accepted, and once the layout is, the member's
-- own causes first; all that refuses it
abbrev pub place_causes : ℕ → Layout → Layout → ℕ → List Cause
place_causes w l m packing =
    after_trailing l.info
    ∷ rounding_passes w (place_of l m packing)
    ∷ member_passes w (place_of l m packing) m.info
    ∷ []

abbrev pub step_causes : ℕ → Layout → Layout → ℕ → List Cause
step_causes w l m packing = bad_packing w packing ∷ above_greatest l.align m.align packing ∷ place_causes w l m packing

abbrev pub onto_causes : ℕ → Layout → Layout → ℕ → List Cause
onto_causes w l m packing = layout_causes w m ++ step_causes w l m packing

abbrev pub extend_causes : ℕ → Layout → Layout → ℕ → List Cause
extend_causes w l m packing = layout_causes w l ++ onto_causes w l m packing

-- `extend_onto`, of a layout that is accepted, and `extend`
unfoldable pub onto_for : ℕ → Layout → Layout → ℕ → Outcome Layout
onto_for w l m packing = unless (onto_causes w l m packing) (extended l m packing)

unfoldable pub extend_for : ℕ → Layout → Layout → ℕ → Outcome Layout
extend_for w l m packing = unless (extend_causes w l m packing) (extended l m packing)

-- what the step means: the member stands at the least place that aligns it
pub record Extended (l m : Layout) (packing : ℕ) (r : Layout) : Type 0 where
  pub size : ℕ
  pub after : l.info ≡ fixed size
  pub place : ℕ
  pub least : LeastPlace size (member_align m.align packing) place
  pub align : Larger l.align (member_align m.align packing) r.align
  pub info : r.info ≡ placed_at place m.info
  pub mark : Tells ((l.mark ≡ true) × ((m.mark ≡ true) × (place ≡ size))) r.mark
  pub modifier : Tells ((l.modifier ≡ true) ⊎ (m.modifier ≡ true)) r.modifier
