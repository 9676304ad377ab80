-- What the ported mode of conversion shifts the full mode shifts alike, over any width. Assumes nothing.
use mathlib.Core.Path.{◌≡◌, sym, ap, ap₂, ◌∙◌}
use mathlib.Core.Bool.{true}
use mathlib.Core.Logic.{inl, inr}
use Prim.Native.Nat.{ℕ, ◌+◌, ◌*◌, ◌/◌, ◌%◌, ◌^◌, ◌<◌}
use native.Mathlib.Nat.{mul-add-mod_self_right, mod-eq_of_lt}
use native.Mathlib.Omega.{arith}
use Rattle.util_defs.specs.Round.{down}
use Rattle.util_defs.proofs.Refusals.{yes, told_true}
use Rattle.util_defs.proofs.Powers.{positive}
use Rattle.util_defs.proofs.Rounding.{down_mod, down_multiple, down_shift}
use Rattle.rounding.proofs.Words.{parts_of_lem, not_zero, at_parts}
use Rattle.trailing_defs.specs.Size.{Trailing, A, p, HasSize, size_offset}
use Rattle.trailing_defs.specs.Sequence.{SameStride, same_sequence}
use Rattle.trailing_defs.specs.Calls.{advanced}
use Rattle.trailing_defs.proofs.Sequences.{tells_same}
use Rattle.trailing_defs.proofs.Calls.{advanced_word, advanced_word_lt}
use Rattle.full_defs.specs.Full.{seen_phase, sizes_agree}
use Rattle.full_defs.proofs.Full.{tells_sizes, tells_agree}
use Rattle.shift_defs.specs.Mode.{ported}
use Rattle.shift_defs.specs.Match.{shifted, Matches}
use Rattle.shift_defs.specs.Shift.{FirstWay, IsShift}
use Rattle.shift_defs.proofs.Matching.{mode-sound}

-- equal size offsets at one A are equal phases
same_phases : (w : ℕ) (s t : Trailing) → 0 < s.word → s.word < 2 ^ w → 0 < t.word → t.word < 2 ^ w → A w s ≡ A w t → size_offset w s ≡ size_offset w t → p w s ≡ p w t
unfolding down
same_phases w s t ps hs pt ht a o = sym (rest s ps hs) ∙ ap₂ ◌%◌ o a ∙ rest t pt ht
  where
    rest : (t : Trailing) → 0 < t.word → t.word < 2 ^ w → (t.base / A w t * A w t + p w t) % A w t ≡ p w t
    rest t n h = mul-add-mod_self_right (t.base / A w t) (A w t) (p w t) ∙ mod-eq_of_lt (parts_of_lem w t.word n h).below

-- an advance by y bytes adds them to the size offset
pub advanced_offset : (w : ℕ) (t : Trailing) (y e : ℕ) → 0 < t.word → t.word < 2 ^ w → size_offset w (advanced w t y e) ≡ size_offset w t + y
unfolding advanced
advanced_offset w t y e n h =
    let x = advanced_word w t y e n h in
    let a = A w t in
    let d = down (p w t + y) a in
    let i : down (t.base + d) a ≡ d + down t.base a = ap (λ (z : ℕ). down z a) {x = t.base + d} {y = d + t.base} (omega arith) ∙ down_shift t.base a d (positive x.power) (down_multiple (p w t + y) a) in
    at_parts w (λ b q. down (t.base + d) b + q) x (advanced_word_lt w t y e n h) ∙ omega (arith, down_mod (p w t + y) a)

-- where the size offsets are equal and the first has a size at 0, the full comparison says no more than the ported one
agree_same : (w : ℕ) (s t : Trailing) → 0 < s.word → s.word < 2 ^ w → 0 < t.word → t.word < 2 ^ w → size_offset w s ≡ size_offset w t → HasSize w s 0
    → sizes_agree w s t ≡ true → same_sequence w s t ≡ true
agree_same w s t ps hs pt ht o l e =
    let x = yes (tells_agree w s t) e in
    told_true (tells_same w s t) (record { elems = x.0; start = (l, (omega (arith, x.1.0), x.1.0)); stride = go x.1.1 })
  where
    go : SameStride s.elem (A w s) (seen_phase w s.elem (A w s) (p w s)) (A w t) (seen_phase w s.elem (A w t) (p w t))
        → SameStride s.elem (A w s) (p w s) (A w t) (p w t)
    go (inl d) = inl d
    go (inr k) = inr (k.0, same_phases w s t ps hs pt ht k.0 o)

module _ (w : ℕ) (s t : Trailing) (ps : 0 < s.word) (hs : s.word < 2 ^ w) (pt : 0 < t.word) (ht : t.word < 2 ^ w) where
  -- what matches in the ported mode matches in the full one
  match_kept : (d : ℕ) → Matches w (same_sequence w) s t d → Matches w (sizes_agree w) s t d
  match_kept d m =
      let x = not_zero (advanced_word w t (d * t.elem) s.elem pt ht) in
      let y = advanced_word_lt w t (d * t.elem) s.elem pt ht in
      record {
        start = m.start;
        advance = m.advance;
        equal = told_true (tells_sizes w s (shifted w s t d) ps hs x y) (mode-sound w ported s (shifted w s t d) ps hs x y m.equal);
      }

  -- by the first way they match alike
  first_kept : (d : ℕ) → FirstWay w (sizes_agree w) s t d → FirstWay w (same_sequence w) s t d
  first_kept d f =
      let x = not_zero (advanced_word w t (d * t.elem) s.elem pt ht) in
      let y = advanced_word_lt w t (d * t.elem) s.elem pt ht in
      let o = f.offsets ∙ sym (advanced_offset w t (d * t.elem) s.elem pt ht) in
      record {
        offsets = f.offsets;
        match = record {
          start = f.match.start;
          advance = f.match.advance;
          equal = agree_same w s (shifted w s t d) ps hs x y o f.match.start f.match.equal;
        };
      }

  -- so a shift of the ported mode is that of the full mode
  pub shift_stays : (d : ℕ) → IsShift w (same_sequence w) s t d → IsShift w (sizes_agree w) s t d
  shift_stays d (inl f) = inl (record { offsets = f.offsets; match = match_kept d f.match })
  shift_stays d (inr g) = inr (record {
    not_first = λ c f. g.not_first c (first_kept c f);
    start = g.start;
    exact = g.exact;
    match = match_kept d g.match;
  })
