-- The match of two layouts, and the shift, at v bits, by w. Assumes nothing.
use mathlib.Core.Path.{◌≡◌, refl, sym, ap, ap₂, ◌∙◌}
use mathlib.Core.Bool.{Bool, cond, ◌&&◌}
use Prim.Native.Nat.{ℕ, ◌+◌, ◌-◌, ◌*◌, ◌/◌, ◌%◌, ◌^◌, ◌≤◌, ◌<◌}
use native.Mathlib.Omega.{arith}
use lib.Pow.{pow_mono}
use lib.Dec.{eqb, leb}
use borrow.Author.Tests.{lt-leb, le-leb}
use Rattle.util_defs.specs.Width.{M}
use Rattle.util_defs.proofs.Refusals.{agree, tells_as}
use Rattle.util_defs.proofs.Powers.{positive}
use Rattle.util_defs.proofs.Rounding.{up_ge, down_le}
use Rattle.rounding.proofs.Words.{parts_of_lem, not_zero}
use Rattle.trailing_defs.specs.Size.{Trailing, A, p, size_with, size_at, HasSize, size_offset}
use Rattle.trailing_defs.specs.Calls.{advanced}
use Rattle.trailing_defs.proofs.Calls.{advanced_word, advanced_word_lt, advanced_sizes}
use Rattle.layout_defs.specs.Layout.{Layout}
use Rattle.cast_defs.specs.Exact.{exact_for}
use Rattle.shift_defs.specs.Match.{shifted, match_test}
use Rattle.shift_defs.specs.Mode.{Mode, ported, full, comparison_of}
use Rattle.shift_defs.specs.Shift.{Shift, by, missing, by_offset, answered_by, by_size, matched_shift, or_else, shift_of}
use Rattle.shift_defs.proofs.Matching.{mode-sound, tells_matches}
use Rattle.widths_defs.proofs.Widths.{held, same_highest}
use Rattle.widths_defs.proofs.Sizes.{same_at, same_offset}
use Rattle.widths_defs.proofs.Sequences.{same_sequence_lem}
use Rattle.widths_defs.proofs.Forms.{same_agree}
use Rattle.widths_layouts_defs.specs.Low.{LayoutIn}
use Rattle.widths_casts_defs.proofs.Exact.{exact_same}

-- the comparison of a mode: the same, where the first layout has a size at 0 at v
same_compare : (m : Mode) (v w : ℕ) (s t : Trailing) → v ≤ w → 0 < s.word → s.word < 2 ^ v → 0 < t.word → t.word < 2 ^ v → HasSize v s 0
    → comparison_of v m s t ≡ comparison_of w m s t
same_compare ported v w s t l ps hs pt ht start = same_sequence_lem v w s t l hs ht start
same_compare full v w s t l ps hs pt ht start = same_agree v w s t l ps hs pt ht

same_shifted : (v w : ℕ) (s t : Trailing) (d : ℕ) → v ≤ w → t.word < 2 ^ v → shifted v s t d ≡ shifted w s t d
unfolding advanced
same_shifted v w s t d l h = simp (same_highest v w t.word l h)

-- the advance is no larger than the size at 0 of what is shifted, which is the source's where they match
shifted_ge : (w : ℕ) (s t : Trailing) (d : ℕ) → 0 < t.word → t.word < 2 ^ w → size_offset w t + d * t.elem ≤ size_at w (shifted w s t d) 0
unfolding size_with
shifted_ge w s t d pos h =
    let x = d * t.elem + 0 * s.elem in
    omega (arith, advanced_sizes w t (d * t.elem) s.elem 0 pos h, up_ge (p w t + x) (A w t) (positive (parts_of_lem w t.word pos h).power), down_le t.base (A w t))

module _ (m : Mode) (v w : ℕ) (s t : Trailing) (l : v ≤ w) (ps : 0 < s.word) (hs : s.word < 2 ^ v) (pt : 0 < t.word) (ht : t.word < 2 ^ v) where
  pub same_matches : (d : ℕ) → HasSize v s 0 → match_test v (comparison_of v m) s t d ≡ match_test w (comparison_of w m) s t d
  same_matches d start =
      let i : 2 ^ v ≤ 2 ^ w = pow_mono l in
      let S = same_at v w s 0 l hs in
      let O = same_offset v w t l ht in
      let u = advanced_word_lt v t (d * t.elem) s.elem pt ht in
      let z = not_zero (advanced_word v t (d * t.elem) s.elem pt ht) in
      let uw = advanced_word_lt w t (d * t.elem) s.elem pt (held v w l ht) in
      let zw = not_zero (advanced_word w t (d * t.elem) s.elem pt (held v w l ht)) in
      let q : comparison_of v m s (shifted v s t d) ≡ comparison_of w m s (shifted w s t d) =
      same_compare m v w s (shifted v s t d) l ps hs z u start ∙ ap (comparison_of w m s) (same_shifted v w s t d l ht) in
      let ge = shifted_ge w s t d pt (held v w l ht) in
      agree (tells_matches v (comparison_of v m) s t d)
      (tells_as
      (λ x.
      let e = mode-sound w m s (shifted w s t d) ps (held v w l hs) zw uw x.equal 0 in
      record { start = start; advance = omega (arith, ge, e, S, O, start); equal = q ∙ x.equal })
      (λ x. record { start = omega (arith, S, start); advance = omega (arith, O, x.advance); equal = sym q ∙ x.equal })
      (tells_matches w (comparison_of w m) s t d))

  -- the shift: the same where the source has a size at 0 at v
  same_matched : (sh : Shift) → HasSize v s 0 → matched_shift v (comparison_of v m) s t sh ≡ matched_shift w (comparison_of w m) s t sh
  same_matched (by d) start = ap (λ (b : Bool). cond b (by d) missing) (same_matches d start)
  same_matched missing start = refl

  same_by_size : (k : Layout) → LayoutIn v k → HasSize v s 0 → by_size v s k ≡ by_size w s k
  same_by_size k hk start =
      let i : 2 ^ v ≤ 2 ^ w = pow_mono l in
      let S = same_at v w s 0 l hs in
      simp (le-leb (size_at v s 0) (M v) start, le-leb (size_at w s 0) (M w) (omega (arith, S, start)))
      (ap answered_by (exact_same v w k (size_at v s 0) l hk start ∙ ap (exact_for w k) S))

  pub same_shift : (k : Layout) → LayoutIn v k → HasSize v s 0 → shift_of v (comparison_of v m) s k t ≡ shift_of w (comparison_of w m) s k t
  unfolding shift_of
  same_shift k hk start =
      ap₂ or_else
      (same_matched (by_offset v s t) start
      ∙ ap (matched_shift w (comparison_of w m) s t)
      (ap₂ (λ (a b : ℕ). cond (leb b a && eqb ((a - b) % t.elem) 0) (by ((a - b) / t.elem)) missing) (same_offset v w s l hs) (same_offset v w t l ht)))
      (same_matched (by_size v s k) start ∙ ap (matched_shift w (comparison_of w m) s t) (same_by_size k hk start))

-- and none where it has not
none_matched : (m : Mode) (v : ℕ) (s t : Trailing) (sh : Shift) → M v < size_at v s 0 → matched_shift v (comparison_of v m) s t sh ≡ missing
unfolding match_test
none_matched m v s t (by d) h = simp (lt-leb (size_at v s 0) (M v) h)
none_matched m v s t missing h = refl

pub no_shift : (m : Mode) (v : ℕ) (s t : Trailing) (k : Layout) → M v < size_at v s 0 → shift_of v (comparison_of v m) s k t ≡ missing
unfolding shift_of
no_shift m v s t k h = ap₂ or_else (none_matched m v s t (by_offset v s t) h) (none_matched m v s t (by_size v s k) h)
