-- Two layouts that match at a shift, over any width and comparison. Assumes nothing.
use mathlib.Core.Path.{◌≡◌, sym, ap, ◌∙◌}
use mathlib.Core.Bool.{true}
use Prim.Native.Nat.{ℕ, ◌+◌, ◌-◌, ◌*◌, ◌^◌, ◌<◌}
use native.Mathlib.Omega.{arith}
use Rattle.util_defs.specs.Width.{M}
use Rattle.util_defs.specs.Refusal.{Tells, Meets}
use Rattle.util_defs.proofs.Refusals.{yes, agree, tells_true, tells_eq, tells_le, tells_and, tells_as, meets}
use Rattle.rounding.proofs.Words.{not_zero}
use Rattle.trailing_defs.specs.Size.{Trailing, A, p, size_with, size_at, HasSize, size_offset}
use Rattle.trailing_defs.specs.Sequence.{EqualSizes, same_sequence}
use Rattle.trailing_defs.specs.Calls.{same_causes}
use Rattle.trailing_defs.proofs.Sequences.{tells_same, same_sizes}
use Rattle.trailing_defs.proofs.Calls.{advanced_word, advanced_word_lt, advanced_sizes}
use Rattle.full_defs.proofs.Full.{tells_sizes}
use Rattle.shift_defs.specs.Mode.{Mode, ported, full, comparison_of}
use Rattle.shift_defs.specs.Match.{Comparison, Sound, shifted, Matches, same_from, match_test, match_for, FoundMatch}
use Rattle.shift_defs.specs.Shift.{IsMultiple}

-- the comparison of the full mode tells equal sizes at every count
pub full_tells : (w : ℕ) (s t : Trailing) → 0 < s.word → s.word < 2 ^ w → 0 < t.word → t.word < 2 ^ w → Tells (EqualSizes w s t) (comparison_of w full s t)
full_tells = tells_sizes

-- the comparison of each mode is sound
pub mode-sound : (w : ℕ) (m : Mode) → Sound w (comparison_of w m)
mode-sound w ported s t ps hs pt ht e = same_sizes w s t ps hs pt ht (yes (tells_same w s t) e)
mode-sound w full s t ps hs pt ht e = yes (full_tells w s t ps hs pt ht) e

-- what is left of a match once the target is advanced; the ported comparison asks for the size at 0 itself
pub tells_from : (w : ℕ) (same : Comparison) (s u : Trailing) → Tells (HasSize w s 0 × (same s u ≡ true)) (same_from w same s u)
tells_from w same s u = tells_and (tells_le (size_at w s 0) (M w)) (tells_true (same s u))

pub same_from_lem : (w : ℕ) (s u : Trailing) → same_sequence w s u ≡ same_from w (same_sequence w) s u
same_from_lem w s u =
    agree (tells_as (λ e. ((yes (tells_same w s u) e).start.0, e)) (λ x. x.1) (tells_true (same_sequence w s u))) (tells_from w (same_sequence w) s u)

pub tells_matches : (w : ℕ) (same : Comparison) (s t : Trailing) (d : ℕ) → Tells (Matches w same s t d) (match_test w same s t d)
unfolding match_test
tells_matches w same s t d =
    tells_as (λ x. record { start = x.0; advance = x.1.0; equal = x.1.1 }) (λ m. (m.start, (m.advance, m.equal)))
    (tells_and (tells_le (size_at w s 0) (M w)) (tells_and (tells_le (size_offset w t + d * t.elem) (M w)) (tells_true (same s (shifted w s t d)))))

-- a match means equal sizes at every count, the target shifted
pub match_equal : {w : ℕ} {same : Comparison} {s t : Trailing} {d : ℕ} → Sound w same → 0 < s.word → s.word < 2 ^ w → 0 < t.word → t.word < 2 ^ w
    → Matches w same s t d → EqualSizes w s (shifted w s t d)
match_equal {w} {same} {s} {t} {d} sound ps hs pt ht m =
    sound s (shifted w s t d) ps hs (not_zero (advanced_word w t (d * t.elem) s.elem pt ht)) (advanced_word_lt w t (d * t.elem) s.elem pt ht) m.equal

-- so n elements of the source have the size of d + n·k of the target
pub match_sizes : {w : ℕ} {same : Comparison} {s t : Trailing} {d k : ℕ} → Sound w same → 0 < s.word → s.word < 2 ^ w → 0 < t.word → t.word < 2 ^ w
    → Matches w same s t d → IsMultiple s t k → (n : ℕ) → size_at w t (d + n * k) ≡ size_at w s n
match_sizes {w} {same} {s} {t} {d} {k} sound ps hs pt ht m x n =
    let y : (d + n * k) * t.elem ≡ d * t.elem + n * s.elem = omega (arith, ap (λ (z : ℕ). n * z) x.multiple) in
    ap (size_with t.base (A w t) (p w t)) y ∙ sym (advanced_sizes w t (d * t.elem) s.elem n pt ht) ∙ sym (match_equal sound ps hs pt ht m n)

pub match_meets : (w : ℕ) (same : Comparison) (s t : Trailing) (d : ℕ) → Sound w same → s.word < 2 ^ w → t.word < 2 ^ w
    → Meets (same_causes s t) (FoundMatch w same s t d) (match_for w same s t d)
unfolding match_for
match_meets w same s t d sound hs ht =
    meets (same_causes s t) (match_test w same s t d) (tells_eq s.word 0, λ _. (tells_eq t.word 0, λ _. tt))
    (λ n. record {
      exactly = tells_matches w same s t d;
      means = λ e. match_equal sound (omega (arith, n.0)) hs (omega (arith, n.1.0)) ht (yes (tells_matches w same s t d) e);
    })
