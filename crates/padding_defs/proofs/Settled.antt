-- Padding a second time changes nothing, at any width w. Assumes nothing.
use mathlib.Core.Path.{◌≡◌, refl, sym, ap, ◌∙◌, subst}
use mathlib.Core.Bool.{Bool, true, false, cond, ◌&&◌}
use Prim.Native.Nat.{ℕ, ◌%◌, ◌^◌, ◌≤◌, ◌<◌}
use native.Mathlib.Omega.{arith}
use lib.Dec.{eqb, ltb}
use borrow.Author.Tests.{eq-eqb, le-ltb, ltb-false}
use Rattle.util_defs.specs.Width.{M}
use Rattle.util_defs.specs.Power.{PowerOfTwo}
use Rattle.util_defs.specs.Round.{up}
use Rattle.util_defs.specs.Refusal.{answered, None, Meets}
use Rattle.util_defs.proofs.Refusals.{clear, answered_means}
use Rattle.util_defs.proofs.Powers.{positive}
use Rattle.util_defs.proofs.Rounding.{down_multiple, down_le, up_multiple, up_whole}
use Rattle.util_defs.proofs.Helpers.{power}
use Rattle.trailing_defs.specs.Size.{Trailing, A}
use Rattle.layout_defs.specs.Layout.{Info, fixed, trailing, Layout, no_word}
use Rattle.padding_defs.specs.Pad.{fixed_part, coarser, finer, padded_tail, padded_info, padded_mark, padded, padding_needs, pad_causes, pad_for, Padded, PadsSizes}
use Rattle.util_defs.proofs.Tables.{answer_is, accepted_none}
use Rattle.padding_defs.proofs.Padding.{coarser_align, pad_decided, pad_meets}

-- padding to a leaves i as it is, and refuses nothing
pub record Settled (w a : ℕ) (i : Info) : Type 0 where
  pub same : padded_info w a i ≡ i
  pub within : padding_needs w a i ≤ M w
  pub word : (no_word i).means → ⊥

-- a fixed layout whose size is a multiple of a; a trailing one whose A is no smaller than a and whose base is a multiple of a
fixed_settled : (w a s : ℕ) → 0 < a → s % a ≡ 0 → s ≤ M w → Settled w a (fixed s)
fixed_settled w a s h e l = record { same = ap fixed (up_whole s a h e); within = omega (arith, up_whole s a h e); word = λ x. x }

tail_settled : (w a : ℕ) (t : Trailing) → 0 < a → a ≤ A w t → t.base % a ≡ 0 → t.base ≤ M w → (t.word ≡ 0 → ⊥) → Settled w a (trailing t)
unfolding padded_tail
tail_settled w a t h g e l z =
    let f : ltb (A w t) a ≡ false = le-ltb (A w t) a g in
    let u : up t.base a ≡ t.base = up_whole t.base a h e in
    record {
      same = simp f (ap (λ (b : ℕ). trailing (record { offset = t.offset; elem = t.elem; base = b; word = t.word })) u);
      within = simp f (omega arith);
      word = z;
    }

-- what padding gives is settled
pub info_settled : (w : ℕ) {a : ℕ} (i : Info) → PowerOfTwo a → a < 2 ^ w → ((no_word i).means → ⊥) → padding_needs w a i ≤ M w → Settled w a (padded_info w a i)
unfolding padded_tail
info_settled w {a} (fixed s) q h z l = fixed_settled w a (up s a) (positive q) (up_multiple s a) l
info_settled w {a} (trailing t) q h z l = go (ltb (A w t) a) refl l
  where
    go : (b : Bool) → ltb (A w t) a ≡ b → cond b (fixed_part w t) (up t.base a) ≤ M w → Settled w a (trailing (cond b (coarser w a t) (finer a t)))
    go true e l =
        tail_settled w a (coarser w a t) (positive q) (omega (arith, coarser_align w t q h)) (down_multiple (fixed_part w t) a)
        (omega (arith, down_le (fixed_part w t) a)) (λ x. omega (arith, positive q))
    go false e l = tail_settled w a (finer a t) (positive q) (ltb-false (A w t) a e) (up_multiple t.base a) l z

-- and so is its mark
and_true : (b : Bool) → (b && true) ≡ b
and_true true = refl
and_true false = refl

mark_settled : (w : ℕ) {a : ℕ} (i : Info) (mark : Bool) → 0 < a → padded_mark a (padded_info w a i) (padded_mark a i mark) ≡ padded_mark a i mark
mark_settled w {a} (fixed s) mark h =
    let e = eq-eqb (up (up s a) a) (up s a) (up_whole (up s a) a h (up_multiple s a)) in
    ap (λ (b : Bool). (mark && eqb (up s a) s) && b) e ∙ and_true (mark && eqb (up s a) s)
mark_settled w (trailing t) mark h = refl

-- a padded layout is padded to itself
pub padded_again : (w : ℕ) (l : Layout) → l.align < 2 ^ w → None (pad_causes w l) → pad_for w (padded w l) ≡ answered (padded w l)
unfolding pad_for padded
padded_again w l h n =
    let q : PowerOfTwo l.align = power w l.align h n.0 in
    let x = info_settled w l.info q h n.1.0 (omega (arith, n.1.1.0)) in
    clear (pad_causes w (padded w l)) (pad_decided w (padded w l) h) (n.0, (x.word, ((λ y. omega (arith, x.within)), tt)))
    ∙ (λ i. answered (record { align = l.align; info = x.same i; mark = mark_settled w l.info l.mark (positive q) i; modifier = l.modifier }))

pub pad_again : (w : ℕ) (l : Layout) {r : Layout} → l.align < 2 ^ w → pad_for w l ≡ answered r → pad_for w r ≡ answered r
unfolding pad_for
pad_again w l h e =
    subst (λ (x : Layout). pad_for w x ≡ answered x) (sym (answer_is (pad_causes w l) (padded w l) e))
    (padded_again w l h (accepted_none (pad_causes w l) (padded w l) (pad_decided w l h) e))

-- document 02, request 14, of what stands: padded sizes are rounded up, and padding settles
pub pads_sizes : (w : ℕ) (l : Layout) → l.align < 2 ^ w → PadsSizes w l
pads_sizes w l h r e = ((answered_means (subst (Meets (pad_causes w l) (Padded w l)) e (pad_meets w l h))).1.sizes, pad_again w l h e)
