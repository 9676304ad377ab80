-- What padding means is had by one layout at most. Assumes nothing.
use mathlib.Core.Path.{◌≡◌, sym, ap, ◌∙◌, subst}
use mathlib.Core.Bool.{Bool, true}
use Prim.Native.Nat.{ℕ, ◌≤◌, ◌<◌}
use native.Mathlib.Omega.{arith}
use Rattle.util_defs.specs.Refusal.{Tells, holds, fails}
use Rattle.util_defs.proofs.Refusals.{agree, tells_lt}
use Rattle.util_defs.proofs.Only.{one_multiple}
use Rattle.rounding.proofs.Words.{same_word}
use Rattle.trailing_defs.specs.Size.{Trailing, A}
use Rattle.layout_defs.specs.Layout.{Info, fixed, trailing, Layout}
use Rattle.layout_defs.proofs.Only.{one_place}
use Rattle.padding_defs.specs.Pad.{PaddedTo, PaddedInfo, KeepsMark, Padded}

one_tail : {w a : ℕ} {t : Trailing} (u v : Trailing) → PaddedTo w a t u → PaddedTo w a t v → u ≡ v
one_tail {w} {a} {t} u v x y = go (tells_lt (A w t) a)
  where
    same : u.base ≡ v.base → u.word ≡ v.word → u ≡ v
    same b n = λ i. record { offset = (x.offset ∙ sym y.offset) i; elem = (x.elem ∙ sym y.elem) i; base = b i; word = n i }

    go : {b : Bool} → Tells (A w t < a) b → u ≡ v
    go (holds l) = same (one_multiple (x.below l).0 (y.below l).0) (same_word (x.below l).1 (y.below l).1)
    go (fails n) = let l : a ≤ A w t = omega (arith, n) in same (one_place (x.other l).0 (y.other l).0) ((x.other l).1 ∙ sym (y.other l).1)

one_info : (w a : ℕ) (i j k : Info) → PaddedInfo w a i j → PaddedInfo w a i k → j ≡ k
one_info w a (fixed s) (fixed q) (fixed r) x y = ap fixed (one_place x y)
one_info w a (fixed s) (fixed q) (trailing u) x y = absurd y
one_info w a (fixed s) (trailing u) k x y = absurd x
one_info w a (trailing t) (trailing u) (trailing v) x y = ap trailing (one_tail u v x y)
one_info w a (trailing t) (trailing u) (fixed r) x y = absurd y
one_info w a (trailing t) (fixed r) k x y = absurd x

pub one_padded : {w : ℕ} {l : Layout} (r s : Layout) → Padded w l r → Padded w l s → r ≡ s
one_padded {w} {l} r s x y = λ i. record { align = (x.align ∙ sym y.align) i; info = same i; mark = agree x.mark marks i; modifier = (x.modifier ∙ sym y.modifier) i }
  where
    same : r.info ≡ s.info
    same = one_info w l.align l.info r.info s.info x.info y.info

    marks : Tells ((l.mark ≡ true) × KeepsMark l.info r.info) s.mark
    marks = subst (λ (i : Info). Tells ((l.mark ≡ true) × KeepsMark l.info i) s.mark) (sym same) y.mark
