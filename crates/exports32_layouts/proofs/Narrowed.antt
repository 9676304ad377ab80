-- Six words as a layout at v bits, by w, and the words of one. Assumes nothing.
use mathlib.Core.Path.{◌≡◌, ◌∙◌}
use mathlib.Core.Bool.{Bool, true, false, cond}
use Prim.Native.Nat.{ℕ, ◌^◌, ◌≤◌, ◌<◌}
use native.Mathlib.Nat.{mod-eq_of_lt}
use native.Mathlib.Omega.{arith}
use lib.Pow.{pow_pos, pow_mono}
use Rattle.util_defs.specs.Refusal.{unless}
use Rattle.layout_defs.specs.Layout.{Info, fixed, trailing, Layout}
use Rattle.record_defs.specs.Record.{Words, is_fixed_kind, kind_of, info_words, words_of, words_layout, words_causes, words_for}
use Rattle.record_defs.proofs.Records.{words_decided}
use Rattle.widths_defs.specs.Low.{mapped}
use Rattle.widths_layouts_defs.specs.Low.{low_layout, InfoIn, LayoutIn}
use Rattle.widths_defs.proofs.Widths.{same_power, unless_same}
use Rattle.widths_layouts_defs.proofs.Layouts.{low_layout_lem}
use Rattle.exports32_layouts.specs.Layouts.{low_words}

-- words that v bits hold are tested alike at both, and their layout is held
pub words_low : (v w : ℕ) (r : Words) → v ≤ w → r.align < 2 ^ v → r.size < 2 ^ v → r.offset < 2 ^ v → r.elem < 2 ^ v → r.word < 2 ^ v
    → words_for v r ≡ mapped (low_layout v) (words_for w r)
unfolding words_for unless
words_low v w r l ha hs ho he hw =
    unless_same (low_layout v) (words_causes v r) (words_layout r) (words_decided v r ha)
    (λ _. low_layout_lem v (words_layout r) (record { align = ha; info = go (is_fixed_kind r.kind) }))
    ∙ simp (same_power v w r.align l ha)
  where
    go : (b : Bool) → InfoIn v (cond b (fixed r.size) (trailing (record { offset = r.offset; elem = r.elem; base = r.size; word = r.word })))
    go true = hs
    go false = record { offset = ho; elem = he; base = hs; word = hw }

-- a kind is below 8
kind_in : (v : ℕ) (i : Info) (mark over : Bool) → 3 ≤ v → kind_of i mark over < 2 ^ v
kind_in v i mark over l = let m : 2 ^ 3 ≤ 2 ^ v = pow_mono l in go i (most 1 mark) (most 4 over) m
  where
    most : (x : ℕ) (b : Bool) → cond b x 0 ≤ x
    most x true = omega arith
    most x false = omega arith

    go : (i : Info) → cond mark 1 0 ≤ 1 → cond over 4 0 ≤ 4 → 2 ^ 3 ≤ 2 ^ v → kind_of i mark over < 2 ^ v
    go (fixed s) x y m = omega (arith, x, y, m)
    go (trailing t) x y m = omega (arith, x, y, m)

-- v bits keep all of the words of a layout that they hold
low_info_words : (v a k : ℕ) (i : Info) → a < 2 ^ v → k < 2 ^ v → InfoIn v i → low_words v (info_words a k i) ≡ info_words a k i
low_info_words v a k (fixed s) ha hk h = simp (mod-eq_of_lt ha, mod-eq_of_lt hk, mod-eq_of_lt h, mod-eq_of_lt (pow_pos v))
low_info_words v a k (trailing t) ha hk h =
    simp (mod-eq_of_lt ha, mod-eq_of_lt hk, mod-eq_of_lt h.base, mod-eq_of_lt h.offset, mod-eq_of_lt h.elem, mod-eq_of_lt h.word)

pub low_words_lem : (v : ℕ) (l : Layout) → 3 ≤ v → LayoutIn v l → low_words v (words_of l) ≡ words_of l
low_words_lem v l n h =
    low_info_words v l.align (kind_of l.info l.mark l.modifier) l.info h.align (kind_in v l.info l.mark l.modifier n) h.info
