-- What decoding means is had by one layout at most: one layout, one record. Assumes nothing.
use mathlib.Core.Path.{◌≡◌, refl, sym, ap, ◌∙◌}
use mathlib.Core.Bool.{Bool, true, false}
use Prim.Native.Nat.{ℕ}
use Rattle.layout_defs.specs.Layout.{Info, fixed, trailing, Layout}
use Rattle.record_defs.specs.Record.{Words, words_of, words_layout, Decodes}

-- the layout of a layout's words is that layout
words_layout_lem : (a : ℕ) (i : Info) (m u : Bool) → let l : Layout = record { align = a; info = i; mark = m; modifier = u } in words_layout (words_of l) ≡ l
words_layout_lem a (fixed s) true true = refl
words_layout_lem a (fixed s) true false = refl
words_layout_lem a (fixed s) false true = refl
words_layout_lem a (fixed s) false false = refl
words_layout_lem a (trailing t) true true = refl
words_layout_lem a (trailing t) true false = refl
words_layout_lem a (trailing t) false true = refl
words_layout_lem a (trailing t) false false = refl

pub one_decoded : (r : Words) (l m : Layout) → Decodes r l → Decodes r m → l ≡ m
one_decoded r l m x y =
    sym (words_layout_lem l.align l.info l.mark l.modifier) ∙ ap words_layout (x ∙ sym y) ∙ words_layout_lem m.align m.info m.mark m.modifier
