-- `trailing32::size_for_elems` meets its contract. Assumes nothing.
use Rattle.trailing.specs.declared.SizeRefusal.{SizeRefusal}
use Prim.Native.Nat.{ℕ}
use Rattle.std.specs.Prelude.{Result}
use mathlib.Core.Path.{sym, ap, subst, ◌∙◌}
use Prim.Native.Nat.{◌^◌, ◌<◌}
use native.Mathlib.Omega.{arith}
use Rattle.util_defs.specs.Width.{M}
use Rattle.trailing_defs.specs.Size.{Trailing}
use Rattle.trailing_defs.specs.Calls.{max_trailing_for}
use Rattle.trailing_defs.specs.Sized.{size_given, SizeMeans}
use Rattle.trailing.specs.View.{trailing_of, size_says}
use Rattle.trailing.proofs.Told.{size_told}
use Rattle.widths_defs.specs.Within.{none_within}
use Rattle.widths_defs.proofs.Sizes.{elem_needed, size_kept, size_past, size_none, size_refused, told_size, none_past}
use Rattle.std.specs.Prelude.{Err}
use Rattle.trailing32.proofs.size_for_elems.Goals as goal

pub none_within-requires : goal.none_within-requires
none_within-requires c =
    let q = c.wide_tail-wide.ensures in
    let t = trailing_of c.wide_tail-wide.result in
    let n = c.args.elems in
    let w : t.word < 2 ^ 32 = subst (λ (x : Trailing). x.word < 2 ^ 32) (sym q.0) q.1.word in
    let s = size_told 64 t n c.size_for_elems.result c.size_for_elems.ensures.meaning c.in-Ok.is in
    (w, elem_needed 32 64 t n (omega arith) w (omega (arith, s.1, c.if-size-gt-MAX.true)))

pub none_within-requires-in-Err-NoSize : goal.none_within-requires-in-Err-NoSize
none_within-requires-in-Err-NoSize c =
    let q = c.wide_tail-wide.ensures in
    let t = trailing_of c.wide_tail-wide.result in
    let n = c.args.elems in
    let w : t.word < 2 ^ 32 = subst (λ (x : Trailing). x.word < 2 ^ 32) (sym q.0) q.1.word in
    let s = none_past 64 t n (subst (λ (r : Result ℕ (SizeRefusal ℕ)). SizeMeans 64 t n (size_says r)) (c.in-Err-NoSize.is ∙ ap Err c.in-Err-NoSize.field-0-is) c.size_for_elems.ensures.meaning) in
    (w, elem_needed 32 64 t n (omega arith) w (omega (arith, s)))

pub returns-then-size-gt-MAX : goal.returns-then-size-gt-MAX
returns-then-size-gt-MAX c =
    let q = c.wide_tail-wide.ensures in
    let t = trailing_of c.args.tail in
    let n = c.args.elems in
    let e = sym (ap (λ (x : Trailing). size_given 64 x n) q.0) ∙ sym c.size_for_elems.ensures.answer ∙ ap size_says c.in-Ok.is in let told_here = told_size 32 t n q.1.word
    (c.none_within.ensures ∙ ap (λ (x : Trailing). none_within x.elem (max_trailing_for 64 x (M 32))) q.0 ∙ size_past 32 64 t n (omega arith) q.1.word e c.if-size-gt-MAX.true) in record { answer = told_here.0; meaning = told_here.1 }

pub returns-else-size-gt-MAX : goal.returns-else-size-gt-MAX
returns-else-size-gt-MAX c =
    let q = c.wide_tail-wide.ensures in
    let t = trailing_of c.args.tail in
    let n = c.args.elems in
    let e = sym (ap (λ (x : Trailing). size_given 64 x n) q.0) ∙ sym c.size_for_elems.ensures.answer ∙ ap size_says c.in-Ok.is in let told_here = told_size 32 t n q.1.word (size_kept 32 64 t n (omega arith) q.1.word e c.if-size-gt-MAX.false) in record { answer = told_here.0; meaning = told_here.1 }

pub returns-in-Err-NoSize : goal.returns-in-Err-NoSize
returns-in-Err-NoSize c =
    let q = c.wide_tail-wide.ensures in
    let t = trailing_of c.args.tail in
    let n = c.args.elems in
    let e = sym (ap (λ (x : Trailing). size_given 64 x n) q.0) ∙ sym c.size_for_elems.ensures.answer ∙ ap size_says (c.in-Err-NoSize.is ∙ ap Err c.in-Err-NoSize.field-0-is) in let told_here = told_size 32 t n q.1.word
    (c.none_within-in-Err-NoSize.ensures ∙ ap (λ (x : Trailing). none_within x.elem (max_trailing_for 64 x (M 32))) q.0 ∙ size_none 32 64 t n (omega arith) q.1.word e) in record { answer = told_here.0; meaning = told_here.1 }

pub returns-in-Err-Refused : goal.returns-in-Err-Refused
returns-in-Err-Refused c =
    let q = c.wide_tail-wide.ensures in
    let t = trailing_of c.args.tail in
    let n = c.args.elems in
    let e = sym (ap (λ (x : Trailing). size_given 64 x n) q.0) ∙ sym c.size_for_elems.ensures.answer ∙ ap size_says (c.in-Err-Refused.is ∙ ap Err c.in-Err-Refused.field-0-is) in let told_here = told_size 32 t n q.1.word (size_refused 32 64 t n (omega arith) q.1.word e) in record { answer = told_here.0; meaning = told_here.1 }
