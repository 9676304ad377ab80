-- `cast::cast_checked` meets its contract. Assumes nothing.
use Rattle.util.proofs.Told.{handed_on}
use mathlib.Core.Path.{◌≡◌, refl, sym, ap, ap₂, ◌∙◌, subst}
use mathlib.Core.Bool.{Bool, false}
use mathlib.Core.List.{[], ◌∷◌}
use Prim.Native.Nat.{ℕ, ◌+◌, ◌-◌, ◌%◌, ◌^◌, ◌≤◌}
use lib.Dec.{lit<}
use borrow.Author.Tests.{lt-ltb, le-ltb, eq-eqb, ne_eqb}
use native.Mathlib.Omega.{arith}
use Rattle.util_defs.specs.Refusal.{Outcome, answered, refused, unless}
use Rattle.util_defs.proofs.Refusals.{no}
use Rattle.util_defs.proofs.Tables.{told_by, refused_as, accepted_as}
use Rattle.trailing.specs.View.{trailing_of}
use Rattle.layout_defs.specs.Layout.{fixed, trailing, no_word}
use Rattle.layout.specs.declared.SizeInfo.{SizeInfo}
use Rattle.layout.specs.View.{info_of, layout_of}
use Rattle.cast_defs.specs.Cast.{Grant, elem_zero, prefix, tested_address, split_at, is_elem_zero, too_small, bytes_causes, greatest_grant}
use Rattle.cast.specs.View.{side_of, cast_says}
use Rattle.cast_defs.proofs.Grants.{elem_decided}
use Rattle.cast.proofs.Told.{fit_told, fit_within}
use Rattle.cast.proofs.cast_checked.Goals as goal
use Rattle.cast.proofs.cast_checked.Goals.{Start}

abbrev tested : Start → ℕ
tested k = tested_address (side_of k.args.cast_type) k.args.addr k.args.len

-- no remainder of the address by the alignment
straight : (k : Start) {a v r : ℕ} → a ≡ k.args.valid.layout.align → v ≡ tested k → r ≡ v % a → r ≡ 0 → tested k % k.args.valid.layout.align ≡ 0
straight k d e f z = sym (ap₂ (λ (x y : ℕ). x % y) e d) ∙ sym f ∙ z

-- past the tests of 10, 11 and 12 only the size is left
passed : (k : Start) {b : Bool} → b ≡ false → b ≡ is_elem_zero (info_of k.args.valid.layout.size_info) → k.args.addr + k.args.len ≤ 2 ^ 64 - 1
    → tested k % k.args.valid.layout.align ≡ 0
    → let i = info_of k.args.valid.layout.size_info in
    let side = side_of k.args.cast_type in
    unless (bytes_causes 64 (layout_of k.args.valid.layout) side k.args.addr k.args.len) (greatest_grant 64 i side k.args.len)
    ≡ unless (too_small 64 i k.args.len ∷ []) (greatest_grant 64 i side k.args.len)
unfolding unless
passed k f e l z = simp (sym e ∙ f, le-ltb (2 ^ 64 - 1) (k.args.addr + k.args.len) l, eq-eqb (tested k % k.args.valid.layout.align) 0 z)

-- what is left to say of a size
abbrev says : Start → SizeInfo ℕ → Outcome Grant
says k i = unless (too_small 64 (info_of i) k.args.len ∷ []) (greatest_grant 64 (info_of i) (side_of k.args.cast_type) k.args.len)

pub returns-then-elem_size_zero : goal.returns-then-elem_size_zero
unfolding unless
returns-then-elem_size_zero c = simp (sym c.elem_size_zero.ensures ∙ c.if-elem_size_zero.true)

pub returns-then-addr-len : goal.returns-then-addr-len
unfolding unless
returns-then-addr-len c =
    simp (sym c.elem_size_zero.ensures ∙ c.if-elem_size_zero.false, lt-ltb (2 ^ 64 - 1) (c.args.addr + c.args.len) (omega arith))

pub returns-then-remainder-ne0 : goal.returns-then-remainder-ne0
unfolding unless
returns-then-remainder-ne0 c =
    let a = c.args.valid.layout.align in
    let t = tested_address (side_of c.args.cast_type) c.args.addr c.args.len in
    let n : t % a ≡ 0 → ⊥ = λ z. c.if-remainder-ne0.true (c.remainder.ensures ∙ ap₂ (λ (x y : ℕ). x % y) c.tested_address-tested.ensures c.align.ensures ∙ z) in
    simp (sym c.elem_size_zero.ensures ∙ c.if-elem_size_zero.false, le-ltb (2 ^ 64 - 1) (c.args.addr + c.args.len) (omega arith), ne_eqb (t % a) 0 n)

pub invariant_of-fit_trailing : goal.invariant_of-fit_trailing
invariant_of-fit_trailing c =
    let w = subst (λ (i : SizeInfo ℕ). (no_word (info_of i)).means → ⊥) c.in-SliceDst.is c.args.valid.accepted.1.0 in
    omega (arith, w)

pub fit_trailing-requires : goal.fit_trailing-requires
fit_trailing-requires c =
    let g = c.in-SliceDst.is in
    let z = subst (λ (i : SizeInfo ℕ). (elem_zero (info_of i)).means → ⊥) g (no (elem_decided (info_of c.args.valid.layout.size_info)) (sym c.elem_size_zero.ensures ∙ c.if-elem_size_zero.false)) in
    omega (arith, z)

pub split_around-requires-in-SliceDst : goal.split_around-requires-in-SliceDst
split_around-requires-in-SliceDst c =
    let g = c.in-SliceDst.is in
    let w = subst (λ (i : SizeInfo ℕ). (no_word (info_of i)).means → ⊥) g c.args.valid.accepted.1.0 in
    let z = subst (λ (i : SizeInfo ℕ). (elem_zero (info_of i)).means → ⊥) g (no (elem_decided (info_of c.args.valid.layout.size_info)) (sym c.elem_size_zero.ensures ∙ c.if-elem_size_zero.false)) in
    fit_within 64 (trailing (trailing_of c.in-SliceDst.tail)) c.args.len c.fit_trailing.result c.fit_trailing.ensures c.in_ok-fit-in-SliceDst.was (lit< tt) w z

pub returns-then-size-len : goal.returns-then-size-len
unfolding unless
returns-then-size-len c =
    let s = c.in-Sized.size in
    let u : refused 13 ≡ unless (too_small 64 (fixed s) c.args.len ∷ []) (greatest_grant 64 (fixed s) (side_of c.args.cast_type) c.args.len) = simp (lt-ltb c.args.len s c.if-size-len.true) (refl) in
    u ∙ ap (says c.before.before.before.before.before.before.before.before.before.before) (sym c.in-Sized.is) ∙ sym (passed c.before.before.before.before.before.before.before.before.before.before c.if-elem_size_zero.false c.elem_size_zero.ensures (omega arith) (straight c.before.before.before.before.before.before.before.before.before.before c.align.ensures c.tested_address-tested.ensures c.remainder.ensures c.if-remainder-ne0.false))

pub returns-else-size-len : goal.returns-else-size-len
unfolding unless
returns-else-size-len c =
    let s = c.in-Sized.size in
    let u : answered (record { count = 0; split = split_at (side_of c.args.cast_type) c.args.len s }) ≡ unless (too_small 64 (fixed s) c.args.len ∷ []) (greatest_grant 64 (fixed s) (side_of c.args.cast_type) c.args.len) = simp (le-ltb c.args.len s c.if-size-len.false) (refl) in
    ap (λ (x : ℕ). answered (record { count = 0; split = x })) c.split_around.ensures ∙ u ∙ ap (says c.before.before.before.before.before.before.before.before.before.before.before) (sym c.in-Sized.is) ∙ sym (passed c.before.before.before.before.before.before.before.before.before.before.before c.if-elem_size_zero.false c.elem_size_zero.ensures (omega arith) (straight c.before.before.before.before.before.before.before.before.before.before.before c.align.ensures c.tested_address-tested.ensures c.remainder.ensures c.if-remainder-ne0.false))

pub returns-in_ok-fit-in-SliceDst : goal.returns-in_ok-fit-in-SliceDst
returns-in_ok-fit-in-SliceDst c =
    let i = trailing (trailing_of c.in-SliceDst.tail) in
    let f = fit_told 64 i c.args.len c.fit_trailing.result c.fit_trailing.ensures c.in_ok-fit-in-SliceDst.was in
    let ok = accepted_as (too_small 64 i c.args.len ∷ []) (greatest_grant 64 i prefix c.args.len) (greatest_grant 64 i (side_of c.args.cast_type) c.args.len) (told_by cast_says c.fit_trailing.ensures c.in_ok-fit-in-SliceDst.was) in
    ap₂ (λ (n s : ℕ). answered (record { count = n; split = s })) f.0 (c.split_around-in-SliceDst.ensures ∙ ap (split_at (side_of c.args.cast_type) c.args.len) f.1)
    ∙ sym ok ∙ ap (says c.before.before.before.before.before.before.before.before.before.before.before.before.before.before) (sym c.in-SliceDst.is) ∙ sym (passed c.before.before.before.before.before.before.before.before.before.before.before.before.before.before c.if-elem_size_zero.false c.elem_size_zero.ensures (omega arith) (straight c.before.before.before.before.before.before.before.before.before.before.before.before.before.before c.align.ensures c.tested_address-tested.ensures c.remainder.ensures c.if-remainder-ne0.false))

pub returns-in_err-fit-in-SliceDst : goal.returns-in_err-fit-in-SliceDst
returns-in_err-fit-in-SliceDst c =
    let i = trailing (trailing_of c.in-SliceDst.tail) in
    let ok = refused_as (too_small 64 i c.args.len ∷ []) (greatest_grant 64 i prefix c.args.len) (greatest_grant 64 i (side_of c.args.cast_type) c.args.len) (told_by cast_says c.fit_trailing.ensures c.in_err-fit-in-SliceDst.was) in
    handed_on _ c.from_residual.result _ c.from_residual.ensures.1 (sym ok ∙ ap (says c.before.before.before.before.before.before.before.before.before.before.before.before.before.before) (sym c.in-SliceDst.is) ∙ sym (passed c.before.before.before.before.before.before.before.before.before.before.before.before.before.before c.if-elem_size_zero.false c.elem_size_zero.ensures (omega arith) (straight c.before.before.before.before.before.before.before.before.before.before.before.before.before.before c.align.ensures c.tested_address-tested.ensures c.remainder.ensures c.if-remainder-ne0.false)))
