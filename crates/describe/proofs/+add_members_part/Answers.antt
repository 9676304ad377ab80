-- `describe::read_part` and `describe::add_members`, which call one another, meet their contracts: the bytes left fall. Assumes
-- nothing.
use Rattle.std.proofs.Common.{rules, ◌≡◌}
use Rattle.util_defs.proofs.Mapped.{mapped_ok, mapped_err}
use Rattle.util.specs.View.{number_of}
use Rattle.std.specs.Prelude.{Ok}
use mathlib.Core.Path.{sym, ap, ◌∙◌}
use native.Mathlib.Omega.{arith}
use Rattle.util_defs.specs.Refusal.{Outcome}
use Rattle.util_defs.specs.Placed.{Placed, reached, stopped, at_place, go_on}
use Rattle.util_defs.proofs.Tables.{told_by}
use Rattle.layout_defs.specs.Layout.{Layout}
use Rattle.layout.specs.View.{layout_of, layout_says}
use Rattle.width.specs.Width.{bits_of, target_of, width_pad, width_array}
use Rattle.padding_defs.specs.Pad.{pad_for}
use Rattle.describe_defs.specs.Elements.{array_for, slice_of_for}
use Rattle.describe_defs.specs.Describe.{Part, part_for}
use Rattle.describe_defs.specs.Heads.{made}
use Rattle.describe_defs.proofs.Meaning.{moved}
use Rattle.describe_defs.proofs.Heads.{head_room, add_none, add_stop, add_off, add_on}
use Rattle.heads.specs.View.{head_says}
use Rattle.describe.specs.View.{stop_says}
use Rattle.width.proofs.Steps.{extend_at, extend_held, pad_at, array_at, slice_at, zst_at, zst_held, scalars_at}
use Rattle.width.proofs.Reading.{part_held, added_held, head_held}
use Rattle.describe.proofs.Ways.{handed_on_stop, part_told, code_scalar, by_head, made_alike, body_on, body_off, step_is}
use Prim.Native.Nat.{◌+◌, ◌-◌}
use Rattle.describe.proofs.+add_members_part.Goals as goal

pub add_members-loop-init : goal.add_members-loop-init
add_members-loop-init g t c = let e : c.args.count - 0 ≡ c.args.count = omega arith in (omega arith, (c.requires.0, rw e))

pub add_members-read_part-requires : goal.add_members-read_part-requires
add_members-read_part-requires g t c = λ κs h. (omega (arith, c.loop.invariant.0), h)

pub add_members-loop-preserved : goal.add_members-loop-preserved
add_members-loop-preserved g t c =
    let k = g.W.AtWidth.narrow in
    let f : c.args.count - c.loop.counter - 1 ≡ c.args.count - (c.loop.counter + 1) = omega arith in
    let l = layout_of c.loop.own in
    let m = layout_of c.in_ok-read.read.layout in
    let read = sym c.read_part.ensures.answer ∙ ap stop_says c.in_ok-read.was in
    let hl = c.loop.invariant.1.0 in
    let hm = part_held k c.args.s.now c.args.depth c.loop.at read in
    let hp = c.requires.1 in
    let e = told_by layout_says c.extend.ensures (mapped_ok c.extend.result _ _ c.map_err.ensures.cases c.in_ok-own.was) in (
      omega (arith, c.loop.invariant.0, moved (bits_of k) (target_of k) c.args.s.now c.args.depth c.loop.at c.in_ok-read.read.next m read),
      (
        extend_held k l m c.args.packed hl hm hp e,
        rw (sym f) (sym (add_on (bits_of k) (part_for (bits_of k) (target_of k) c.args.depth c.args.s.now) c.args.packed c.args.tag l c.loop.at (c.args.count - c.loop.counter) (λ z. omega (arith, c.loop-test.true)) read (step_is (bits_of k) c.args.packed l m (extend_at k l m c.args.packed hl hm hp ∙ e))) ∙ c.loop.invariant.1.1),
      ),
    )

pub add_members-returns-in_err-own : goal.add_members-returns-in_err-own
add_members-returns-in_err-own g t c =
    let k = g.W.AtWidth.narrow in
    let l = layout_of c.loop.own in
    let m = layout_of c.in_ok-read.read.layout in
    let read = sym c.read_part.ensures.answer ∙ ap stop_says c.in_ok-read.was in
    let hl = c.loop.invariant.1.0 in
    let hm = part_held k c.args.s.now c.args.depth c.loop.at read in
    let hp = c.requires.1 in
    let r = mapped_err c.extend.result _ _ (λ e. record { place = c.args.tag; refusal = e }) (λ e q. search rules) c.map_err.ensures.cases c.in_err-own.was in
    let e = told_by layout_says c.extend.ensures r.1 in
    handed_on_stop c.from_residual-in_err-own.result _ c.from_residual-in_err-own.ensures.1
    (ap (λ k. stopped (number_of k.refusal) k.place) r.2 ∙ sym (add_off (bits_of k) (part_for (bits_of k) (target_of k) c.args.depth c.args.s.now) c.args.packed c.args.tag l c.loop.at (c.args.count - c.loop.counter) (λ z. omega (arith, c.loop-test.true)) read (step_is (bits_of k) c.args.packed l m (extend_at k l m c.args.packed hl hm hp ∙ e))) ∙ c.loop.invariant.1.1)

pub add_members-returns-in_err-read : goal.add_members-returns-in_err-read
add_members-returns-in_err-read g t c =
    handed_on_stop c.from_residual.result _ c.from_residual.ensures.1 (sym (add_stop (bits_of g.W.AtWidth.narrow) (part_for (bits_of g.W.AtWidth.narrow) (target_of g.W.AtWidth.narrow) c.args.depth c.args.s.now) c.args.packed c.args.tag (layout_of c.loop.own) c.loop.at (c.args.count - c.loop.counter) (λ z. omega (arith, c.loop-test.true)) (sym c.read_part.ensures.answer ∙ ap stop_says c.in_err-read.was)) ∙ c.loop.invariant.1.1)

pub add_members-returns : goal.add_members-returns
add_members-returns g t c =
    sym (add_none (bits_of g.W.AtWidth.narrow) (part_for (bits_of g.W.AtWidth.narrow) (target_of g.W.AtWidth.narrow) c.args.depth c.args.s.now) c.args.packed c.args.tag (layout_of c.loop.own) c.loop.at (c.args.count - c.loop.counter) (omega (arith, c.loop-test.false))) ∙ c.loop.invariant.1.1

pub read_part-overflow_add-at : goal.read_part-overflow_add-at
read_part-overflow_add-at g t c =
    omega (arith, head_room (bits_of g.W.AtWidth.narrow) c.args.s.now c.args.at c.args.depth (sym c.head_of.ensures.answer ∙ ap head_says (c.in_ok-head.was ∙ ap Ok c.in-Scalar.is)))

pub read_part-overflow_add-at-in-Array : goal.read_part-overflow_add-at-in-Array
read_part-overflow_add-at-in-Array g t c =
    omega (arith, head_room (bits_of g.W.AtWidth.narrow) c.args.s.now c.args.at c.args.depth (sym c.head_of.ensures.answer ∙ ap head_says (c.in_ok-head.was ∙ ap Ok c.in-Array.is)))

pub read_part-overflow_add-at-in-Array-2 : goal.read_part-overflow_add-at-in-Array-2
read_part-overflow_add-at-in-Array-2 g t c =
    omega (arith, head_room (bits_of g.W.AtWidth.narrow) c.args.s.now c.args.at c.args.depth (sym c.head_of.ensures.answer ∙ ap head_says (c.in_ok-head.was ∙ ap Ok c.in-Array.is)))

pub read_part-overflow_sub-depth : goal.read_part-overflow_sub-depth
read_part-overflow_sub-depth g t c =
    (head_room (bits_of g.W.AtWidth.narrow) c.args.s.now c.args.at c.args.depth (sym c.head_of.ensures.answer ∙ ap head_says (c.in_ok-head.was ∙ ap Ok c.in-Array.is))).0

pub read_part-read_part-requires : goal.read_part-read_part-requires
read_part-read_part-requires g t c = λ κs h.
    (omega (arith, head_room (bits_of g.W.AtWidth.narrow) c.args.s.now c.args.at c.args.depth (sym c.head_of.ensures.answer ∙ ap head_says (c.in_ok-head.was ∙ ap Ok c.in-Array.is))), h)

pub read_part-overflow_sub-depth-in-Struct : goal.read_part-overflow_sub-depth-in-Struct
read_part-overflow_sub-depth-in-Struct g t c =
    (head_room (bits_of g.W.AtWidth.narrow) c.args.s.now c.args.at c.args.depth (sym c.head_of.ensures.answer ∙ ap head_says (c.in_ok-head.was ∙ ap Ok c.in-Struct.is))).0

pub read_part-add_members-requires : goal.read_part-add_members-requires
read_part-add_members-requires g t c =
    let e = sym c.head_of.ensures.answer ∙ ap head_says (c.in_ok-head.was ∙ ap Ok c.in-Struct.is) in
    let h = head_held g.W.AtWidth.narrow c.args.s.now c.args.depth c.args.at e in λ κs within. (
      omega (arith, head_room (bits_of g.W.AtWidth.narrow) c.args.s.now c.args.at c.args.depth e),
      (within, (zst_held g.W.AtWidth.narrow c.in-Struct.align h.0 (told_by layout_says c.new_zst.ensures.answer (mapped_ok c.new_zst.result _ _ c.map_err.ensures.cases c.in_ok-empty-in-Struct.was)), h.1)),
    )

pub read_part-overflow_add-at-in-Slice : goal.read_part-overflow_add-at-in-Slice
read_part-overflow_add-at-in-Slice g t c =
    omega (arith, head_room (bits_of g.W.AtWidth.narrow) c.args.s.now c.args.at c.args.depth (sym c.head_of.ensures.answer ∙ ap head_says (c.in_ok-head.was ∙ ap Ok c.in-Slice.is)))

pub read_part-overflow_sub-depth-in-Slice : goal.read_part-overflow_sub-depth-in-Slice
read_part-overflow_sub-depth-in-Slice g t c =
    (head_room (bits_of g.W.AtWidth.narrow) c.args.s.now c.args.at c.args.depth (sym c.head_of.ensures.answer ∙ ap head_says (c.in_ok-head.was ∙ ap Ok c.in-Slice.is))).0

pub read_part-read_part-requires-in-Slice : goal.read_part-read_part-requires-in-Slice
read_part-read_part-requires-in-Slice g t c = λ κs h.
    (omega (arith, head_room (bits_of g.W.AtWidth.narrow) c.args.s.now c.args.at c.args.depth (sym c.head_of.ensures.answer ∙ ap head_says (c.in_ok-head.was ∙ ap Ok c.in-Slice.is))), h)

pub read_part-returns-in-Scalar : goal.read_part-returns-in-Scalar
read_part-returns-in-Scalar g t c =
    let k = g.W.AtWidth.narrow in
    let e = sym c.head_of.ensures.answer ∙ ap head_says (c.in_ok-head.was ∙ ap Ok c.in-Scalar.is) in let told_here = part_told (bits_of k) (target_of k) (scalars_at k) c.args.depth c.args.s.now c.args.at
    (c.at_tag.ensures
    ∙ ap (λ (o : Outcome Layout). at_place c.args.at o (λ l. reached (l, c.args.at + 1))) (c.scalar.ensures ∙ code_scalar (target_of k) c.in-Scalar.code (head_room (bits_of k) c.args.s.now c.args.at c.args.depth e).1)
    ∙ sym (by_head (bits_of k) (target_of k) c.args.depth c.args.s.now c.args.at e)) in record { answer = told_here.0; meaning = told_here.1 }

pub read_part-returns-in-Array : goal.read_part-returns-in-Array
read_part-returns-in-Array g t c =
    let k = g.W.AtWidth.narrow in
    let e = sym c.head_of.ensures.answer ∙ ap head_says (c.in_ok-head.was ∙ ap Ok c.in-Array.is) in
    let n = c.in-Array.count in let told_here = part_told (bits_of k) (target_of k) (scalars_at k) c.args.depth c.args.s.now c.args.at
    (c.array_part.ensures
    ∙ made_alike (stop_says c.read_part.result) c.args.at (λ l. width_array k l n) (λ l. array_for (bits_of k) l n) (λ l j f. sym (array_at k l n (part_held k c.args.s.now (c.args.depth - 1) (c.args.at + 1 + 4) (sym c.read_part.ensures.answer ∙ f))))
    ∙ ap (λ (p : Placed Part). go_on p (made c.args.at (λ l. array_for (bits_of k) l n))) c.read_part.ensures.answer
    ∙ sym (by_head (bits_of k) (target_of k) c.args.depth c.args.s.now c.args.at e)) in record { answer = told_here.0; meaning = told_here.1 }

pub read_part-returns-in_ok-empty-in-Struct : goal.read_part-returns-in_ok-empty-in-Struct
read_part-returns-in_ok-empty-in-Struct g t c =
    let k = g.W.AtWidth.narrow in
    let e = sym c.head_of.ensures.answer ∙ ap head_says (c.in_ok-head.was ∙ ap Ok c.in-Struct.is) in
    let h = head_held k c.args.s.now c.args.depth c.args.at e in
    let z = told_by layout_says c.new_zst.ensures.answer (mapped_ok c.new_zst.result _ _ c.map_err.ensures.cases c.in_ok-empty-in-Struct.was) in
    let l = layout_of c.in_ok-empty-in-Struct.empty in let told_here = part_told (bits_of k) (target_of k) (scalars_at k) c.args.depth c.args.s.now c.args.at
    (c.struct_part.ensures
    ∙ made_alike (stop_says c.add_members.result) c.args.at (width_pad k) (pad_for (bits_of k)) (λ r j f. sym (pad_at k r (added_held k c.args.s.now (c.args.depth - 1) c.in-Struct.packed c.args.at c.in-Struct.count l c.in-Struct.first (zst_held k c.in-Struct.align h.0 z) h.1 (sym c.add_members.ensures ∙ f))))
    ∙ ap (λ (p : Placed Part). go_on p (made c.args.at (pad_for (bits_of k)))) c.add_members.ensures
    ∙ sym (by_head (bits_of k) (target_of k) c.args.depth c.args.s.now c.args.at e
    ∙ body_on (bits_of k) (part_for (bits_of k) (target_of k) (c.args.depth - 1) c.args.s.now) c.args.at c.in-Struct.first c.in-Struct.align c.in-Struct.packed c.in-Struct.count (zst_at k c.in-Struct.align h.0 ∙ z))) in record { answer = told_here.0; meaning = told_here.1 }

pub read_part-returns-in_err-empty-in-Struct : goal.read_part-returns-in_err-empty-in-Struct
read_part-returns-in_err-empty-in-Struct g t c =
    let k = g.W.AtWidth.narrow in
    let e = sym c.head_of.ensures.answer ∙ ap head_says (c.in_ok-head.was ∙ ap Ok c.in-Struct.is) in
    let m = mapped_err c.new_zst.result _ _ (λ e. record { place = c.args.at; refusal = e }) (λ e q. search rules) c.map_err.ensures.cases c.in_err-empty-in-Struct.was in
    let z = told_by layout_says c.new_zst.ensures.answer m.1 in let told_here = part_told (bits_of k) (target_of k) (scalars_at k) c.args.depth c.args.s.now c.args.at
    (handed_on_stop c.from_residual-in_err-empty-in-Struct.result _ c.from_residual-in_err-empty-in-Struct.ensures.1 (ap (λ k. stopped (number_of k.refusal) k.place) m.2 ∙ sym (by_head (bits_of k) (target_of k) c.args.depth c.args.s.now c.args.at e
    ∙ body_off (bits_of k) (part_for (bits_of k) (target_of k) (c.args.depth - 1) c.args.s.now) c.args.at c.in-Struct.first c.in-Struct.align c.in-Struct.packed c.in-Struct.count (zst_at k c.in-Struct.align (head_held k c.args.s.now c.args.depth c.args.at e).0 ∙ z)))) in record { answer = told_here.0; meaning = told_here.1 }

pub read_part-returns-in-Slice : goal.read_part-returns-in-Slice
read_part-returns-in-Slice g t c =
    let k = g.W.AtWidth.narrow in
    let e = sym c.head_of.ensures.answer ∙ ap head_says (c.in_ok-head.was ∙ ap Ok c.in-Slice.is) in let told_here = part_told (bits_of k) (target_of k) (scalars_at k) c.args.depth c.args.s.now c.args.at
    (c.slice_part.ensures
    ∙ made_alike (stop_says c.read_part-in-Slice.result) c.args.at (slice_of_for 64) (slice_of_for (bits_of k)) (λ l j f. sym (slice_at k l (part_held k c.args.s.now (c.args.depth - 1) (c.args.at + 1) (sym c.read_part-in-Slice.ensures.answer ∙ f))))
    ∙ ap (λ (p : Placed Part). go_on p (made c.args.at (slice_of_for (bits_of k)))) c.read_part-in-Slice.ensures.answer
    ∙ sym (by_head (bits_of k) (target_of k) c.args.depth c.args.s.now c.args.at e)) in record { answer = told_here.0; meaning = told_here.1 }

pub read_part-returns-in_err-head : goal.read_part-returns-in_err-head
read_part-returns-in_err-head g t c =
    let k = g.W.AtWidth.narrow in
    let e = sym c.head_of.ensures.answer ∙ ap head_says c.in_err-head.was in let told_here = part_told (bits_of k) (target_of k) (scalars_at k) c.args.depth c.args.s.now c.args.at
    (handed_on_stop c.from_residual.result _ c.from_residual.ensures.1 (sym (by_head (bits_of k) (target_of k) c.args.depth c.args.s.now c.args.at e))) in record { answer = told_here.0; meaning = told_here.1 }
