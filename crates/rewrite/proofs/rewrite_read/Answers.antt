-- `rewrite::rewrite_read` meets its contract. Assumes nothing.
use Rattle.util.proofs.Told.{handed_on_at}
use mathlib.Core.Path.{sym, ap, ◌∙◌}
use native.Mathlib.Omega.{arith}
use lib.ListN.{length}
use Rattle.width.specs.Width.{bits_of, target_of}
use Rattle.rewrite_defs.specs.Rewrite.{Way}
use Rattle.rewrite.specs.View.{way_of, length_to, turned_says}
use Rattle.rewrite.proofs.Ends.{read_whole, few_turned, room_of, long_bytes, ends_written, ends_short, ends_above}
use Rattle.rewrite.proofs.rewrite_read.Goals as goal

pub count_turned-requires : goal.count_turned-requires
count_turned-requires g c =
    read_whole (bits_of g.W.AtWidth.narrow) (target_of g.W.AtWidth.narrow) c.args.description.now c.requires

pub has_room-requires : goal.has_room-requires
has_room-requires g c =
    few_turned (bits_of g.W.AtWidth.narrow) (target_of g.W.AtWidth.narrow) (way_of c.args.way) c.args.description.now c.requires (sym (ap turned_says c.in_ok-turned.was) ∙ c.count_turned.ensures)

pub write_heads-requires : goal.write_heads-requires
write_heads-requires g c =
    (read_whole (bits_of g.W.AtWidth.narrow) (target_of g.W.AtWidth.narrow) c.args.description.now c.requires, room_of (bits_of g.W.AtWidth.narrow) (target_of g.W.AtWidth.narrow) (way_of c.args.way) c.args.description.now c.requires c.args.out.now (sym (ap turned_says c.in_ok-turned.was) ∙ c.count_turned.ensures) (sym c.has_room.ensures ∙ c.if-has_room.true))

pub overflow_add-bytes : goal.overflow_add-bytes
overflow_add-bytes g c =
    omega (arith, long_bytes (bits_of g.W.AtWidth.narrow) (target_of g.W.AtWidth.narrow) (way_of c.args.way) c.args.description.now c.requires c.args.out.now (sym (ap turned_says c.in_ok-turned.was) ∙ c.count_turned.ensures) (sym c.has_room.ensures ∙ c.if-has_room.true) (ap way_of c.in-Longer.is) c.well_formed.1.0.0)

pub overflow_sub-bytes : goal.overflow_sub-bytes
overflow_sub-bytes g c =
    few_turned (bits_of g.W.AtWidth.narrow) (target_of g.W.AtWidth.narrow) (way_of c.args.way) c.args.description.now c.requires (sym (ap turned_says c.in_ok-turned.was) ∙ c.count_turned.ensures)

pub returns-in-Longer : goal.returns-in-Longer
returns-in-Longer g c = let told_here = ends_written (bits_of g.W.AtWidth.narrow) (target_of g.W.AtWidth.narrow) (way_of c.args.way) c.args.description.now c.requires c.args.out.now (sym (ap turned_says c.in_ok-turned.was) ∙ c.count_turned.ensures) (sym c.has_room.ensures ∙ c.if-has_room.true) (sym (ap (λ (w : Way). length_to w (length c.args.description.now) c.in_ok-turned.turned) (ap way_of c.in-Longer.is))) c.write_heads.ensures in record { result_value = told_here.0; out_after = told_here.1 }

pub returns-in-Shorter : goal.returns-in-Shorter
returns-in-Shorter g c = let told_here = ends_written (bits_of g.W.AtWidth.narrow) (target_of g.W.AtWidth.narrow) (way_of c.args.way) c.args.description.now c.requires c.args.out.now (sym (ap turned_says c.in_ok-turned.was) ∙ c.count_turned.ensures) (sym c.has_room.ensures ∙ c.if-has_room.true) (sym (ap (λ (w : Way). length_to w (length c.args.description.now) c.in_ok-turned.turned) (ap way_of c.in-Shorter.is))) c.write_heads.ensures in record { result_value = told_here.0; out_after = told_here.1 }

pub returns-else-has_room : goal.returns-else-has_room
returns-else-has_room g c = let told_here = ends_short (bits_of g.W.AtWidth.narrow) (target_of g.W.AtWidth.narrow) (way_of c.args.way) c.args.description.now c.requires c.args.out.now (sym (ap turned_says c.in_ok-turned.was) ∙ c.count_turned.ensures) (sym c.has_room.ensures ∙ c.if-has_room.false) in record { result_value = told_here.0; out_after = told_here.1 }

pub returns-in_err-turned : goal.returns-in_err-turned
returns-in_err-turned g c = let told_here = ends_above (bits_of g.W.AtWidth.narrow) (target_of g.W.AtWidth.narrow) (way_of c.args.way) c.args.description.now c.requires c.args.out.now (sym (ap turned_says c.in_err-turned.was) ∙ c.count_turned.ensures) in record { result_value = handed_on_at _ c.from_residual.result _ c.from_residual.ensures.1 told_here.0; out_after = told_here.1 }
