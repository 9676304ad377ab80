-- `convert::compute_from_sized` meets its contract. Assumes nothing.
use mathlib.Core.Path.{refl, sym, ap, ◌∙◌}
use borrow.Author.Tests.{eq-eqb, ne_eqb}
use Rattle.util.specs.View.{number_says}
use Rattle.util_defs.proofs.Tables.{told_by}
use Rattle.shift_defs.specs.Mode.{comparison_of}
use Rattle.layout_defs.specs.Layout.{fixed}
use Rattle.layout.specs.declared.SizeInfo.{SizeInfo}
use Rattle.layout.specs.View.{info_of, layout_of}
use Rattle.convert_defs.specs.Convert.{Params, with_count, by_kinds}
use Rattle.convert_defs.specs.Reasons.{is_refused}
use Rattle.util_defs.specs.Refusal.{Outcome, answered, refused, unless}
use mathlib.Core.Bool.{cond}
use Prim.Native.Nat.{ℕ}
use Rattle.convert.proofs.compute_from_sized.Goals as goal

-- what an outcome of the exact count gives
abbrev by_count : Outcome ℕ → Outcome Params
by_count o = cond (is_refused o) (refused 28) (answered (with_count o))

pub returns-then-src_size-size : goal.returns-then-src_size-size
unfolding unless
returns-then-src_size-size c = λ m.
    simp (eq-eqb c.args.src_size c.in-Sized.size c.if-src_size-size.true) refl ∙ ap (λ (i : SizeInfo ℕ). by_kinds 64 (comparison_of 64 m) (fixed c.args.src_size) (layout_of c.args.dst_layout) (info_of i)) (sym c.in-Sized.is)

pub returns-else-src_size-size : goal.returns-else-src_size-size
unfolding unless
returns-else-src_size-size c = λ m.
    simp (ne_eqb c.args.src_size c.in-Sized.size c.if-src_size-size.false) refl ∙ ap (λ (i : SizeInfo ℕ). by_kinds 64 (comparison_of 64 m) (fixed c.args.src_size) (layout_of c.args.dst_layout) (info_of i)) (sym c.in-Sized.is)

pub returns-in-Ok : goal.returns-in-Ok
unfolding unless
returns-in-Ok c = λ m.
    ap by_count (sym (told_by number_says c.metadata_for_exact_size.ensures.answer c.in-Ok.is)) ∙ ap (λ (i : SizeInfo ℕ). by_kinds 64 (comparison_of 64 m) (fixed c.args.src_size) (layout_of c.args.dst_layout) (info_of i)) (sym c.in-SliceDst.is)

pub returns-in_default : goal.returns-in_default
unfolding unless
returns-in_default c = λ m.
    ap by_count (sym (told_by number_says c.metadata_for_exact_size.ensures.answer c.in_default.is)) ∙ ap (λ (i : SizeInfo ℕ). by_kinds 64 (comparison_of 64 m) (fixed c.args.src_size) (layout_of c.args.dst_layout) (info_of i)) (sym c.in-SliceDst.is)
