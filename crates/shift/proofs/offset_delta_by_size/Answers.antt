-- `shift::offset_delta_by_size` meets its contract. Assumes nothing.
use mathlib.Core.Path.{refl, sym, ap, ◌∙◌}
use Prim.Native.Nat.{◌-◌, ◌^◌}
use borrow.Author.Tests.{le-leb, lt-leb}
use native.Mathlib.Omega.{arith}
use Rattle.trailing_defs.specs.Size.{size_at}
use Rattle.trailing.specs.View.{trailing_of}
use Rattle.trailing.proofs.Told.{size_told, size_not}
use Rattle.layout.specs.View.{layout_of}
use Rattle.cast_defs.specs.Exact.{exact_for}
use Rattle.shift_defs.specs.Shift.{answered_by}
use Rattle.shift.specs.View.{shift_in}
use Rattle.shift.proofs.Told.{by_ok}
use Rattle.shift.proofs.offset_delta_by_size.Goals as goal

pub returns-in_default : goal.returns-in_default
returns-in_default c =
    let s = trailing_of c.args.src.layout in
    simp (lt-leb (size_at 64 s 0) (2 ^ 64 - 1) (size_not 64 s 0 c.size_for_elems.result c.args.src.has_word (omega arith) c.size_for_elems.ensures.meaning c.in_default.is))

pub returns : goal.returns
returns c =
    let s = trailing_of c.args.src.layout in
    let z = size_told 64 s 0 c.size_for_elems.result c.size_for_elems.ensures.meaning c.in-Ok.is in
    ap shift_in c.ok.ensures.value ∙ by_ok c.metadata_for_exact_size.result
    ∙ ap answered_by (c.metadata_for_exact_size.ensures.answer ∙ ap (exact_for 64 (layout_of c.args.dst_layout)) z.1)
    ∙ sym (simp (le-leb (size_at 64 s 0) (2 ^ 64 - 1) z.0) refl)
