-- `trailing32::none_within` meets its contract. Assumes nothing.
use mathlib.Core.Path.{sym, ap}
use native.Mathlib.Omega.{arith}
use native.Mathlib.Nat.{div-le_self}
use Rattle.util_defs.specs.Width.{M}
use Rattle.util_defs.proofs.Tables.{told_by}
use Rattle.util.specs.View.{number_says}
use Rattle.trailing.specs.View.{trailing_of}
use Rattle.widths_defs.specs.Within.{none_within}
use Rattle.widths_defs.proofs.Sizes.{room_holds}
use Rattle.trailing32.proofs.none_within.Goals as goal

pub nonzero_div-result : goal.nonzero_div-result
nonzero_div-result c =
    c.requires.1 (room_holds 64 (trailing_of c.args.tail) (M 32) (omega (arith, c.requires.0)) (told_by number_says c.max_trailing_bytes.ensures.answer c.in-Ok.is)).0

pub overflow_cast-result : goal.overflow_cast-result
overflow_cast-result c =
    let m = (room_holds 64 (trailing_of c.args.tail) (M 32) (omega (arith, c.requires.0)) (told_by number_says c.max_trailing_bytes.ensures.answer c.in-Ok.is)).1 in
    omega (arith, m, div-le_self c.in-Ok.bytes c.args.tail.elem_size)

pub returns : goal.returns
returns c = ap (none_within (trailing_of c.args.tail).elem) (sym (told_by number_says c.max_trailing_bytes.ensures.answer c.in-Ok.is))

pub returns-in_default : goal.returns-in_default
returns-in_default c = ap (none_within (trailing_of c.args.tail).elem) (sym (told_by number_says c.max_trailing_bytes.ensures.answer c.in_default.is))
