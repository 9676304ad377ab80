-- `cast::exact_elems` meets its contract. Assumes nothing.
use Prim.Native.Nat.{ℕ}
use Rattle.cast.specs.declared.Granted.{Granted}
use Rattle.util.specs.declared.refusal.Refusal.{Refusal}
use Rattle.std.specs.Prelude.{Result}
use mathlib.Core.Path.{◌≡◌, sym, ◌∙◌}
use native.Mathlib.Omega.{arith}
use Rattle.util_defs.specs.Refusal.{unless}
use Rattle.layout.specs.View.{layout_of}
use Rattle.cast_defs.specs.Cast.{prefix, bytes_causes, greatest_grant, cast_for}
use Rattle.cast.specs.View.{cast_says}
use Rattle.cast_defs.proofs.Grants.{cast_accepted}
use Rattle.cast.proofs.Told.{exact_answered, exact_other, exact_none}
use Rattle.cast.proofs.exact_elems.Goals as goal
use Rattle.cast.proofs.exact_elems.Goals.{Start}

-- the layout is accepted, so the answer over the bytes is that of the whole cast
whole : (k : Start) (r : Result (Granted ℕ) Refusal) → let l = layout_of k.args.valid.layout in
    cast_says r ≡ unless (bytes_causes 64 l prefix 0 k.args.size) (greatest_grant 64 l.info prefix k.args.size) → cast_says r ≡ cast_for 64 l prefix 0 k.args.size
whole k r e = e ∙ sym (cast_accepted 64 (layout_of k.args.valid.layout) prefix 0 k.args.size (omega arith) k.args.valid.accepted)

pub returns-then-granted-size : goal.returns-then-granted-size
returns-then-granted-size c =
    exact_answered 64 (layout_of c.args.valid.layout) c.args.size c.cast_checked.result c.requires (whole c.before.before.before.before c.cast_checked.result c.cast_checked.ensures) c.in-Ok.is c.if-granted-size.true

pub returns-else-granted-size : goal.returns-else-granted-size
returns-else-granted-size c =
    exact_other 64 (layout_of c.args.valid.layout) c.args.size c.cast_checked.result (whole c.before.before.before.before c.cast_checked.result c.cast_checked.ensures) c.in-Ok.is c.if-granted-size.false

pub returns-in_default : goal.returns-in_default
returns-in_default c =
    exact_none 64 (layout_of c.args.valid.layout) c.args.size c.cast_checked.result (whole c.before.before c.cast_checked.result c.cast_checked.ensures) c.in_default.is
