-- What the types of this crate are, over numbers. Assumes nothing.
use Rattle.std.specs.Prelude.{ℕ, Result}
use Rattle.util.specs.View.{placed_says, accepted}
use Rattle.util.specs.declared.refusal.RefusedAt.{RefusedAt}
use Rattle.std.specs.Prelude.{ℕ}
use Rattle.util_defs.specs.Placed.{Placed}

abbrev pub move_says : Result ℕ (RefusedAt ℕ) → Placed ℕ
move_says = placed_says (λ n. n)

abbrev pub test_says : Result (Unit {0}) (RefusedAt ℕ) → Placed (Unit {0})
test_says = placed_says accepted
