-- A description that was read crosses as a composition does. Assumes nothing.
use Rattle.std.proofs.Common.{◌≡◌, ℕ, refl}
use Rattle.std.specs.Prelude.{Result, Ok, Err}
use Rattle.util.specs.declared.refusal.RefusedAt.{RefusedAt}
use Rattle.layout.specs.declared.DstLayout.{DstLayout}
use Rattle.compose.specs.View.{compose_says}
use Rattle.describe.specs.View.{read_says}
use Rattle.exports_describe.specs.Read.{as_composed}

pub as_read : (r : Result (DstLayout ℕ) (RefusedAt ℕ)) → compose_says r ≡ as_composed (read_says r)
as_read (Ok l) = refl
as_read (Err r) = refl
