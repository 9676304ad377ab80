-- The address that a cast at w bits is given for one at v. Assumes nothing.
use Rattle.std.specs.Prelude.{cond, ℕ, ◌+◌, leb}
use Rattle.util_defs.specs.Width.{M}

-- an address that passes M with the length at v bits becomes one that passes it at w, so that 11 is met in its turn: after 1, 2
-- and 10, and before 12 and 13
abbrev pub far_address : ℕ → ℕ → ℕ → ℕ → ℕ
far_address v w addr len = cond (leb (addr + len) (M v)) addr (M w)
