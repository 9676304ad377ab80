-- `layouts32::wide_layout` meets its contract. Assumes nothing.
use native.Mathlib.Omega.{arith}
use Rattle.layouts32.proofs.wide_layout.Goals as goal

pub returns : goal.returns
returns c = (simp c.wide_info.ensures.0, record { align = omega arith; info = c.wide_info.ensures.1 })
