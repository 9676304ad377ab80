-- `needs::dynamic_padding` meets its contract. Assumes nothing.
use Prim.Native.Nat.{ℕ}
use mathlib.Core.Path.{subst}
use native.Mathlib.Omega.{arith}
use Rattle.layout_defs.specs.Layout.{no_word}
use Rattle.layout.specs.View.{info_of}
use Rattle.layout.specs.declared.SizeInfo.{SizeInfo}
use Rattle.layout.specs.declared.SizeInfo.TheVariants.{SliceDst}
use Rattle.needs.proofs.dynamic_padding.Goals as goal

pub invariant_of-trailing_padding : goal.invariant_of-trailing_padding
invariant_of-trailing_padding c =
    let n : (no_word (info_of (SliceDst c.in-SliceDst.tail))).means → ⊥ = subst (λ (i : SizeInfo ℕ). (no_word (info_of i)).means → ⊥) c.in-SliceDst.is c.args.valid.accepted.1.0 in
    record { has_word = omega (arith, n) }

pub returns-in-Sized : goal.returns-in-Sized
returns-in-Sized c = simp c.in-Sized.is

pub returns-in-SliceDst : goal.returns-in-SliceDst
returns-in-SliceDst c = simp c.in-SliceDst.is c.trailing_padding.ensures
