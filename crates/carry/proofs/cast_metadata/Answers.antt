-- `carry::cast_metadata` meets its contract. Assumes nothing.
use Prim.Native.Nat.{ℕ}
use mathlib.Core.Path.{refl, sym, ap, ◌∙◌}
use Prim.Native.Nat.{◌-◌, ◌^◌}
use borrow.Author.Tests.{le-ltb}
use native.Mathlib.Omega.{arith}
use Rattle.util_defs.specs.Refusal.{unless}
use Rattle.convert_defs.specs.Convert.{metadata_for}
use Rattle.convert.specs.declared.CastParamsInner.{CastParamsInner}
use Rattle.convert.specs.View.{params_in}
use Rattle.convert_defs.proofs.Conversions.{metadata_meets}
use Rattle.util_defs.proofs.Refusals.{means}
use Rattle.carry.proofs.cast_metadata.Goals as goal

pub returns-in-UnsizedToUnsized-clause-answer : goal.returns-in-UnsizedToUnsized-clause-answer
returns-in-UnsizedToUnsized-clause-answer c = c.add_scaled_metadata.ensures ∙ ap (λ (q : CastParamsInner ℕ). metadata_for 64 (params_in q) c.args.src_meta) (sym c.in-UnsizedToUnsized.is)

pub returns-in-UnsizedToUnsized-clause-meaning : goal.returns-in-UnsizedToUnsized-clause-meaning
returns-in-UnsizedToUnsized-clause-meaning c = means (metadata_meets 64 (params_in c.args.params) c.args.src_meta) (returns-in-UnsizedToUnsized-clause-answer c)

pub returns-in-SizedToUnsized-clause-answer : goal.returns-in-SizedToUnsized-clause-answer
unfolding metadata_for unless
returns-in-SizedToUnsized-clause-answer c = simp (le-ltb (2 ^ 64 - 1) c.in-SizedToUnsized.dst_meta (omega arith)) refl ∙ ap (λ (q : CastParamsInner ℕ). metadata_for 64 (params_in q) c.args.src_meta) (sym c.in-SizedToUnsized.is)

pub returns-in-SizedToUnsized-clause-meaning : goal.returns-in-SizedToUnsized-clause-meaning
returns-in-SizedToUnsized-clause-meaning c = means (metadata_meets 64 (params_in c.args.params) c.args.src_meta) (returns-in-SizedToUnsized-clause-answer c)

pub returns-in-SizedToSized-clause-answer : goal.returns-in-SizedToSized-clause-answer
unfolding metadata_for unless
returns-in-SizedToSized-clause-answer c = ap (λ (q : CastParamsInner ℕ). metadata_for 64 (params_in q) c.args.src_meta) (sym c.in-SizedToSized.is)

pub returns-in-SizedToSized-clause-meaning : goal.returns-in-SizedToSized-clause-meaning
returns-in-SizedToSized-clause-meaning c = means (metadata_meets 64 (params_in c.args.params) c.args.src_meta) (returns-in-SizedToSized-clause-answer c)
