-- `share::share_of_sums` meets its contract. Assumes nothing.
use Rattle.sums.specs.declared.tested.Sums.{Sums}
use Prim.Native.Nat.{ℕ}
use Rattle.util.specs.declared.refusal.RefusedAt.{RefusedAt}
use Rattle.std.specs.Prelude.{Result}
use Rattle.util.proofs.Told.{handed_on_at}
use mathlib.Core.Path.{sym, ap, ◌∙◌}
use Rattle.util_defs.specs.Placed.{reached, go_on}
use Rattle.share_defs.specs.Share.{share_of}
use Rattle.sums.specs.View.{sums_of, sums_says}
use Rattle.share.proofs.share_of_sums.Goals as goal

pub share_of-requires : goal.share_of-requires
share_of-requires c = c.requires (sums_of c.in_ok-x.x) (ap sums_says c.in_ok-x.was)

pub returns : goal.returns
returns c = ap reached c.share_of.ensures ∙ ap (λ (a : Result Sums (RefusedAt ℕ)). go_on (sums_says a) (λ x. reached (share_of c.args.count x))) (sym c.in_ok-x.was)

pub returns-in_err-x : goal.returns-in_err-x
returns-in_err-x c = handed_on_at _ c.from_residual.result _ c.from_residual.ensures.1 (ap (λ (a : Result Sums (RefusedAt ℕ)). go_on (sums_says a) (λ x. reached (share_of c.args.count x))) (sym c.in_err-x.was))
