-- `share::lowest_terms` meets its contract. Assumes nothing.
use mathlib.Core.Path.{ap}
use Prim.Native.Nat.{ℕ, ◌/◌}
use native.Mathlib.Nat.{pos_of_dvd_of_pos}
use Rattle.share.proofs.lowest_terms.Goals as goal

pub nonzero_div-result : goal.nonzero_div-result
nonzero_div-result c = pos_of_dvd_of_pos c.greatest_common_divisor-divisor.ensures.meaning.right c.requires

pub nonzero_div-result-2 : goal.nonzero_div-result-2
nonzero_div-result-2 c = pos_of_dvd_of_pos c.greatest_common_divisor-divisor.ensures.meaning.right c.requires

pub returns : goal.returns
returns c = ap (λ (g : ℕ). record { numerator = c.args.numerator / g; denominator = c.args.denominator / g }) c.greatest_common_divisor-divisor.ensures.answer
