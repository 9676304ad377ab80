-- `cases::cases_bytes` meets its contract. Assumes nothing.
use native.Mathlib.Omega.{arith}
use Rattle.cases.proofs.Written.{thrice, few}
use Rattle.cases.proofs.cases_bytes.Goals as goal

pub overflow_sub-result : goal.overflow_sub-result
overflow_sub-result c = omega (arith, thrice c.args.longest c.requires)

pub overflow_mul-result-2 : goal.overflow_mul-result-2
overflow_mul-result-2 c = omega (arith, thrice c.args.longest c.requires, few c.args.longest c.requires)

pub returns : goal.returns
returns c = omega (arith, thrice c.args.longest c.requires)
