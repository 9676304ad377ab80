-- `cases::write_cases` meets its contract. Assumes nothing.
use mathlib.Core.Path.{refl, sym, ap, ◌∙◌}
use Prim.Native.Nat.{◌*◌, ◌≤◌}
use lib.ListN.{length}
use native.Mathlib.Omega.{arith}
use Rattle.util_defs.specs.Refusal.{answered}
use Rattle.cases_defs.specs.Cases.{list_count, greatest_length}
use Rattle.cases_defs.proofs.Wrote.{too_long, too_short, fits, all_bytes, wrote}
use Rattle.cases.proofs.Written.{in_front}
use Rattle.cases.proofs.write_cases.Goals as goal

pub returns-then-longest-gt-GREATEST_LENGTH : goal.returns-then-longest-gt-GREATEST_LENGTH
returns-then-longest-gt-GREATEST_LENGTH c =
    let l = c.args.out.now in let told_here = wrote c.args.longest l l _ _ (too_long c.args.longest (length l) c.if-longest-gt-GREATEST_LENGTH.true) refl refl in record { answer = told_here.0; bytes = told_here.1.0; meaning = told_here.1.1 }

pub returns-then-out-bytes : goal.returns-then-out-bytes
returns-then-out-bytes c =
    let l = c.args.out.now in
    let h : c.args.longest ≤ greatest_length = omega (arith, c.if-longest-gt-GREATEST_LENGTH.false) in let told_here = wrote c.args.longest l l _ _ (too_short c.args.longest (length l) h (omega (arith, c.if-out-bytes.true, c.cases_bytes-bytes.ensures))) refl refl in record { answer = told_here.0; bytes = told_here.1.0; meaning = told_here.1.1 }

pub returns : goal.returns
returns c =
    let n = c.args.longest in
    let l = c.args.out.now in
    let h : n ≤ greatest_length = omega (arith, c.if-longest-gt-GREATEST_LENGTH.false) in
    let r : 40 * list_count n ≤ length l = omega (arith, c.if-out-bytes.false, c.cases_bytes-bytes.ensures) in let told_here = wrote n l _ _ _ (fits n (length l) h r) (ap answered (c.cases_bytes-bytes.ensures ∙ sym (all_bytes n h))) (c.write_all.ensures ∙ in_front n l h r) in record { answer = told_here.0; bytes = told_here.1.0; meaning = told_here.1.1 }
