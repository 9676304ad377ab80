-- `converts32::metadata_within` meets its contract. Assumes nothing.
use Rattle.util.proofs.Told.{handed_on}
use borrow.Author.Tests.{le-leb, lt-leb}
use Rattle.converts32.proofs.metadata_within.Goals as goal

pub returns-then-count-gt-MAX : goal.returns-then-count-gt-MAX
returns-then-count-gt-MAX c = simp (c.in_ok-count.was, lt-leb _ _ c.if-count-gt-MAX.true)

pub returns-else-count-gt-MAX : goal.returns-else-count-gt-MAX
returns-else-count-gt-MAX c = simp (c.in_ok-count.was, le-leb _ _ c.if-count-gt-MAX.false)

pub returns-in_err-count : goal.returns-in_err-count
returns-in_err-count c = handed_on _ c.from_residual.result _ c.from_residual.ensures.1 (simp c.in_err-count.was)
