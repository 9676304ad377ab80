-- `shifts32::starts_in` meets its contract. Assumes nothing.

use Rattle.shifts32.proofs.starts_in.Goals as goal

pub returns-in-SliceDst : goal.returns-in-SliceDst
returns-in-SliceDst c = simp c.in-SliceDst.is c.has_start.ensures
