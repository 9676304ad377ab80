-- `layouts32::low_info` meets its contract. Assumes nothing.

use Rattle.layouts32.proofs.low_info.Goals as goal

pub returns-in-Sized : goal.returns-in-Sized
returns-in-Sized c = simp (c.in-Sized.is, c.low_word.ensures)

pub returns-in-SliceDst : goal.returns-in-SliceDst
returns-in-SliceDst c = simp (c.in-SliceDst.is, c.low_tail.ensures)
