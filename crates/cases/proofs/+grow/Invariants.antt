-- The recursion goes down with the slots left.
use Rattle.cases.proofs.+grow.Given as goal

abbrev pub decreases-grow : goal.decreases-grow
decreases-grow l = l.left
