-- The recursion goes down with the digits that there is room for.
use Rattle.listing_line.proofs.+digits.Given as goal

abbrev pub decreases-digits : goal.decreases-digits
decreases-digits l = l.places
