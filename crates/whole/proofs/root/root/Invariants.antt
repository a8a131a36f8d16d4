-- Every step ends at the root rounded down or above it, and each one from above falls; where the square is not above n, it is the root.
use Rattle.whole.proofs.Newton.{Reaches}
use Rattle.whole.proofs.root.root.Given as goal

abbrev pub invariant-loop-r : goal.invariant-loop-r
invariant-loop-r l = Reaches l.n l.r

abbrev pub decreases-loop-r : goal.decreases-loop-r
decreases-loop-r l = l.r
