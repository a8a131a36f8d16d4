-- Each call is on the ranges behind the first.
use Rattle.std.proofs.Common.{length}
use Rattle.examples.proofs.trying.+complete.Given as goal

abbrev pub decreases-complete : goal.decreases-complete
decreases-complete l = length l.ranges.now
