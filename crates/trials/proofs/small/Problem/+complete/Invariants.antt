-- Each call has one range less.
use Rattle.std.proofs.Common.{length}
use Rattle.trials.proofs.small.Problem.+complete.Given as goal

abbrev pub decreases-complete : goal.decreases-complete
decreases-complete l = length l.ranges.now
