-- Each turn copies one number more.
use Rattle.std.proofs.Common.{◌≡◌}
use lib.Seq.{paste}
use Rattle.search.proofs.boxes.copy.Given as goal

abbrev pub invariant-loop-i : goal.invariant-loop-i
invariant-loop-i l = l.to ≡ paste l.initial.to 0 l.from l.i
