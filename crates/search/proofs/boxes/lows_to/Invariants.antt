-- Each turn writes one low end more.
use Rattle.std.proofs.Common.{◌≡◌}
use lib.Seq.{paste}
use Rattle.search.specs.Solve.{lows}
use Rattle.search.proofs.boxes.lows_to.Given as goal

abbrev pub invariant-loop-q : goal.invariant-loop-q
invariant-loop-q l = l.point ≡ paste l.initial.point 0 (lows l.b) l.q
