-- Each turn adds what one quantity more takes to be halved.
use Rattle.std.proofs.Common.{◌≡◌, ◌*◌, ◌≤◌}
use Rattle.search.specs.Depth.{depth}
use Rattle.search.proofs.room.depth.Given as goal

abbrev pub invariant-loop-q : goal.invariant-loop-q
invariant-loop-q l = (l.sum ≡ depth l.q l.ranges) × (l.sum ≤ 41 * l.q)
