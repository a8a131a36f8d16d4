-- A leaf adds one value, an operation takes one away.
use Rattle.std.proofs.Common.{◌+◌, ◌*◌, ◌<◌, vec_len}
use Rattle.examples.proofs.drawing.Drawing.side.Given as goal

abbrev pub invariant-loop-leaves : goal.invariant-loop-leaves
invariant-loop-leaves l = 0 < l.leaves + vec_len l.waiting

abbrev pub decreases-loop-leaves : goal.decreases-loop-leaves
decreases-loop-leaves l = 2 * l.leaves + vec_len l.waiting
