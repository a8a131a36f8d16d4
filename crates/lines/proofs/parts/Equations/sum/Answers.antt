use Rattle.lines.proofs.HelperCode.{sum_is}
use Rattle.lines.proofs.parts.Equations.sum.Goals as goal

-- `Equations::sum` meets its contract: the range is the sum of the ranges, the primitive z = x + y.

pub returns : goal.returns
returns c = let s = c in sum_is s.args.a s.args.e s.args.self.now.ranges s.args.self.now.primitives c.sum.ensures c.operated.ensures
