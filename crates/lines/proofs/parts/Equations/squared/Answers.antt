use Rattle.lines.proofs.HelperCode.{square_is}
use Rattle.lines.proofs.parts.Equations.squared.Goals as goal

-- `Equations::squared` meets its contract: no test tells the held range of the square from the exact one.

pub returns : goal.returns
returns c = let s = c in square_is s.args.e s.args.self.now.ranges s.args.self.now.primitives s.requires c.square.ensures c.operated.ensures
