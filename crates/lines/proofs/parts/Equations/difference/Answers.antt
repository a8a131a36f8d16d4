use Rattle.lines.proofs.HelperCode.{difference_is}
use Rattle.lines.proofs.parts.Equations.difference.Goals as goal

-- `Equations::difference` meets its contract: the range is the difference of the ranges, the primitive a = d + b.

pub returns : goal.returns
returns c = let s = c in difference_is s.args.a s.args.e s.args.self.now.ranges s.args.self.now.primitives c.difference.ensures c.operated.ensures
