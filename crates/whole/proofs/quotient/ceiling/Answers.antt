-- Rounding up is rounding down on the other side.
use mathlib.Core.Path.{ap₂}
use Rattle.whole.specs.Numbers.{floor_q}
use Rattle.whole.proofs.Kit.{rd}
use Rattle.whole.proofs.Quotients.{turn, turned}
use Rattle.whole.proofs.quotient.ceiling.Goals as goal

pub returns : goal.returns
returns c = turned c.args.a c.args.b c.floor.ensures (ap₂ floor_q (turn c.args.a c.requires.fact_1).is (rd c.ranges.b))
