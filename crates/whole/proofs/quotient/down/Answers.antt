-- The machine rounds towards zero, and a remainder below 0 says that this was up.
use Rattle.whole.proofs.Kit.{ints}
use Rattle.whole.proofs.Quotients.{one_less, as_divided}
use Rattle.whole.proofs.quotient.down.Goals as goal

pub returns-then-a-b-lt0 : goal.returns-then-a-b-lt0
returns-then-a-b-lt0 c = one_less c.args.a c.args.b c.ranges.a c.ranges.b c.requires.fact_1 c.requires.fact_3 (omega ints)

pub returns-else-a-b-lt0 : goal.returns-else-a-b-lt0
returns-else-a-b-lt0 c = as_divided c.args.a c.args.b c.ranges.a c.ranges.b c.requires.fact_1 c.requires.fact_3 (omega ints)
