use Rattle.lines.proofs.HelperCode.{product_is}
use Rattle.lines.proofs.parts.Equations.product.Goals as goal

-- `Equations::product` meets its contract: no test tells the held range of the product from the exact one.

pub returns : goal.returns
returns c = let s = c in product_is s.args.a s.args.e s.args.self.now.ranges s.args.self.now.primitives s.requires.fact_1 s.requires.fact_2 c.product.ensures c.operated.ensures
