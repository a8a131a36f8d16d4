-- A small factor leaves the plain product within 64 bits.
use Rattle.whole.proofs.Kit.{rd, prod}
use Rattle.whole.proofs.Products.{one_small}
use Rattle.whole.proofs.product.plain.Goals as goal

pub returns : goal.returns
returns c =
    let h = prod (rd c.ranges.a) (rd c.ranges.b) (one_small c.args.a c.args.b c.requires.near_1 c.requires.near_2 c.requires.one_small) in
    h.is
