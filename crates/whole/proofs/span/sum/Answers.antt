-- The ends are near, so each end of the sum is exact.
use Rattle.whole.proofs.Kit.{near_sum}
use Rattle.whole.proofs.Spans.{ends_is}
use Rattle.whole.proofs.span.sum.Goals as goal

pub returns : goal.returns
returns c =
    let x = c.args.x in
    let y = c.args.y in
    let r = c.requires in
    ends_is (near_sum x.low y.low r.fact_1.low r.fact_2.low).is (near_sum x.high y.high r.fact_1.high r.fact_2.high).is
