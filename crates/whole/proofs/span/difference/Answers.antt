-- The ends are near, so each end of the difference is exact.
use Rattle.whole.proofs.Kit.{near_difference}
use Rattle.whole.proofs.Spans.{ends_is}
use Rattle.whole.proofs.span.difference.Goals as goal

pub returns : goal.returns
returns c =
    let x = c.args.x in
    let y = c.args.y in
    let r = c.requires in
    ends_is (near_difference x.low y.high r.fact_1.low r.fact_2.high).is (near_difference x.high y.low r.fact_1.high r.fact_2.low).is
