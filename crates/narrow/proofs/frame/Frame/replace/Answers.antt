-- `narrow::frame::Frame::replace` meets its contract: the range that is written is not empty.
use Rattle.whole.proofs.Kit.{ints, got}
use Rattle.narrow.proofs.frame.Frame.replace.Goals as goal

pub put-requires-clause-fact_2 : goal.put-requires-clause-fact_2
put-requires-clause-fact_2 c =
    let r = c.args.r in
    let fits = c.type_inv.r in
    c.requires.fact_2 (omega (ints, got r.low fits.0.1, got r.high fits.1.0.1))
