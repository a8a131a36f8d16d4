-- Each turn puts the first of the bytes that are left.
use Rattle.answer.proofs.Writing.{left_more, left_none, from_here, past_end}
use Rattle.answer.proofs.write.bytes.Goals as goal

pub loop-b-preserved : goal.loop-b-preserved
loop-b-preserved c = left_more _ (from_here _ _ c.loop-b-test.true) c.loop-b.invariant c.byte-next.ensures

pub returns : goal.returns
returns c = left_none _ (past_end _ _ c.loop-b-test.false) c.loop-b.invariant
