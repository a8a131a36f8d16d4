-- Each turn puts the first of the bytes that are left before the padding.
use Rattle.answer.proofs.Writing.{left_more, left_none, unpadded_end, unpadded_more, unpadded_none}
use Rattle.answer.proofs.write.name.Goals as goal

pub returns-then-b-eq32 : goal.returns-then-b-eq32
returns-then-b-eq32 c = left_none _ (unpadded_end _ _ c.loop-b-test.true c.if-b-eq32.true) c.loop-b.invariant

pub loop-b-preserved : goal.loop-b-preserved
loop-b-preserved c = left_more _ (unpadded_more _ _ c.loop-b-test.true c.if-b-eq32.false) c.loop-b.invariant c.byte-next.ensures

pub returns : goal.returns
returns c = left_none _ (unpadded_none _ _ c.loop-b-test.false) c.loop-b.invariant
