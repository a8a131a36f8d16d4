-- Each turn puts the first of the lines that are left.
use mathlib.Core.Path.{ap}
use Rattle.std.proofs.Common.{rules}
use Rattle.answer.specs.Output.{signed_decimal}
use Rattle.answer.proofs.Writing.{left_more, left_none, puts_as, puts_then, lines_more, lines_none}
use Rattle.answer.proofs.write.lines.Goals as goal

pub loop-q-preserved : goal.loop-q-preserved
loop-q-preserved c =
    left_more _ (lines_more _ _ _ c.loop-q-test.true) c.loop-q.invariant
    (puts_then _ _ c.name-next.ensures (puts_then _ _ c.byte-next.ensures (puts_then _ _ (puts_as _ _ (ap signed_decimal (search rules)) c.value-next.ensures) c.byte-next-in-loop-q.ensures)))

pub returns : goal.returns
returns c = left_none _ (lines_none _ _ _ c.loop-q-test.false) c.loop-q.invariant
