-- `rule::comparisons` meets its contract. The loop's invariant: what is listed from here on is what is listed from the loop's start on. The tokens that are left fall.
use lib.ListN.{length}
use Rattle.sheet.specs.Reading.{token_no}
use Rattle.sheet.specs.declared.Token.TheVariants.{Fixed}
use Rattle.sheet.specs.inner.Steps.{tokens_from}
use Rattle.lines.proofs.ComparisonCode.{Walks}
use Rattle.lines.proofs.rule.comparisons.Given as goal

abbrev pub invariant-loop-mark : goal.invariant-loop-mark
invariant-loop-mark l = Walks (token_no (Fixed l.mark)) l.keys l.line l.initial.all.next l.initial.all.tally l.initial.equations.ranges l.initial.equations.primitives l.initial.firsts l.initial.seconds l.all.next l.all.tally l.equations.ranges l.equations.primitives l.firsts l.seconds

abbrev pub decreases-loop-mark : goal.decreases-loop-mark
decreases-loop-mark l = length (tokens_from l.line l.all.next)
