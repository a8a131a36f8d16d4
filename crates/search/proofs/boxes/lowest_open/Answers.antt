-- Each quantity passed has one value, so the first that has more is the lowest of all.
use borrow.Author.Rules.{rules}
use borrow.Author.Tests.{tests}
use Rattle.search.proofs.Choice.{lowest_some, lowest_none, one_more}
use Rattle.search.proofs.boxes.lowest_open.Goals as goal

pub returns-then-b-q : goal.returns-then-b-q
returns-then-b-q c = lowest_some _ _ _ c.loop-q-test.true (search (rules, tests)) c.loop-q.invariant

pub loop-q-preserved : goal.loop-q-preserved
loop-q-preserved c = one_more _ _ c.loop-q.invariant (search (rules, tests))

pub returns : goal.returns
returns c = lowest_none _ _ _ c.loop-q-test.false c.loop-q.invariant
