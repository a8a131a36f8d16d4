-- Each turn writes one low end more.
use borrow.Author.Rules.{rules}
use native.Mathlib.Omega.{arith}
use Rattle.search.proofs.Choice.{lows_turn, lows_done}
use Rattle.search.proofs.boxes.lows_to.Goals as goal

pub loop-q-preserved : goal.loop-q-preserved
loop-q-preserved c = lows_turn _ _ _ _ _ c.requires c.loop-q.invariant (omega arith) (search rules)

pub returns : goal.returns
returns c = lows_done _ _ _ _ c.requires c.loop-q.invariant c.loop-q-test.false
