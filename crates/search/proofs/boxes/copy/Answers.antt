-- Each turn copies one number more.
use borrow.Author.Rules.{rules}
use native.Mathlib.Omega.{arith}
use Rattle.search.proofs.Copies.{paste_turn, paste_done}
use Rattle.search.proofs.boxes.copy.Goals as goal

pub loop-i-preserved : goal.loop-i-preserved
loop-i-preserved c = paste_turn _ _ _ _ _ c.loop-i.invariant (omega arith) (omega arith) (search rules)

pub returns : goal.returns
returns c = paste_done _ _ _ _ c.requires c.loop-i.invariant c.loop-i-test.false
