-- `narrow::sweep_clauses` meets its contract. The invariant: the steps of the clauses from the place in hand on, from the box in hand, come to what all steps come to, and the literals left are theirs.
use Rattle.problem.specs.Problem.{quantities}
use Rattle.narrow.specs.inner.Done.{Kept}
use Rattle.narrow.proofs.Sweeping.{Going, clauses_left, Ahead}
use Rattle.narrow.proofs.sweep_clauses.Given as goal

abbrev pub invariant-loop-length : goal.invariant-loop-length
invariant-loop-length l = Ahead (quantities l.initial.frame.ends.now) l.problem.lengths.now l.length-index l.left × (Kept l.initial.frame.ends l.frame.ends × Going (clauses_left l.problem.lengths.now 0 l.problem.literals.now) (clauses_left l.problem.lengths.now l.length-index l.left) l.before l.initial.frame.ends.now l.changed l.frame.ends.now)
