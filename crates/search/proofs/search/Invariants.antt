-- The loop keeps `Held`: each way round is one law of Held.antt, and each return is `ends` of Searching.antt.
use mathlib.Core.Path.{◌≡◌}
use Prim.Native.Nat.{◌≤◌}
use lib.ListN.{length}
use Rattle.problem.specs.Problem.{quantities}
use Rattle.problem.specs.Lists.{primitives_of, literals_of, clauses_of, problem_of}
use Rattle.narrow.specs.Sweep.{sweep_of}
use Rattle.search.specs.Search.{lowest, search_of}
use Rattle.search.proofs.Held.{Held}
use Rattle.search.proofs.search.Given as goal

abbrev pub invariant-loop-left : goal.invariant-loop-left
invariant-loop-left l =
    Held (sweep_of (primitives_of l.problem.primitives.now) (clauses_of l.problem.lengths.now (literals_of l.problem.literals.now))) (lowest (quantities l.problem.ranges.now)) (quantities l.problem.ranges.now) l.leading (length l.problem.ranges.now) l.problem.ranges.now (search_of (problem_of l.problem.ranges.now l.problem.primitives.now l.problem.lengths.now l.problem.literals.now) l.budget) l.initial.work l.work l.left l.waiting
    × (l.point ≡ l.initial.point) × (l.left ≤ l.budget)

abbrev pub decreases-loop-left : goal.decreases-loop-left
decreases-loop-left l = l.left
