-- Each quantity passed has one value.
use Prim.Native.Nat.{ℕ, ◌<◌}
use lib.Signed.{◌≤ℤ◌}
use Rattle.problem.specs.Problem.{low_at, high_at}
use Rattle.search.proofs.boxes.lowest_open.Given as goal

abbrev pub invariant-loop-q : goal.invariant-loop-q
invariant-loop-q l = (r : ℕ) → r < l.q → high_at l.b r ≤ℤ low_at l.b r
