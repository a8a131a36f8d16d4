-- `problem::lengths_off` meets its contract. The invariant: none of the lengths so far is below 0 or above 1,024, and their sum and the rest make up the total.
use Prim.Native.Nat.{◌*◌, ◌≤◌}
use lib.IntN.{pos, ◌+ℤ◌}
use lib.ListN.{drop}
use Rattle.problem.specs.Grounds.{any_negative, total}
use mathlib.Core.Path.{◌≡◌}
use Rattle.problem.proofs.lengths_off.Given as goal

abbrev pub invariant-loop-n : goal.invariant-loop-n
invariant-loop-n l = (l.sum ≤ 1024 * l.n-index) × (any_negative l.lengths ≡ any_negative (drop l.n-index l.lengths)) × (total l.lengths ≡ pos l.sum +ℤ total (drop l.n-index l.lengths))
