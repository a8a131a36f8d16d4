-- D and the workspace needed: document 01, "The search", and document 02, L6: D counts the leading quantities only.
use Rattle.std.specs.Prelude.{ℕ, zero, suc, ◌+◌, ◌*◌}
use Rattle.whole.specs.Numbers.{least_power}
use Rattle.whole.specs.Ranges.{values}
use Rattle.problem.specs.Problem.{Box, range_at, quantities}

-- D: the sum over the leading quantities of the least k with 2^k at least the number of values
unfoldable pub depth : ℕ → Box → ℕ
depth zero b = 0
depth (suc q) b = depth q b + least_power (values (range_at b q))

-- the workspace needed is 2n(D+1) numbers, n all quantities
abbrev pub room_of : ℕ → Box → ℕ
room_of lead b = 2 * quantities b * (depth lead b + 1)
