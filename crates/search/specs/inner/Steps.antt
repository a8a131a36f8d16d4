-- For the code: what a split asks of two slots, and what the sum of halvings says.
use Rattle.std.specs.Prelude.{◌≡◌, List, ℕ, ◌+◌, ◌*◌, ◌≤◌, ◌<◌, length, take, ℤ}
use Rattle.whole.specs.inner.Held.{Good}
use Rattle.problem.specs.Problem.{range_at, quantities}
use Rattle.search.specs.Depth.{depth}

-- two slots, a box with quantity q in the first
pub record Splittable (l : List ℤ) (width q : ℕ) : Type 0 where
  pub long : length l ≡ width + width
  pub inside : 2 * q + 1 < width
  pub good : Good (range_at (take width l) q)

-- r is D, and small
pub record Deep (lead : ℕ) (rs : List ℤ) (r : ℕ) : Type 0 where
  pub is : r ≡ depth lead rs
  pub small : r ≤ 41 * quantities rs
