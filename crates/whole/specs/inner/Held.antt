-- For the code: products held, what is asked of a range that is computed with, and results that stay near.
use Rattle.std.specs.Prelude.{◌≡◌, ℕ, ◌+◌, ◌*◌, ◌^◌, ◌≤◌, ◌<◌, ℤ, pos, negsuc, ◌≤ℤ◌}
use Rattle.whole.specs.Numbers.{Near, min_z, max_z}
use Rattle.whole.specs.Ranges.{range}
use Rattle.whole.specs.declared.Range.{Range}

-- a product held: exact up to M either way, one past M beyond. No cut of a range within M can tell it from the exact one
unfoldable pub held : ℤ → ℤ
held z = max_z (negsuc 1_000_000_000_000) (min_z (pos 1_000_000_000_001) z)

abbrev pub held_span : Range → Range
held_span s = range (held s.low) (held s.high)

-- r is z, and near
pub record Is (z r : ℤ) : Type 0 where
  pub is : r ≡ z
  pub near : Near r

-- a range that is not empty, with ends within plus or minus M
pub record Good (r : Range) : Type 0 where
  pub low : Near r.low
  pub high : Near r.high
  pub ordered : r.low ≤ℤ r.high

-- r is the whole root of n, rounded down
pub record Root (n r : ℕ) : Type 0 where
  pub within : r * r ≤ n
  pub most : n < (r + 1) * (r + 1)
  pub small : r ≤ 1_000_000

-- 2^j is near the root of n: n is below twice its square
pub record Nearest (n j : ℕ) : Type 0 where
  pub below : n < 2 * (2 ^ j * 2 ^ j)
  pub small : j ≤ 20

-- g is above the root of n, and at most twice 2^j
pub record Above (n j g : ℕ) : Type 0 where
  pub above : n < g * g
  pub small : g ≤ 2 * 2 ^ j

-- one of Newton's steps for the root of n can start from r: neither r nor n / r is large
pub record Start (n r : ℕ) : Type 0 where
  pub some : 0 < r
  pub small : r ≤ 2_097_152
  pub large : n ≤ r * 2_097_152
