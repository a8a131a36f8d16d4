-- D falls by a split and never grows: a part of a range has no more values, and each half of one has at most half of them, rounded up.
use mathlib.Core.Path.{◌≡◌, refl}
use Prim.Native.Nat.{ℕ, zero, suc, ◌+◌, ◌*◌, ◌≤◌, ◌<◌}
use native.Mathlib.Decide.{ℕ_discrete}
use native.Mathlib.Numerals.{add-one}
use native.Mathlib.Omega.{arith}
use lib.IntN.{ℤ, pos, ◌+ℤ◌, ◌-ℤ◌}
use lib.Signed.{◌≤ℤ◌}
use Rattle.whole.specs.Numbers.{positive_part, negative_part, least_power}
use Rattle.whole.specs.Ranges.{range, values}
use Rattle.whole.proofs.Kit.{ints, plus, minus, apart}
use Rattle.whole.proofs.Powers.{power_mono, power_half}
use Rattle.problem.specs.Problem.{Box, low_at, high_at, range_at}
use Rattle.narrow.specs.Parts.{Part}
use Rattle.search.specs.Search.{middle_at, lower_part, upper_part}
use Rattle.search.specs.Depth.{depth}
use Rattle.search.proofs.Splits.{Splits, lower_part_lem, upper_part_lem, lower_at, upper_at, halved}

-- half of two values or more takes one off
fewer : (a m : ℕ) → 2 ≤ m → 2 * a ≤ m + 1 → least_power a < least_power m
fewer a m two h = omega (arith, power_half a m two h)

-- how many values a range has
values_is : (l h : ℤ) → l ≤ℤ h → values (range l h) + (positive_part l + negative_part h) ≡ positive_part h + negative_part l + 1
values_is l h le = omega (ints, minus h l, plus (h -ℤ l) (pos 1), apart (h -ℤ l +ℤ pos 1))

-- ---- D, quantity by quantity
pub depth_none : (b : Box) → depth 0 b ≡ 0
unfolding depth
depth_none b = refl

pub depth_more : (b : Box) (q : ℕ) → depth (q + 1) b ≡ depth q b + least_power (values (range_at b q))
unfolding depth
depth_more b q = rw (add-one q)

-- ---- it never grows, and falls by a split
module _ {n : ℕ} {a b : Box} (f : Part n a b) where
  power_le : (q : ℕ) → q < n → least_power (values (range_at b q)) ≤ least_power (values (range_at a q))
  power_le q h =
      let le : low_at a q ≤ℤ high_at a q = omega (ints, f.low q h, f.filled q h, f.high q h) in
      power_mono _ _ (omega (ints, values_is (low_at b q) (high_at b q) (f.filled q h), values_is (low_at a q) (high_at a q) le, f.low q h, f.high q h))

  pub depth_le : (k : ℕ) → k ≤ n → depth k b ≤ depth k a
  unfolding depth
  depth_le zero h = omega arith
  depth_le (suc k) h = omega (arith, depth_le k (omega arith), power_le k h)

  depth_lt : (q : ℕ) → least_power (values (range_at b q)) < least_power (values (range_at a q)) → (k : ℕ) → k ≤ n → q < k → depth k b < depth k a
  unfolding depth
  depth_lt q lt zero h g = absurd (omega arith)
  depth_lt q lt (suc k) h g = by (ℕ_discrete q k) (depth_le k (omega arith)) (depth_lt q lt k (omega arith))
    where
      by : Dec (q ≡ k) → depth k b ≤ depth k a → (q < k → depth k b < depth k a) → depth (suc k) b < depth (suc k) a
      by (yes e) le on = let new = rw e at lt in omega arith
      by (no ne) le on = let new = on (omega arith) in omega (arith, power_le k h)

module _ {n : ℕ} {b : Box} {q : ℕ} (z : Splits n b q) where
  all_values : values (range_at b q) + (positive_part (low_at b q) + negative_part (high_at b q)) ≡ positive_part (high_at b q) + negative_part (low_at b q) + 1
  all_values = values_is (low_at b q) (high_at b q) (z.self.filled q z.less)

  two_values : 2 ≤ values (range_at b q)
  two_values = omega (ints, z.wide, all_values)

  pub lower_deep : (lead : ℕ) → lead ≤ n → q < lead → depth lead (lower_part b q) < depth lead b
  lower_deep =
      let g = lower_part_lem z in
      depth_lt g q (fewer _ _ two_values (omega (ints, halved z, all_values, values_is _ _ (g.filled q z.less), lower_at z)))

  pub upper_deep : (lead : ℕ) → lead ≤ n → q < lead → depth lead (upper_part b q) < depth lead b
  upper_deep =
      let g = upper_part_lem z in
      depth_lt g q
      (fewer _ _ two_values (omega (ints, halved z, all_values, values_is _ _ (g.filled q z.less), upper_at z, plus (middle_at b q) (pos 1))))
