-- Twice a power is the next power: half as many values need one exponent less, and the exponent is the length of the number before.
use mathlib.Core.Path.{◌≡◌}
use Prim.Native.Nat.{ℕ, zero, suc, ◌+◌, ◌-◌, ◌*◌, ◌^◌, ◌≤◌}
use native.Mathlib.Nat.{le_trans, pow-suc}
use native.Mathlib.Omega.{arith}
use lib.Count.{count_leading_zeros}
use lib.IntN.{◌-ℤ◌}
use Rattle.whole.specs.Numbers.{positive_part, least_power}
use Rattle.whole.specs.Ranges.{values}
use Rattle.whole.specs.inner.Held.{Good}
use Rattle.whole.specs.declared.Range.{Range}
use Rattle.whole.proofs.Lengths.{Length, length, shortest}
use Rattle.whole.proofs.Meaning.{power_is, power_only}
use Rattle.whole.proofs.Spans.{values_next, ends_apart}

pub power_mono : (l m : ℕ) → l ≤ m → least_power l ≤ least_power m
power_mono l m h = (power_is l).least (least_power m) (le_trans h (power_is m).enough)

-- half of two values or more takes one off
pub power_half : (l m : ℕ) → 2 ≤ m → 2 * l ≤ m + 1 → least_power l + 1 ≤ least_power m
power_half l m two h = go (least_power m) (power_is m).enough
  where
    go : (k : ℕ) → m ≤ 2 ^ k → least_power l + 1 ≤ k
    go zero b = absurd (omega arith)
    go (suc k) b = let c = (power_is l).least k (omega (arith, pow-suc 2 k)) in omega arith

-- 2^m is at least v where it is above the number before v
power_length : (v w m : ℕ) → v ≡ w + 1 → Length w m → m ≡ least_power v
power_length v w m e f = power_only v m (record { enough = omega (arith, f.above); least = λ j h. shortest w m j f (omega arith) })

-- the number before a range's values is how far its ends are apart
pub halved : (r : Range) (w : ℕ) → Good r → w ≡ positive_part (r.high -ℤ r.low) → (64 - count_leading_zeros 64 w ≡ least_power (values r)) × (64 - count_leading_zeros 64 w ≤ 41)
halved r w g e =
    let b = ends_apart r g in
    let f = length w (omega arith) in
    (power_length (values r) w _ (omega (arith, values_next r g.ordered)) f, shortest w _ 41 f (omega arith))
