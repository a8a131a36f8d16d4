-- The length of a number in binary: its power of 2 is above the number, and no smaller power is.
use mathlib.Core.Path.{◌≡◌}
use mathlib.Core.Logic.{⊎_elim}
use Prim.Native.Nat.{ℕ, suc, ◌+◌, ◌-◌, ◌*◌, ◌^◌, ◌≤◌, ◌<◌}
use native.Mathlib.Nat.{pow-suc}
use native.Mathlib.Omega.{arith}
use lib.Count.{count_leading_zeros, leading_length}
use lib.Pow.{pow_mono}
use Rattle.whole.proofs.Kit.{le_or_lt}

-- m is the length of w
pub record Length (w m : ℕ) : Type 0 where
  pub above : w < 2 ^ m
  pub half : 2 ^ m ≤ 2 * w + 1

-- of 64 digits, those behind the leading zeros
pub length : (w : ℕ) → w < 2 ^ 64 → Length w (64 - count_leading_zeros 64 w)
length w h = from (count_leading_zeros 64 w) (leading_length 64 w h)
  where
    from : (z : ℕ) → (m : ℕ) × (z + m ≡ 64) × (w < 2 ^ m) × (2 ^ m ≤ 2 * w + 1) → Length w (64 - z)
    from z (m, e, f, g) = let i : 64 - z ≡ m = omega arith in rw i (record { above = f; half = g })

pub shortest : (w m j : ℕ) → Length w m → w < 2 ^ j → m ≤ j
shortest w m j f h = ⊎_elim (λ l. l) (λ l. absurd (omega (arith, f.half, pow_mono {i = suc j} {j = m} (omega arith), pow-suc 2 j))) (le_or_lt m j)
