-- A step of Newton's from any number does not end below the root rounded down, because the mean of two numbers is at least the root of their product; and a step from above the root falls.
use mathlib.Core.Path.{◌≡◌, ap, ◌∙◌}
use mathlib.Core.Logic.{⊎_elim}
use Prim.Native.Nat.{ℕ, zero, suc, ◌+◌, ◌-◌, ◌*◌, ◌/◌, ◌%◌, ◌^◌, ◌≤◌, ◌<◌}
use native.Mathlib.Nat.{lt-div-mul-add, div-mul-le_self, div-le_of_le-mul, div-lt_iff_lt-mul, mul-le-mul, mul-le-mul_left, mul-le-mul_right, one-mul, pow-suc}
use native.Mathlib.Omega.{arith}
use lib.Dec.{lit<}
use lib.Pow.{pow_mono, pow-add, pow_pos, shl_exact}
use lib.Count.{count_leading_zeros}
use Rattle.whole.specs.inner.Held.{Root, Nearest, Above, Start}
use Rattle.whole.proofs.Kit.{le_or_lt, rearrange, root_le}
use Rattle.whole.proofs.Lengths.{length, shortest}

-- twice a product is at most the two squares
squares : (m r : ℕ) → 2 * (m * r) ≤ m * m + r * r
squares m r = ⊎_elim (λ h. omega (arith, rearrange r m r m h h)) (λ h. let k : r ≤ m = omega arith in omega (arith, rearrange m r m r k k)) (le_or_lt m r)

-- with q for n / r and m for one more than the next guess
mean : (n r q m : ℕ) → n < q * r + r → r + q + 1 ≤ 2 * m → n < m * m
mean n r q m h k = omega (arith, squares m r, mul-le-mul_right r k)

step_above : (n r : ℕ) → 0 < r → n < ((r + n / r) / 2 + 1) * ((r + n / r) / 2 + 1)
step_above n r h = mean n r (n / r) ((r + n / r) / 2 + 1) (lt-div-mul-add {a = n} h) (half (r + n / r))
  where
    half : (s : ℕ) → s + 1 ≤ 2 * (s / 2 + 1)
    half s = omega arith

-- r is at least the root of n rounded down, and small enough to compute with
pub record Reaches (n r : ℕ) : Type 0 where
  pub above : n < (r + 1) * (r + 1)
  pub some : 0 < r
  pub small : r ≤ 2_097_152

quotient_small : (n r : ℕ) → Start n r → n / r ≤ 2_097_152
quotient_small n r f = div-le_of_le-mul r f.large

pub step_fits : (n r : ℕ) → Start n r → r + n / r ≤ 4_194_304
step_fits n r f = omega (arith, f.small, quotient_small n r f)

pub step_reaches : (n r s : ℕ) → s ≡ (r + n / r) / 2 → 0 < n → Start n r → Reaches n s
step_reaches n r s e k f = rw e (next ((r + n / r) / 2) (step_above n r f.some) (half (r + n / r) (step_fits n r f)))
  where
    half : (s : ℕ) → s ≤ 4_194_304 → s / 2 ≤ 2_097_152
    half s h = omega arith

    next : (s : ℕ) → n < (s + 1) * (s + 1) → s ≤ 2_097_152 → Reaches n s
    next zero g h = absurd (omega arith)
    next (suc s) g h = record { above = g; some = omega arith; small = h }

pub square_fits : (r : ℕ) → r ≤ 2_097_152 → r * r ≤ 4_398_046_511_104
square_fits r h = mul-le-mul h h

-- from above the root the next step can start, and falls
pub again : (n r : ℕ) → Reaches n r → n < r * r → Start n r
again n r f h = record { some = f.some; small = f.small; large = omega (arith, mul-le-mul_left r f.small) }

pub falls : (n r s : ℕ) → s ≡ (r + n / r) / 2 → 0 < r → n < r * r → s < r
falls n r s e h k = half (n / r) ((div-lt_iff_lt-mul {x = n} h).1 k) e
  where
    half : (q : ℕ) → q < r → s ≡ (r + q) / 2 → s < r
    half q l f = omega arith

pub last : (n r : ℕ) → n ≤ 1_000_000_000_000 → Reaches n r → r * r ≤ n → Root n r
last n r h f k = record { within = k; most = f.above; small = root_le r 1_000_000 (omega arith) }

-- ---- the first guess
-- half of the length of n
halves : (n m : ℕ) → n < 2 ^ m → m ≤ 40 → Nearest n (m / 2)
halves n m h k = from (m / 2) (omega arith) (omega arith)
  where
    from : (j : ℕ) → m ≤ suc (j + j) → j ≤ 20 → Nearest n j
    from j i l = record { below = omega (arith, pow_mono i, pow-suc 2 (j + j), pow-add 2 j j); small = l }

pub nearest : (n : ℕ) → n ≤ 1_000_000_000_000 → Nearest n ((64 - count_leading_zeros 64 n) / 2)
nearest n h = let f = length n (omega arith) in halves n (64 - count_leading_zeros 64 n) f.above (shortest n (64 - count_leading_zeros 64 n) 40 f (omega arith))

-- a step from 2^j ends above the root
shift : (j : ℕ) → j ≤ 20 → (1 * 2 ^ j) % 18_446_744_073_709_551_616 ≡ 2 ^ j
shift j h = shl_exact {a = 1} 1 j 64 (lit< tt) (omega arith) ∙ one-mul (2 ^ j)

step_sum : (n j : ℕ) → Nearest n j → 2 ^ j + n / 2 ^ j < 3 * 2 ^ j
step_sum n j f = omega (arith, (div-lt_iff_lt-mul {x = n} {y = 2 * 2 ^ j} (pow_pos j)).1 (omega (arith, f.below)))

pub above_root : (n j : ℕ) → Nearest n j → Above n j (((1 * 2 ^ j) % 18_446_744_073_709_551_616 + n / 2 ^ j) / 2 + 1)
above_root n j f = rw (shift j f.small) (record { above = step_above n (2 ^ j) (pow_pos j); small = half (2 ^ j) (2 ^ j + n / 2 ^ j) (step_sum n j f) })
  where
    half : (p s : ℕ) → s < 3 * p → s / 2 + 1 ≤ 2 * p
    half p s h = omega arith

pub above_fits : (n j g : ℕ) → Nearest n j → Above n j g → g * g ≤ 4_398_046_511_104
above_fits n j g f a = square_fits g (omega (arith, a.small, pow_mono f.small))

-- from g down by d, which is what its square is too large, by t
module _ (n t g : ℕ) (some : 0 < n) (over : n < g * g) (most : g ≤ t) (any : 0 < t) where
  less : (g * g - n) / t < g
  less = (div-lt_iff_lt-mul {x = g * g - n} any).1 (omega (arith, mul-le-mul_left g most))

  enough : (d h : ℕ) → d * t ≤ g * g - n → h + d ≡ g → n ≤ h * t
  enough d h k e = omega (arith, mul-le-mul_left g most, ap (λ (x : ℕ). x * t) e)

  lowered : t ≤ 2_097_152 → Start n (g - (g * g - n) / t)
  lowered b = go ((g * g - n) / t) less (div-mul-le_self (g * g - n) t)
    where
      go : (d : ℕ) → d < g → d * t ≤ g * g - n → Start n (g - d)
      go d l k = record { some = omega arith; small = omega arith; large = omega (arith, enough d (g - d) k (omega arith), mul-le-mul_left (g - d) b) }

twice : (j : ℕ) → 2 ^ (j + 1) ≡ 2 * 2 ^ j
twice j = omega (arith, pow-add 2 j 1)

module _ (n j g : ℕ) (some : 0 < n) (f : Nearest n j) (a : Above n j g) where
  pub start : Start n (g - (g * g - n) / 2 ^ (j + 1))
  start = lowered n (2 ^ (j + 1)) g some a.above (omega (arith, a.small, twice j)) (pow_pos (j + 1)) (omega (arith, twice j, pow_mono f.small))
