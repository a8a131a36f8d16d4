-- What the computed definitions of Numbers.antt are, in words of order and product alone.
use Rattle.std.specs.Prelude.{ℕ, ◌^◌, ◌≤◌, ℤ, pos, ◌+ℤ◌, ◌*ℤ◌, ◌≤ℤ◌, ◌<ℤ◌}

-- q is at most the exact quotient of a by b
pub record UpTo (a b q : ℤ) : Type 0 where
  pub up : pos 0 <ℤ b → (q *ℤ b) ≤ℤ a
  pub down : b <ℤ pos 0 → a ≤ℤ (q *ℤ b)

-- q is at least the exact quotient of a by b
pub record From (a b q : ℤ) : Type 0 where
  pub up : pos 0 <ℤ b → a ≤ℤ (q *ℤ b)
  pub down : b <ℤ pos 0 → (q *ℤ b) ≤ℤ a

-- q is the exact quotient of a by b rounded down
pub record Floor (a b q : ℤ) : Type 0 where
  pub below : UpTo a b q
  pub most : (r : ℤ) → UpTo a b r → r ≤ℤ q

-- q is the exact quotient of a by b rounded up
pub record Ceiling (a b q : ℤ) : Type 0 where
  pub above : From a b q
  pub least : (r : ℤ) → From a b r → q ≤ℤ r

-- m is half of l + h, rounded down
pub record Middle (l h m : ℤ) : Type 0 where
  pub below : (m +ℤ m) ≤ℤ (l +ℤ h)
  pub above : (l +ℤ h) <ℤ (m +ℤ m +ℤ pos 2)

-- r is the whole root of z, rounded down
pub record RootDown (z r : ℤ) : Type 0 where
  pub at_least : pos 0 ≤ℤ r
  pub within : (r *ℤ r) ≤ℤ z
  pub most : z <ℤ ((r +ℤ pos 1) *ℤ (r +ℤ pos 1))

-- r is the whole root of z, rounded up: the least number from 0 up whose square reaches z
pub record RootUp (z r : ℤ) : Type 0 where
  pub at_least : pos 0 ≤ℤ r
  pub over : z ≤ℤ (r *ℤ r)
  pub least : (s : ℤ) → pos 0 ≤ℤ s → z ≤ℤ (s *ℤ s) → r ≤ℤ s

-- 2^k is the least power of 2 that is at least m
pub record LeastPower (m k : ℕ) : Type 0 where
  pub enough : m ≤ 2 ^ k
  pub least : (j : ℕ) → m ≤ 2 ^ j → k ≤ j
