-- Whole numbers: M, the smaller and the larger of two, quotients and roots with their rounding, and how often a range can be halved.
-- What each of the computed definitions is, in words of order and product alone, is said in Meaning.antt.
use Rattle.std.specs.Prelude.{true, false, cond, ℕ, zero, suc, ◌*◌, ◌/◌, ◌^◌, leb, ℤ, pos, negsuc, neg_ℤ, ◌+ℤ◌, ◌*ℤ◌, ◌≤ℤ◌}
use Rattle.std.specs.Int.Signed.{le_z}

-- M is 1,000,000,000,000
abbrev pub M : ℤ
M = pos 1_000_000_000_000

abbrev pub minus_m : ℤ
minus_m = negsuc 999_999_999_999

-- within plus or minus M
pub record Near (z : ℤ) : Type 0 where
  pub low : minus_m ≤ℤ z
  pub high : z ≤ℤ M

-- the positive and the negative part of a number, one of which is 0
abbrev pub positive_part : ℤ → ℕ
positive_part (pos n) = n
positive_part (negsuc n) = 0

abbrev pub negative_part : ℤ → ℕ
negative_part (pos n) = 0
negative_part (negsuc n) = suc n

-- the smaller of two
unfoldable pub min_z : ℤ → ℤ → ℤ
min_z a b = cond (le_z a b) a b

-- the larger of two
unfoldable pub max_z : ℤ → ℤ → ℤ
max_z a b = cond (le_z a b) b a

-- the least and the greatest of four
abbrev pub min4 : ℤ → ℤ → ℤ → ℤ → ℤ
min4 a b c d = min_z (min_z a b) (min_z c d)

abbrev pub max4 : ℤ → ℤ → ℤ → ℤ → ℤ
max4 a b c d = max_z (max_z a b) (max_z c d)

-- the exact quotient rounded down, for a divisor other than 0
unfoldable pub floor_q : ℤ → ℤ → ℤ
floor_q (pos a) (pos b) = pos (a / b)
floor_q (negsuc a) (pos b) = negsuc (a / b)
floor_q (pos zero) (negsuc b) = pos 0
floor_q (pos (suc a)) (negsuc b) = negsuc (a / suc b)
floor_q (negsuc a) (negsuc b) = pos (suc a / suc b)

-- and rounded up
unfoldable pub ceil_q : ℤ → ℤ → ℤ
ceil_q a b = neg_ℤ (floor_q (neg_ℤ a) b)

-- (low+high)/2 rounded towards minus infinity
abbrev pub middle_of : ℤ → ℤ → ℤ
middle_of low high = floor_q (low +ℤ high) (pos 2)

-- one more binary digit of a root
abbrev pub grow : ℕ → ℕ → ℕ
grow n r = cond (leb (suc (2 * r) * suc (2 * r)) n) (suc (2 * r)) (2 * r)

-- the root of n rounded down, digit by digit, as many as there is fuel for
unfoldable pub root_in : ℕ → ℕ → ℕ
root_in zero n = 0
root_in (suc f) zero = 0
root_in (suc f) (suc n) = grow (suc n) (root_in f (suc n / 4))

-- the whole root rounded down; of a number below 0 it is 0
unfoldable pub root_down : ℤ → ℤ
root_down (pos n) = pos (root_in n n)
root_down (negsuc n) = pos 0

-- and rounded up
unfoldable pub root_up : ℤ → ℤ
root_up z = cond (le_z z (root_down z *ℤ root_down z)) (root_down z) (root_down z +ℤ pos 1)

-- the least of k, k + 1, .. whose power of 2 is at least m, looked for f times
unfoldable pub least_from : ℕ → ℕ → ℕ → ℕ
least_from zero k m = k
least_from (suc f) k m = elim (leb m (2 ^ k)) [ true ↦ k | false ↦ least_from f (suc k) m ]

-- the least k with 2^k at least m
unfoldable pub least_power : ℕ → ℕ
least_power m = least_from m 0 m
