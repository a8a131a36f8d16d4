-- Ranges of whole numbers, points, and the range that the ends of two ranges give under a sum, a difference, a product and a square.
-- Narrowing cuts a result by these, and translation gives a helper its range by them.
use Rattle.std.specs.Prelude.{Bool, cond, ◌&&◌, ℕ, ℤ, pos, ◌+ℤ◌, ◌-ℤ◌, ◌*ℤ◌, ◌≤ℤ◌}
use Rattle.std.specs.Int.Signed.{le_z}
use Rattle.whole.specs.Numbers.{positive_part, min_z, max_z, min4, max4}
use Rattle.whole.specs.declared.Range.{Range}

abbrev pub range : ℤ → ℤ → Range
range l h = record { low = l; high = h }

-- a value is in a range
pub record In (r : Range) (v : ℤ) : Type 0 where
  pub above : r.low ≤ℤ v
  pub below : v ≤ℤ r.high

-- the value of each quantity, by its number
abbrev pub Point : Type 0
Point = ℕ → ℤ

-- how many values a range has
abbrev pub values : Range → ℕ
values r = positive_part (r.high -ℤ r.low +ℤ pos 1)

-- 0 is in the range
abbrev pub holds_zero : Range → Bool
holds_zero r = le_z r.low (pos 0) && le_z (pos 0) r.high

-- sums of ends
abbrev pub sum_span : Range → Range → Range
sum_span X Y = range (X.low +ℤ Y.low) (X.high +ℤ Y.high)

-- differences of ends
abbrev pub difference_span : Range → Range → Range
difference_span X Y = range (X.low -ℤ Y.high) (X.high -ℤ Y.low)

-- the least and greatest of the four end products
abbrev pub product_span : Range → Range → Range
product_span X Y =
    range
    (min4 (X.low *ℤ Y.low) (X.low *ℤ Y.high) (X.high *ℤ Y.low) (X.high *ℤ Y.high))
    (max4 (X.low *ℤ Y.low) (X.low *ℤ Y.high) (X.high *ℤ Y.low) (X.high *ℤ Y.high))

-- the exact range of squares: the least is 0 if the range holds 0
abbrev pub square_span : Range → Range
square_span X =
    range
    (cond (holds_zero X) (pos 0) (min_z (X.low *ℤ X.low) (X.high *ℤ X.high)))
    (max_z (X.low *ℤ X.low) (X.high *ℤ X.high))
