-- Exact quotients, without fractions: a dividend and a divisor other than 0, compared by their cross products.
use Rattle.std.specs.Prelude.{ℤ, pos, ◌*ℤ◌, ◌≤ℤ◌, ◌<ℤ◌}
use Rattle.whole.specs.Meaning.{Floor, Ceiling}
use Rattle.whole.specs.declared.Range.{Range}

-- the exact quotient of a number by another
pub record Quotient : Type 0 where
  pub of : ℤ
  pub by : ℤ

abbrev pub quotient : ℤ → ℤ → Quotient
quotient n d = record { of = n; by = d }

-- a is at most b: n / d is at most m / e if n * e is at most m * d; where only one divisor is below 0, the other way round
pub record NotAbove (a b : Quotient) : Type 0 where
  pub same : pos 0 <ℤ (a.by *ℤ b.by) → (a.of *ℤ b.by) ≤ℤ (b.of *ℤ a.by)
  pub other : (a.by *ℤ b.by) <ℤ pos 0 → (b.of *ℤ a.by) ≤ℤ (a.of *ℤ b.by)

-- the four exact quotients of Z's ends by Y's ends
pub data OfEnds (Z Y : Range) : Quotient → Type 0 where
  low_low : OfEnds Z Y (quotient Z.low Y.low)
  low_high : OfEnds Z Y (quotient Z.low Y.high)
  high_low : OfEnds Z Y (quotient Z.high Y.low)
  high_high : OfEnds Z Y (quotient Z.high Y.high)

-- the least of the four, and the greatest
pub record LeastOf (Z Y : Range) (a : Quotient) : Type 0 where
  pub one : OfEnds Z Y a
  pub least : (b : Quotient) → OfEnds Z Y b → NotAbove a b

pub record GreatestOf (Z Y : Range) (a : Quotient) : Type 0 where
  pub one : OfEnds Z Y a
  pub greatest : (b : Quotient) → OfEnds Z Y b → NotAbove b a

-- S is from the least of the four exact quotients, rounded up, to the greatest, rounded down
pub record Rounded (Z Y S : Range) : Type 0 where
  pub least : Quotient
  pub is_least : LeastOf Z Y least
  pub low : Ceiling least.of least.by S.low
  pub greatest : Quotient
  pub is_greatest : GreatestOf Z Y greatest
  pub high : Floor greatest.of greatest.by S.high
