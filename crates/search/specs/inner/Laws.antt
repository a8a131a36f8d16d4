-- What the search asks of a sweep and of a choice, over the parts of the starting box. Room, cover, order and demand 2 are proved from these
-- laws alone, whatever the sweep.
use Rattle.std.specs.Prelude.{◌≡◌, ℕ, ◌≤◌, ◌<◌, ◌<ℤ◌, Option, Some, None}
use Rattle.whole.specs.Ranges.{Point}
use Rattle.problem.specs.Problem.{Box, low_at, high_at, Inside}
use Rattle.narrow.specs.Cuts.{Swept, empty, changed, unchanged}
use Rattle.narrow.specs.Parts.{Part, Smaller}

-- a changed box is inside the old one and has no empty range
abbrev pub Shrinks : ℕ → Box → Swept → Type 0
Shrinks n b empty = Unit {0}
Shrinks n b (changed b') = Part n b b'
Shrinks n b (unchanged b') = Unit {0}

-- a point of the box that satisfies is not lost
abbrev pub Stays : ℕ → Point → Swept → Type 0
Stays n p empty = ⊥
Stays n p (changed b') = Inside n p b'
Stays n p (unchanged b') = Unit {0}

-- for room, and all that the code needs
pub record Lawful (sweep : Box → Swept) (choose : Box → Option ℕ) (n lead : ℕ) (start : Box) : Type 0 where
  pub shrinks : (b : Box) → Part n start b → Shrinks n b (sweep b)
  -- a quantity chosen in a box that a sweep left unchanged is a leading one and has more than one value
  pub leads : (b b' : Box) (q : ℕ) → Part n start b → sweep b ≡ unchanged b' → choose b ≡ Some q → q < lead
  pub wide : (b b' : Box) (q : ℕ) → Part n start b → sweep b ≡ unchanged b' → choose b ≡ Some q → low_at b q <ℤ high_at b q
  pub leading : lead ≤ n

-- for an end of the search
pub record Ending (sweep : Box → Swept) (n : ℕ) (start : Box) : Type 0 where
  -- a changed box is smaller
  pub smaller : (b b' : Box) → Part n start b → sweep b ≡ changed b' → Smaller n b b'

-- for cover and none
pub record Lossless (sweep : Box → Swept) (n : ℕ) (start : Box) (Sat : Point → Type 0) : Type 0 where
  pub keeps : (b : Box) → Part n start b → (p : Point) → Inside n p b → Sat p → Stays n p (sweep b)

-- for floor, smallest and found
pub record Ordered (sweep : Box → Swept) (choose : Box → Option ℕ) (n : ℕ) (start : Box) (Sat : Point → Type 0) : Type 0 where
  -- every quantity before the chosen one has one value
  pub first : (b b' : Box) (q : ℕ) → Part n start b → sweep b ≡ unchanged b' → choose b ≡ Some q
      → (r : ℕ) → r < q → low_at b r ≡ high_at b r
  -- the low ends of an unchanged box with nothing to split satisfy
  pub settled : (b b' : Box) → Part n start b → sweep b ≡ unchanged b' → choose b ≡ None → Sat (low_at b)
