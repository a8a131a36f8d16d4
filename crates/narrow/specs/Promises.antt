-- What is promised of narrowing, for docs/PROMISES.md: of a sweep of a box b of n ranges by primitives ps and clauses cs, and of a quotient's span.
use Rattle.std.specs.Prelude.{◌≡◌, false, List, ℕ, ◌*◌, ◌<◌, length, ◌≤ℤ◌}
use Rattle.whole.specs.Lists.{AllOf, OneOf}
use Rattle.whole.specs.Ranges.{Point, holds_zero}
use Rattle.whole.specs.declared.Range.{Range}
use Rattle.problem.specs.Problem.{Box, low_at, high_at, Inside, Holds, True}
use Rattle.problem.specs.declared.Primitive.{Primitive}
use Rattle.problem.specs.declared.Literal.{Literal}
use Rattle.narrow.specs.Cuts.{empty, changed, unchanged}
use Rattle.narrow.specs.Narrowing.{quotient_span}
use Rattle.narrow.specs.Sweep.{sweep_of}
use Rattle.narrow.specs.Parts.{Part, Smaller}
use Rattle.narrow.specs.Named.{SitedAll, PlacedAll}
use Rattle.narrow.specs.Quotients.{Rounded}

-- a sweep only shrinks the box: a changed box lies in the old one, and has no empty range
abbrev pub SweepShrinks : Type 0
SweepShrinks =
    (n : ℕ) (ps : List Primitive) (cs : List (List Literal)) (b b' : Box) → length b ≡ 2 * n
    → ((q : ℕ) → q < n → low_at b q ≤ℤ high_at b q) → sweep_of ps cs b ≡ changed b' → Part n b b'

-- "changed" means that a range changed
abbrev pub SweepSmaller : Type 0
SweepSmaller =
    (n : ℕ) (ps : List Primitive) (cs : List (List Literal)) (b b' : Box) → length b ≡ 2 * n → sweep_of ps cs b ≡ changed b' → Smaller n b b'

-- "unchanged" means that none did
abbrev pub SweepSame : Type 0
SweepSame = (ps : List Primitive) (cs : List (List Literal)) (b b' : Box) → sweep_of ps cs b ≡ unchanged b' → b' ≡ b

-- a sweep keeps every satisfying point: a box that has one does not come out empty
abbrev pub SweepSome : Type 0
SweepSome =
    (n : ℕ) (p : Point) (ps : List Primitive) (cs : List (List Literal)) (b : Box) → SitedAll n ps → PlacedAll n cs
    → Inside n p b → AllOf (Holds p) ps → AllOf (OneOf (True p)) cs → sweep_of ps cs b ≡ empty → ⊥

-- and a changed box still has it
abbrev pub SweepInside : Type 0
SweepInside =
    (n : ℕ) (p : Point) (ps : List Primitive) (cs : List (List Literal)) (b b' : Box) → SitedAll n ps → PlacedAll n cs
    → Inside n p b → AllOf (Holds p) ps → AllOf (OneOf (True p)) cs → sweep_of ps cs b ≡ changed b' → Inside n p b'

-- a one-value box that a sweep leaves unchanged satisfies every primitive and every clause
abbrev pub SweepSettled : Type 0
SweepSettled =
    (n : ℕ) (ps : List Primitive) (cs : List (List Literal)) (b b' : Box) → length b ≡ 2 * n
    → ((q : ℕ) → q < n → low_at b q ≡ high_at b q) → sweep_of ps cs b ≡ unchanged b'
    → AllOf (Holds (low_at b)) ps × AllOf (OneOf (True (low_at b))) cs

-- where the divisor's range holds no 0, the span is from the least of the four exact quotients, rounded up, to the greatest, rounded down
abbrev pub QuotientRounded : Type 0
QuotientRounded = (Z Y : Range) → Y.low ≤ℤ Y.high → holds_zero Y ≡ false → Rounded Z Y (quotient_span Z Y)
