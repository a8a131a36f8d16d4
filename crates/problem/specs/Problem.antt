-- A problem, and the points that satisfy it: document 01, "A problem".
use Rattle.std.specs.Prelude.{◌≡◌, List, ℕ, ◌+◌, ◌*◌, ◌/◌, ◌<◌, length, get_or, ℤ, pos, ◌+ℤ◌, ◌*ℤ◌, ◌≤ℤ◌}
use Rattle.whole.specs.Lists.{AllOf, OneOf}
use Rattle.whole.specs.Ranges.{Point, In, range}
use Rattle.whole.specs.declared.Range.{Range}
use Rattle.problem.specs.declared.Primitive.{Primitive}
use Rattle.problem.specs.declared.Primitive.TheVariants.{Sum, Product, Square}
use Rattle.problem.specs.declared.Literal.{Literal}
use Rattle.problem.specs.declared.Literal.TheVariants.{AtMost, AtLeast}

-- two numbers for each quantity, low then high: a range list, and every box of the search
abbrev pub Box : Type 0
Box = List ℤ

abbrev pub low_at : Box → ℕ → ℤ
low_at b q = get_or b (2 * q) (pos 0)

abbrev pub high_at : Box → ℕ → ℤ
high_at b q = get_or b (2 * q + 1) (pos 0)

abbrev pub range_at : Box → ℕ → Range
range_at b q = range (low_at b q) (high_at b q)

-- n, the number of quantities, which are 0 to n-1
abbrev pub quantities : Box → ℕ
quantities b = length b / 2

pub record Problem : Type 0 where
  pub ranges : Box
  pub primitives : List Primitive
  pub clauses : List (List Literal)

-- each of the first n values is in its range
pub record Inside (n : ℕ) (p : Point) (b : Box) : Type 0 where
  pub each : (q : ℕ) → q < n → In (range_at b q) (p q)

-- an equation holds exactly
abbrev pub Holds : Point → Primitive → Type 0
Holds p (Sum z x y) = p z ≡ p x +ℤ p y
Holds p (Product z x y) = p z ≡ p x *ℤ p y
Holds p (Square z x) = p z ≡ p x *ℤ p x

-- a literal is true
abbrev pub True : Point → Literal → Type 0
True p (AtMost q c) = p q ≤ℤ c
True p (AtLeast q c) = c ≤ℤ p q

-- each value is in its range, each equation holds exactly, and each clause has a true literal (so an empty clause is false)
pub record Satisfies (b : Problem) (p : Point) : Type 0 where
  pub ranges : Inside (quantities b.ranges) p b.ranges
  pub equations : AllOf (Holds p) b.primitives
  pub clauses : AllOf (OneOf (True p)) b.clauses
