-- For the code: the literals of one clause by their places.
use Rattle.std.specs.Prelude.{◌≡◌, List, ℕ, ◌*◌, ◌<◌, length, ℤ}
use Rattle.whole.specs.Ranges.{range}
use Rattle.whole.specs.declared.Range.{Range}
use Rattle.problem.specs.Problem.{Box, low_at, high_at}
use Rattle.problem.specs.inner.Placed.{ReadableLiteral, literal_at}
use Rattle.problem.specs.declared.Literal.{Literal}
use Rattle.problem.specs.declared.Literal.TheVariants.{AtMost, AtLeast}
use Rattle.narrow.specs.Named.{quantity_of}
use Rattle.narrow.specs.inner.Done.{Has}

-- the range that a literal asks of its quantity
abbrev pub asked_of : Box → Literal → Range
asked_of b (AtMost q c) = range (low_at b q) c
asked_of b (AtLeast q c) = range c (high_at b q)

-- the literals are n, and name quantities of the box
pub record Lits (b : Box) (l : List ℤ) (n : ℕ) : Type 0 where
  pub long : length l ≡ 3 * n
  pub readable : (i : ℕ) → i < n → ReadableLiteral l i
  pub has : (i : ℕ) → i < n → Has b (quantity_of (literal_at l i))
