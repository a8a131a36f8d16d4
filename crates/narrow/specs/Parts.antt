-- Boxes compared: parts of a box, and smaller ones.
use Rattle.std.specs.Prelude.{◌≡◌, ◌⊎◌, ℕ, ◌*◌, ◌<◌, length, ◌≤ℤ◌, ◌<ℤ◌}
use Rattle.problem.specs.Problem.{Box, low_at, high_at}

-- b has n ranges, none of them empty, each inside that of a
pub record Part (n : ℕ) (a b : Box) : Type 0 where
  pub long : length b ≡ 2 * n
  pub low : (q : ℕ) → q < n → low_at a q ≤ℤ low_at b q
  pub filled : (q : ℕ) → q < n → low_at b q ≤ℤ high_at b q
  pub high : (q : ℕ) → q < n → high_at b q ≤ℤ high_at a q

-- one of the first n ranges of a has an end that b has further in
pub record Smaller (n : ℕ) (a b : Box) : Type 0 where
  pub place : ℕ
  pub counted : place < n
  pub less : (low_at a place <ℤ low_at b place) ⊎ (high_at b place <ℤ high_at a place)
