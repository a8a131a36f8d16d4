-- Points compared quantity by quantity, in order.
use Rattle.std.specs.Prelude.{◌≡◌, ℕ, ◌<◌, ◌<ℤ◌}
use Rattle.whole.specs.Ranges.{Point}

-- the first n values are the same
abbrev pub Alike : ℕ → Point → Point → Type 0
Alike n p p' = (q : ℕ) → q < n → p q ≡ p' q

-- p comes before p': they agree up to some quantity, and there p is less
pub record Before (n : ℕ) (p p' : Point) : Type 0 where
  pub place : ℕ
  pub counted : place < n
  pub alike : Alike place p p'
  pub less : p place <ℤ p' place
