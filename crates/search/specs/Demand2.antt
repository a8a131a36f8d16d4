-- Demand 2: what none, found and stopped mean for the problem, and what the count of sweeps is.
use Rattle.std.specs.Prelude.{◌≡◌, List, ◌⊎◌, ℕ, ◌≤◌, ℤ, pos, get_or}
use Rattle.whole.specs.Ranges.{Point}
use Rattle.problem.specs.Problem.{quantities, Problem, Satisfies}
use Rattle.problem.specs.Order.{Before}
use Rattle.search.specs.Search.{Outcome, stopped, found, none, search_of}
use Rattle.search.specs.Solve.{answered, point_of}
use Rattle.search.specs.declared.Answer.{Answer}
use Rattle.search.specs.declared.Answer.TheVariants.{None, Found, Stopped}

-- a list of numbers as a point
abbrev pub point_at : List ℤ → Point
point_at l q = get_or l q (pos 0)

-- no satisfying point comes before p
abbrev pub NoneBefore : Problem → Point → Type 0
NoneBefore b p = (x : Point) → Satisfies b x → Before (quantities b.ranges) x p → ⊥

-- p satisfies the problem, and no satisfying point comes before it
pub record Smallest (b : Problem) (p : Point) : Type 0 where
  pub satisfies : Satisfies b p
  pub first : NoneBefore b p

-- a budget decides: the search ends with none or found
abbrev pub Decides : Outcome → Type 0
Decides (stopped c ws) = ⊥
Decides (found c ws left) = Unit {0}
Decides (none left) = Unit {0}

-- an answer to a problem with a budget, its count of sweeps, and the numbers in the point buffer
pub record Right (b : Problem) (budget : ℕ) (a : Answer) (sweeps : ℕ) (point : List ℤ) : Type 0 where
  -- none: no point of the starting box satisfies everything
  pub none : a ≡ None → (x : Point) → Satisfies b x → ⊥
  -- found: the smallest such point
  pub found : a ≡ Found → Smallest b (point_at point)
  -- stopped: no satisfying point comes before the floor
  pub floor : a ≡ Stopped → NoneBefore b (point_at point)
  -- stopped only when the search needs a sweep beyond the budget: no budget up to this one decides
  pub beyond : a ≡ Stopped → (k : ℕ) → k ≤ budget → Decides (search_of b k) → ⊥
  -- none and found: the count is the least budget that decides, and that budget gives this very answer, count and point
  pub enough : (a ≡ None) ⊎ (a ≡ Found) → Decides (search_of b sweeps)
  pub least : (a ≡ None) ⊎ (a ≡ Found) → (k : ℕ) → Decides (search_of b k) → sweeps ≤ k
  pub again : (a ≡ None) ⊎ (a ≡ Found) → answered sweeps (search_of b sweeps) ≡ record { answer = a; sweeps = sweeps }
  pub again_point : (a ≡ None) ⊎ (a ≡ Found) → point_of (search_of b sweeps) point ≡ point
  -- the count never passes the budget; at stopped it is the budget
  pub within : sweeps ≤ budget
  pub whole : a ≡ Stopped → sweeps ≡ budget
