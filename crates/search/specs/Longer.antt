-- Two runs of one problem, the second with the larger budget: request L12.
use Rattle.std.specs.Prelude.{◌≡◌, List, ◌⊎◌, ℕ, ℤ}
use Rattle.problem.specs.Order.{Before}
use Rattle.search.specs.Demand2.{point_at}
use Rattle.search.specs.declared.Answer.TheVariants.{None, Found, Stopped}
use Rattle.search.specs.declared.Solved.{Solved}

-- they gave back r and r', with p and p' in their point buffers
pub record Longer (n : ℕ) (r r' : Solved) (p p' : List ℤ) : Type 0 where
  -- if the smaller budget gives none or found, the larger gives that same answer and count, and the same point
  pub same : (r.answer ≡ None) ⊎ (r.answer ≡ Found) → r' ≡ r
  pub point : r.answer ≡ Found → p' ≡ p
  -- where both stop, the larger's floor is not before the smaller's
  pub floors : r.answer ≡ Stopped → r'.answer ≡ Stopped → Before n (point_at p') (point_at p) → ⊥
  -- a found point is not before any earlier floor
  pub onward : r.answer ≡ Stopped → r'.answer ≡ Found → Before n (point_at p') (point_at p) → ⊥
