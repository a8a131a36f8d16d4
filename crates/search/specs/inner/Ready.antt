-- For the code: what grounds 1 to 5 and 8 leave of the lists of a problem, and what the search gives.
use Rattle.std.specs.Prelude.{◌≡◌, false, List, ℕ, ◌*◌, ◌≤◌, ◌<◌, length, drop, ℤ, pos}
use Rattle.whole.specs.inner.Held.{Good}
use Rattle.problem.specs.Problem.{range_at, quantities}
use Rattle.problem.specs.Lists.{problem_of}
use Rattle.problem.specs.Leading.{bad_leading}
use Rattle.problem.specs.inner.Placed.{Placed}
use Rattle.search.specs.Search.{search_of}
use Rattle.search.specs.Depth.{room_of}
use Rattle.search.specs.Solve.{answered, point_of}
use Rattle.search.specs.declared.Answer.{Answer}
use Rattle.search.specs.declared.Solved.{Solved}

-- an answer after a number of sweeps
abbrev pub solved_by : ℕ → Answer → Solved
solved_by sweeps answer = record { answer = answer; sweeps = sweeps }

-- 1 to 128 quantities, each with a range that can be computed with
pub record Started (rs : List ℤ) : Type 0 where
  pub long : length rs ≡ 2 * quantities rs
  pub some : 1 ≤ quantities rs
  pub most : quantities rs ≤ 128
  pub good : (q : ℕ) → q < quantities rs → Good (range_at rs q)

-- and leading quantities among them
pub record Led (rs : List ℤ) (lead : ℕ) : Type 0 where
  pub started : Started rs
  pub leading : lead ≤ quantities rs

-- a problem to search, its leading quantities, a point buffer, and a workspace with room
pub record Ready (rs ps ns ls : List ℤ) (lead : ℕ) (p w : List ℤ) : Type 0 where
  pub started : Started rs
  pub placed : Placed (quantities rs) ps ns ls
  pub leads : bad_leading rs ps (pos lead) ≡ false
  pub point : length p ≡ quantities rs
  pub room : room_of lead rs ≤ length w

-- the result of a search, the point buffer, and the workspace past what it needs
pub record Searched (rs ps ns ls : List ℤ) (lead budget : ℕ) (p₀ w₀ p w : List ℤ) (r : Solved) : Type 0 where
  pub result : r ≡ answered budget (search_of (problem_of rs ps ns ls) budget)
  pub point : p ≡ point_of (search_of (problem_of rs ps ns ls) budget) p₀
  pub rest : drop (room_of lead rs) w ≡ drop (room_of lead rs) w₀
