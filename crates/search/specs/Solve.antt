-- What a solve gives back, and what it leaves in the caller's buffers: document 01, "What a solve gives back", and document 02, L6.
use Rattle.std.specs.Prelude.{◌≡◌, Bool, true, not, cond, ◌||◌, List, [], ◌∷◌, ◌++◌, ℕ, ◌-◌, eqb, ltb, ℤ, pos, length, drop, replicate, Result, Ok, Err}
use Rattle.std.specs.Int.Signed.{lt_z}
use Rattle.whole.specs.Numbers.{positive_part}
use Rattle.problem.specs.Problem.{Box, quantities}
use Rattle.problem.specs.Lists.{problem_of}
use Rattle.problem.specs.Grounds.{bad_quantities, bad_lists, bad_ranges, bad_primitives, bad_literals, judge_of, refusal_number}
use Rattle.problem.specs.Leading.{bad_leading}
use Rattle.problem.specs.declared.Refusal.{Refusal}
use Rattle.problem.specs.declared.Refusal.TheVariants.{Budget, Room, Leading}
use Rattle.search.specs.Search.{Outcome, stopped, found, none, search_of}
use Rattle.search.specs.Depth.{room_of}
use Rattle.search.specs.declared.Answer.TheVariants as answer
use Rattle.search.specs.declared.Solved.{Solved}

-- 6: budget outside 0 to 1,000,000,000
abbrev pub bad_budget : ℤ → Bool
bad_budget budget = lt_z budget (pos 0) || lt_z (pos 1_000_000_000) budget

-- 7: point buffer not n numbers, or workspace too short
abbrev pub bad_room : ℤ → List ℤ → List ℤ → List ℤ → Bool
bad_room lead rs point work = not (eqb (length point) (quantities rs)) || ltb (length work) (room_of (positive_part lead) rs)

-- the grounds of a refusal by their numbers
pub data SolveGround (rs ps ns ls : List ℤ) (lead budget : ℤ) (point work : List ℤ) : ℕ → Type 0 where
  -- range list odd, or n not 1 to 128
  by_quantities : bad_quantities rs ≡ true → SolveGround rs ps ns ls lead budget point work 1
  -- a list too long, primitive list not in fours, a clause length below 0, or literal list not three times the sum of lengths
  by_lists : bad_lists ps ns ls ≡ true → SolveGround rs ps ns ls lead budget point work 2
  -- a range with low above high, or an end beyond plus or minus M
  by_ranges : bad_ranges rs ≡ true → SolveGround rs ps ns ls lead budget point work 3
  -- unknown kind, missing quantity, or y not 0 in kind 3
  by_primitives : bad_primitives (quantities rs) ps ≡ true → SolveGround rs ps ns ls lead budget point work 4
  -- literal with missing quantity, unknown sense, or bound beyond plus or minus M
  by_literals : bad_literals (quantities rs) ls ≡ true → SolveGround rs ps ns ls lead budget point work 5
  -- budget outside 0 to 1,000,000,000
  by_budget : bad_budget budget ≡ true → SolveGround rs ps ns ls lead budget point work 6
  -- a leading number outside 1 to n, or a later quantity that is neither one value nor the result of a primitive over lower-numbered ones
  by_leading : bad_leading rs ps lead ≡ true → SolveGround rs ps ns ls lead budget point work 8
  -- point buffer not n numbers, or workspace too short
  by_room : bad_room lead rs point work ≡ true → SolveGround rs ps ns ls lead budget point work 7

-- 8 is looked at after 6 and before 7
abbrev pub solve_order : List ℕ
solve_order = 1 ∷ 2 ∷ 3 ∷ 4 ∷ 5 ∷ 6 ∷ 8 ∷ 7 ∷ []

-- what lists, leading number, budget and buffers are judged: nothing against them, or the ground of a refusal
abbrev pub Judged : Type 0
Judged = Result (Unit {0}) Refusal

-- the first ground met, in this order
abbrev pub or_else : Judged → Judged → Judged
or_else (Ok u) j = j
or_else (Err g) j = Err g

unfoldable pub judged : List ℤ → List ℤ → List ℤ → List ℤ → ℤ → ℤ → List ℤ → List ℤ → Judged
judged rs ps ns ls lead budget point work =
    or_else (judge_of rs ps ns ls)
    (cond (bad_budget budget) (Err Budget)
    (cond (bad_leading rs ps lead) (Err Leading) (cond (bad_room lead rs point work) (Err Room) (Ok tt))))

-- the low end of each quantity in a box
unfoldable pub lows : Box → List ℤ
lows [] = []
lows (l ∷ []) = []
lows (l ∷ (h ∷ b)) = l ∷ lows b

-- the answer, and the number of sweeps used
abbrev pub answered : ℕ → Outcome → Solved
answered budget (stopped c ws) = record { answer = answer.Stopped; sweeps = budget }
answered budget (found c ws left) = record { answer = answer.Found; sweeps = budget - left }
answered budget (none left) = record { answer = answer.None; sweeps = budget - left }

-- a refusal, or the answer
abbrev pub result_of : Judged → ℕ → Outcome → Result Solved Refusal
result_of (Ok u) budget o = Ok (answered budget o)
result_of (Err g) budget o = Err g

-- found, the point; stopped, the floor; none, unchanged
abbrev pub point_of : Outcome → List ℤ → List ℤ
point_of (stopped c ws) point = lows c
point_of (found c ws left) point = lows c
point_of (none left) point = point

-- after a refusal as it came
abbrev pub unless : Judged → List ℤ → List ℤ → List ℤ
unless (Ok u) new old = new
unless (Err g) new old = old

-- the first numbers of the workspace are 0, the rest unchanged
abbrev pub cleared : ℕ → List ℤ → List ℤ
cleared room work = replicate room (pos 0) ++ drop room work

-- the result, and what point buffer and workspace hold (p, w), from what they came with (p₀, w₀)
pub record Solves (rs ps ns ls : List ℤ) (lead budget : ℤ) (p₀ w₀ p w : List ℤ) (r : Result Solved Refusal) : Type 0 where
  pub result : r ≡ result_of (judged rs ps ns ls lead budget p₀ w₀) (positive_part budget) (search_of (problem_of rs ps ns ls) (positive_part budget))
  pub point : p ≡ unless (judged rs ps ns ls lead budget p₀ w₀) (point_of (search_of (problem_of rs ps ns ls) (positive_part budget)) p₀) p₀
  pub work : w ≡ unless (judged rs ps ns ls lead budget p₀ w₀) (cleared (room_of (positive_part lead) rs) w₀) w₀

-- document 01's number of a refusal; 0 where there is none
abbrev pub number_of : Result Solved Refusal → ℕ
number_of (Ok s) = 0
number_of (Err g) = refusal_number g

-- the sweep count, which is 0 at a refusal
abbrev pub sweeps_of : Result Solved Refusal → ℕ
sweeps_of (Ok s) = s.sweeps
sweeps_of (Err g) = 0
