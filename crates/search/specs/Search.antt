-- The search: document 01, "The search". It goes by a budget of sweeps, one a step, whatever a sweep does and whichever quantity is split;
-- the last lines put in document 01's sweep and its choice.
use Rattle.std.specs.Prelude.{true, false, List, [], ◌∷◌, ℕ, zero, suc, ◌+◌, ◌*◌, set, ℤ, pos, ◌+ℤ◌, Option, Some, None}
use Rattle.std.specs.Int.Signed.{lt_z}
use Rattle.whole.specs.Numbers.{middle_of}
use Rattle.problem.specs.Problem.{Box, low_at, high_at, quantities, Problem}
use Rattle.narrow.specs.Cuts.{Swept, empty, changed, unchanged}
use Rattle.narrow.specs.Sweep.{sweep_of}

-- m = (low+high)/2 rounded towards minus infinity
abbrev pub middle_at : Box → ℕ → ℤ
middle_at b q = middle_of (low_at b q) (high_at b q)

-- [low, m]
abbrev pub lower_part : Box → ℕ → Box
lower_part b q = set b (2 * q + 1) (middle_at b q)

-- [m+1, high]
abbrev pub upper_part : Box → ℕ → Box
upper_part b q = set b (2 * q) (middle_at b q +ℤ pos 1)

-- stopped: the box about to be swept and those that wait; found: the box, those that wait, and the sweeps left; none: the sweeps left
pub data Outcome : Type 0 where
  stopped : Box → List Box → Outcome
  found : Box → List Box → ℕ → Outcome
  none : ℕ → Outcome

-- the boxes that wait after as many sweeps as the budget, or where the search ends
abbrev pub waiting_of : Outcome → List Box
waiting_of (stopped c ws) = ws
waiting_of (found c ws left) = ws
waiting_of (none left) = []

-- where a sweep leads: on with a box and the boxes that wait, the one stored last first; out of boxes; or to a box with nothing to split
pub data Next : Type 0 where
  go : Box → List Box → Next
  out : Next
  end : Next

abbrev pub after_sweep : Swept → Option ℕ → Box → List Box → Next
-- 2. Empty after the sweep: take the waiting box stored last; if there is none, none
after_sweep empty o c [] = out
after_sweep empty o c (w ∷ ws) = go w ws
-- 3. A range changed: sweep the same box again
after_sweep (changed b) o c ws = go b ws
-- 4. Nothing changed and every range is one value, so that there is nothing to split: found
after_sweep (unchanged b) None c ws = end
-- 5. Nothing changed otherwise: cut the open quantity at m; the upper part waits; go on with the lower
after_sweep (unchanged b) (Some q) c ws = go (lower_part c q) (upper_part c q ∷ ws)

module _ (sweep : Box → Swept) (choose : Box → Option ℕ) where
  unfoldable pub step : Box → List Box → Next
  step c ws = let o = choose c in after_sweep (sweep c) o c ws

  unfoldable pub run : ℕ → Box → List Box → Outcome
  -- 1. If a sweep is needed and none is left: stopped
  run zero c ws = stopped c ws
  -- else a sweep costs one from the budget, and 2 to 5 say where it leads
  run (suc k) c ws = elim (step c ws) [ go b bs ↦ run k b bs | out ↦ none k | end ↦ found c ws k ]

-- the lowest-numbered quantity with more than one value, of k from q on
unfoldable pub open_from : Box → ℕ → ℕ → Option ℕ
open_from b zero q = None
open_from b (suc k) q = elim (lt_z (low_at b q) (high_at b q)) [ true ↦ Some q | false ↦ open_from b k (suc q) ]

-- of the first n
abbrev pub lowest : ℕ → Box → Option ℕ
lowest n b = open_from b n 0

-- the search of a problem: it starts with the given box, and no box waits
abbrev pub search_of : Problem → ℕ → Outcome
search_of p budget = run (sweep_of p.primitives p.clauses) (lowest (quantities p.ranges)) budget p.ranges []

-- the search that splits leading quantities only
abbrev pub leading_search_of : ℕ → Problem → ℕ → Outcome
leading_search_of lead p budget = run (sweep_of p.primitives p.clauses) (lowest lead) budget p.ranges []
