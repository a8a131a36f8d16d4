-- What is promised of a solve, for docs/PROMISES.md. It came with lists rs, ps, ns, ls, a leading number lead, a budget, a point buffer p₀ and a
-- workspace w₀, and gave back r, with p and w in the buffers.
use Rattle.std.specs.Prelude.{◌≡◌, false, List, ℕ, ◌≤◌, ◌<◌, ℤ, length, ◌≤ℤ◌, Result, Ok, Some}
use Rattle.whole.specs.Numbers.{positive_part}
use Rattle.whole.specs.Ranges.{Point}
use Rattle.problem.specs.Problem.{Box, low_at, high_at, quantities, Problem}
use Rattle.problem.specs.Order.{Alike}
use Rattle.problem.specs.Lists.{primitives_of, literals_of, clauses_of, problem_of}
use Rattle.problem.specs.Grounds.{judge_of, FirstOf}
use Rattle.problem.specs.Leading.{bad_leading}
use Rattle.problem.specs.declared.Refusal.{Refusal}
use Rattle.narrow.specs.Cuts.{unchanged}
use Rattle.narrow.specs.Sweep.{sweep_of}
use Rattle.narrow.specs.Parts.{Part}
use Rattle.search.specs.Search.{waiting_of, lowest, search_of, leading_search_of}
use Rattle.search.specs.Depth.{depth, room_of}
use Rattle.search.specs.Solve.{SolveGround, solve_order, cleared, Solves, number_of, sweeps_of}
use Rattle.search.specs.Demand2.{Smallest, Decides, Right}
use Rattle.search.specs.Longer.{Longer}
use Rattle.search.specs.declared.Answer.TheVariants.{None}
use Rattle.search.specs.declared.Solved.{Solved}

-- a refusal: its number is that of the first ground met, 8 after 6 and before 7; the sweep count is 0; point buffer and workspace stay as they came
abbrev pub SolveRefused : Type 0
SolveRefused =
    (rs ps ns ls : List ℤ) (lead budget : ℤ) (p₀ w₀ p w : List ℤ) (r : Result Solved Refusal) → Solves rs ps ns ls lead budget p₀ w₀ p w r
    → (g : ℕ) → number_of r ≡ g → 0 < g
    → FirstOf solve_order (SolveGround rs ps ns ls lead budget p₀ w₀) g × (sweeps_of r ≡ 0) × (p ≡ p₀) × (w ≡ w₀)

-- and back: the first ground met gives its number
abbrev pub RefusedBack : Type 0
RefusedBack =
    (rs ps ns ls : List ℤ) (lead budget : ℤ) (p₀ w₀ p w : List ℤ) (r : Result Solved Refusal) → Solves rs ps ns ls lead budget p₀ w₀ p w r
    → (g : ℕ) → FirstOf solve_order (SolveGround rs ps ns ls lead budget p₀ w₀) g → number_of r ≡ g

-- where no ground is met, the answer is right for the problem
abbrev pub SolveRight : Type 0
SolveRight =
    (rs ps ns ls : List ℤ) (lead budget : ℤ) (p₀ w₀ p w : List ℤ) (r : Result Solved Refusal) → Solves rs ps ns ls lead budget p₀ w₀ p w r
    → ((g : ℕ) → SolveGround rs ps ns ls lead budget p₀ w₀ g → ⊥)
    → (s : Solved) × (r ≡ Ok s) × Right (problem_of rs ps ns ls) (positive_part budget) s.answer s.sweeps p

-- the point buffer is unchanged after none; the first 2n(D+1) numbers of the workspace are then 0, the rest unchanged
abbrev pub SolveBuffers : Type 0
SolveBuffers =
    (rs ps ns ls : List ℤ) (lead budget : ℤ) (p₀ w₀ p w : List ℤ) (r : Result Solved Refusal) → Solves rs ps ns ls lead budget p₀ w₀ p w r
    → ((g : ℕ) → SolveGround rs ps ns ls lead budget p₀ w₀ g → ⊥)
    → ((s : Solved) → r ≡ Ok s → s.answer ≡ None → p ≡ p₀) × (w ≡ cleared (room_of (positive_part lead) rs) w₀)

-- with a larger budget: what was decided stays, and what stopped goes on
abbrev pub SolveLonger : Type 0
SolveLonger =
    (rs ps ns ls : List ℤ) (lead budget budget' : ℤ) (p₀ w₀ p w p₀' w₀' p' w' : List ℤ) (r r' : Result Solved Refusal)
    → Solves rs ps ns ls lead budget p₀ w₀ p w r → Solves rs ps ns ls lead budget' p₀' w₀' p' w' r'
    → ((g : ℕ) → SolveGround rs ps ns ls lead budget p₀ w₀ g → ⊥) → ((g : ℕ) → SolveGround rs ps ns ls lead budget' p₀' w₀' g → ⊥)
    → budget ≤ℤ budget' → (s s' : Solved) × (r ≡ Ok s) × (r' ≡ Ok s') × Longer (quantities rs) s s' p p'

-- the contract determines the result, the point buffer and the workspace
abbrev pub SolveOnce : Type 0
SolveOnce =
    (rs ps ns ls : List ℤ) (lead budget : ℤ) (p₀ w₀ p w p' w' : List ℤ) (r r' : Result Solved Refusal)
    → Solves rs ps ns ls lead budget p₀ w₀ p w r → Solves rs ps ns ls lead budget p₀ w₀ p' w' r' → (r ≡ r') × (p ≡ p') × (w ≡ w')

-- some budget decides: the search of a problem that none of grounds 1 to 5 refuses comes to none or found
abbrev pub Decided : Type 0
Decided = (rs ps ns ls : List ℤ) → judge_of rs ps ns ls ≡ Ok tt → (k : ℕ) × Decides (search_of (problem_of rs ps ns ls) k)

-- never more than D boxes wait
abbrev pub Room : Type 0
Room =
    (rs ps ns ls : List ℤ) (lead : ℤ) → judge_of rs ps ns ls ≡ Ok tt → bad_leading rs ps lead ≡ false
    → (k : ℕ) → length (waiting_of (search_of (problem_of rs ps ns ls) k)) ≤ depth (positive_part lead) rs

-- only leading quantities are ever split: in a part b of the starting box that a sweep leaves unchanged, the lowest open quantity is one
abbrev pub LeadingOnly : Type 0
LeadingOnly =
    (rs ps ns ls : List ℤ) (lead : ℤ) → judge_of rs ps ns ls ≡ Ok tt → bad_leading rs ps lead ≡ false
    → (b b' : Box) (q : ℕ) → Part (quantities rs) rs b → sweep_of (primitives_of ps) (clauses_of ns (literals_of ls)) b ≡ unchanged b'
    → lowest (quantities rs) b ≡ Some q → q < positive_part lead

-- and in such a part whose leading ranges are one value each, so is every later one
abbrev pub LeadingSingle : Type 0
LeadingSingle =
    (rs ps ns ls : List ℤ) (lead : ℤ) → judge_of rs ps ns ls ≡ Ok tt → bad_leading rs ps lead ≡ false
    → (b b' : Box) → Part (quantities rs) rs b → sweep_of (primitives_of ps) (clauses_of ns (literals_of ls)) b ≡ unchanged b'
    → ((q : ℕ) → q < positive_part lead → low_at b q ≡ high_at b q) → (q : ℕ) → q < quantities rs → low_at b q ≡ high_at b q

-- so the search that splits leading quantities only is the search: sweeps and answers stay
abbrev pub LeadingSame : Type 0
LeadingSame =
    (rs ps ns ls : List ℤ) (lead : ℤ) → judge_of rs ps ns ls ≡ Ok tt → bad_leading rs ps lead ≡ false
    → (k : ℕ) → leading_search_of (positive_part lead) (problem_of rs ps ns ls) k ≡ search_of (problem_of rs ps ns ls) k

-- there is one smallest satisfying point only
abbrev pub SmallestOnce : Type 0
SmallestOnce = (b : Problem) (p p' : Point) → Smallest b p → Smallest b p' → Alike (quantities b.ranges) p p'
