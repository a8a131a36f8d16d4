-- The search's loop, for the code: the boxes, and that the rest of the run gives the outcome. Each edge is one step of the run.
use mathlib.Core.Path.{◌≡◌, sym, ◌∙◌}
use mathlib.Core.List.{List, [], ◌∷◌}
use Prim.Native.Nat.{ℕ, suc}
use Rattle.std.specs.Prelude.{Option, Some, None}
use Rattle.problem.specs.Problem.{Box}
use Rattle.narrow.specs.Cuts.{Swept, empty, changed, unchanged}
use Rattle.search.specs.Search.{lower_part, upper_part, Outcome, stopped, found, none, run}
use Rattle.search.specs.inner.Laws.{Lawful}
use Rattle.search.proofs.Run.{run_go, run_out, run_end, step_out, step_taken, step_cut, step_split, step_end}
use Rattle.search.proofs.Demand2.{Stack, stack_kept}

pub record Going (sweep : Box → Swept) (choose : Box → Option ℕ) (n lead : ℕ) (start : Box) (o : Outcome) (k : ℕ) (c : Box) (ws : List Box) : Type 0 where
  pub stack : Stack n lead start (c ∷ ws)
  pub same : run sweep choose k c ws ≡ o

module _ {sweep : Box → Swept} {choose : Box → Option ℕ} {n lead : ℕ} {start : Box} (law : Lawful sweep choose n lead start) {o : Outcome} {k : ℕ} {c : Box} where
  pub go_cut : {ws : List Box} (b : Box) → Going sweep choose n lead start o (suc k) c ws → sweep c ≡ changed b → Going sweep choose n lead start o k b ws
  go_cut {ws} b g e = record { stack = (stack_kept law).cut c b ws g.stack e; same = sym (run_go sweep choose k c ws (step_cut sweep choose e)) ∙ g.same }

  pub go_taken : {w : Box} {ws : List Box} → Going sweep choose n lead start o (suc k) c (w ∷ ws) → sweep c ≡ empty → Going sweep choose n lead start o k w ws
  go_taken {w} {ws} g e = record { stack = (stack_kept law).taken c (w ∷ ws) g.stack e; same = sym (run_go sweep choose k c (w ∷ ws) (step_taken sweep choose e)) ∙ g.same }

  pub go_split : {c' : Box} {ws : List Box} (q : ℕ) → Going sweep choose n lead start o (suc k) c ws → sweep c ≡ unchanged c' → choose c ≡ Some q → Going sweep choose n lead start o k (lower_part c q) (upper_part c q ∷ ws)
  go_split {c'} {ws} q g e f = record { stack = (stack_kept law).split c c' q ws g.stack e f; same = sym (run_go sweep choose k c ws (step_split sweep choose e f)) ∙ g.same }

  pub end_none : Going sweep choose n lead start o (suc k) c [] → sweep c ≡ empty → o ≡ none k
  end_none g e = sym g.same ∙ run_out sweep choose k c [] (step_out sweep choose e)

  pub end_found : {c' : Box} {ws : List Box} → Going sweep choose n lead start o (suc k) c ws → sweep c ≡ unchanged c' → choose c ≡ None → o ≡ found c ws k
  end_found {c'} {ws} g e f = sym g.same ∙ run_end sweep choose k c ws (step_end sweep choose ws e f)

pub end_stopped : {sweep : Box → Swept} {choose : Box → Option ℕ} {n lead : ℕ} {start : Box} {o : Outcome} {c : Box} {ws : List Box} → Going sweep choose n lead start o 0 c ws → o ≡ stopped c ws
unfolding run
end_stopped g = sym g.same
