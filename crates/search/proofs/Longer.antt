-- A larger budget, for every sweep and choice under the laws: a run that decided stays as it is, and one that stopped goes on where it stood, with
-- boxes whose points are not before its floor.
use mathlib.Core.Path.{◌≡◌, refl, sym, ap, ◌∙◌}
use mathlib.Core.Logic.{⊎_elim}
use mathlib.Core.List.{List, []}
use Prim.Native.Nat.{ℕ, ◌+◌, ◌-◌, ◌≤◌}
use native.Mathlib.Omega.{arith}
use lib.IntN.{ℤ}
use lib.Signed.{◌≤ℤ◌}
use Rattle.std.specs.Prelude.{Option, Result, Ok}
use Rattle.whole.specs.Numbers.{positive_part}
use Rattle.whole.specs.Ranges.{Point}
use Rattle.whole.proofs.Kit.{ints, apart}
use Rattle.problem.specs.Problem.{Box, low_at, quantities}
use Rattle.problem.specs.Lists.{problem_of}
use Rattle.problem.specs.declared.Refusal.{Refusal}
use Rattle.narrow.specs.Cuts.{Swept}
use Rattle.narrow.specs.Parts.{Part}
use Rattle.search.specs.Search.{Outcome, stopped, found, none, run, search_of}
use Rattle.search.specs.Solve.{judged, lows, answered, point_of, Solves}
use Rattle.search.specs.Demand2.{point_at}
use Rattle.search.specs.Longer.{Longer}
use Rattle.search.specs.inner.Laws.{Lawful, Lossless, Ordered}
use Rattle.search.specs.declared.Solved.{Solved}
use Rattle.search.proofs.Choice.{lows_point}
use Rattle.search.proofs.Run.{never, steady_answer, steady_point}
use Rattle.search.proofs.Demand2.{stack, later, found_later}
use Rattle.search.proofs.Judged.{judges, accepted}
use Rattle.search.proofs.Instance.{start_part, sweep_lawful, sweep_sound, sweep_ordered}

module _ {sweep : Box → Swept} {choose : Box → Option ℕ} {n lead : ℕ} {start : Box} (law : Lawful sweep choose n lead start) (fine : Part n start start) {Sat : Point → Type 0} (order : Ordered sweep choose n start Sat) (sound : Lossless sweep n start Sat) (k l : ℕ) (more : k ≤ l) where
  -- the low ends of a box where a budget ends, as a point
  stopped_at : (j : ℕ) {c : Box} {ws : List Box} → run sweep choose j start [] ≡ stopped c ws → point_at (lows c) ≡ low_at c
  stopped_at j {c} e = lows_point c n (rw e at (stack law fine j)).0.long

  found_at : (j : ℕ) {c : Box} {ws : List Box} {left : ℕ} → run sweep choose j start [] ≡ found c ws left → point_at (lows c) ≡ low_at c
  found_at j {c} e = lows_point c n (rw e at (stack law fine j)).0.long

  -- the larger budget is the smaller and some more
  as_sum : {o : Outcome} → run sweep choose l start [] ≡ o → run sweep choose (k + (l - k)) start [] ≡ o
  as_sum e = let z : k + (l - k) ≡ l = omega arith in ap (λ (j : ℕ). run sweep choose j start []) z ∙ e

  by : (p₀ p₀' : List ℤ) (o o' : Outcome) → run sweep choose k start [] ≡ o → run sweep choose l start [] ≡ o' → Longer n (answered k o) (answered l o') (point_of o p₀) (point_of o' p₀')
  by p₀ p₀' (stopped c ws) (stopped c' ws') e e' =
      record {
        same = ⊎_elim (λ a. never (cc)) (λ a. never (cc));
        point = λ a. never (cc);
        floors = λ a a'. rw (stopped_at k e, stopped_at l e') (later law fine order k (l - k) e (as_sum e'));
        onward = λ a a'. never (cc);
      }
  by p₀ p₀' (stopped c ws) (found c' ws' left) e e' =
      record {
        same = ⊎_elim (λ a. never (cc)) (λ a. never (cc));
        point = λ a. never (cc);
        floors = λ a a'. never (cc);
        onward = λ a a'. rw (stopped_at k e, found_at l e') (found_later law fine order sound k l e e');
      }
  by p₀ p₀' (stopped c ws) (none left) e e' =
      record {
        same = ⊎_elim (λ a. never (cc)) (λ a. never (cc));
        point = λ a. never (cc);
        floors = λ a a'. never (cc);
        onward = λ a a'. never (cc);
      }
  by p₀ p₀' (found c ws left) o' e e' =
      record {
        same = λ a. sym (ap (answered l) e') ∙ steady_answer sweep choose start [] k l more (rw e tt) ∙ ap (answered k) e;
        point = λ a. sym (ap (λ (o : Outcome). point_of o p₀') e') ∙ steady_point sweep choose start [] k l more (rw e tt) p₀' ∙ ap (λ (o : Outcome). point_of o p₀') e;
        floors = λ a. never (cc);
        onward = λ a. never (cc);
      }
  by p₀ p₀' (none left) o' e e' =
      record {
        same = λ a. sym (ap (answered l) e') ∙ steady_answer sweep choose start [] k l more (rw e tt) ∙ ap (answered k) e;
        point = λ a. never (cc);
        floors = λ a. never (cc);
        onward = λ a. never (cc);
      }

  pub longer_run : (p₀ p₀' : List ℤ) → Longer n (answered k (run sweep choose k start [])) (answered l (run sweep choose l start [])) (point_of (run sweep choose k start []) p₀) (point_of (run sweep choose l start []) p₀')
  longer_run p₀ p₀' = by p₀ p₀' (run sweep choose k start []) (run sweep choose l start []) refl refl

-- for two solves of a problem that neither refuses
pub sound_longer : {rs ps ns ls : List ℤ} {lead budget budget' : ℤ} {p₀ w₀ p w p₀' w₀' p' w' : List ℤ} {r r' : Result Solved Refusal}
    → Solves rs ps ns ls lead budget p₀ w₀ p w r → Solves rs ps ns ls lead budget' p₀' w₀' p' w' r'
    → judged rs ps ns ls lead budget p₀ w₀ ≡ Ok tt → judged rs ps ns ls lead budget' p₀' w₀' ≡ Ok tt
    → budget ≤ℤ budget' → (a a' : Solved) × (r ≡ Ok a) × (r' ≡ Ok a') × Longer (quantities rs) a a' p p'
sound_longer {rs} {ps} {ns} {ls} {lead} {budget} {budget'} {p₀} {w₀} {p} {w} {p₀'} {w₀'} {p'} {w'} {r} {r'} s t e e' more =
    let j = judges rs ps ns ls (accepted rs ps ns ls lead budget p₀ w₀ e).judge in (
      answered (positive_part budget) (search_of (problem_of rs ps ns ls) (positive_part budget)),
      answered (positive_part budget') (search_of (problem_of rs ps ns ls) (positive_part budget')),
      rw e at s.result,
      rw e' at t.result,
      rw (rw e at s.point, rw e' at t.point)
          (longer_run (sweep_lawful rs ps ns ls j) (start_part j.started) (sweep_ordered rs ps ns ls j) (sweep_sound rs ps ns ls j)
          (positive_part budget) (positive_part budget') (omega (ints, apart budget, apart budget')) p₀ p₀'),
    )
