-- Demand 2 for the public call: what a solve gives back is right for the problem, and never more than D boxes wait. The search is the one of
-- Demand2.antt with document 01's sweep and choice; the counts are laws of the run alone.
use mathlib.Core.Path.{◌≡◌, refl, sym, ap, ◌∙◌}
use mathlib.Core.Logic.{⊎_elim}
use mathlib.Core.Bool.{false}
use mathlib.Core.List.{List, []}
use Prim.Native.Nat.{ℕ, ◌-◌, ◌≤◌}
use native.Mathlib.Omega.{arith}
use lib.ListN.{length}
use lib.IntN.{ℤ}
use Rattle.std.specs.Prelude.{Result, Ok, Err}
use Rattle.whole.specs.Numbers.{positive_part}
use Rattle.whole.specs.Ranges.{Point}
use Rattle.problem.specs.Problem.{Box, quantities, Satisfies}
use Rattle.problem.specs.Lists.{primitives_of, literals_of, clauses_of, problem_of}
use Rattle.problem.specs.Grounds.{judge_of}
use Rattle.problem.specs.Leading.{bad_leading}
use Rattle.problem.specs.declared.Refusal.{Refusal}
use Rattle.narrow.specs.Sweep.{sweep_of}
use Rattle.narrow.specs.Parts.{Part}
use Rattle.search.specs.Search.{Outcome, stopped, found, none, waiting_of, lowest, search_of}
use Rattle.search.specs.Depth.{depth, room_of}
use Rattle.search.specs.Solve.{judged, lows, answered, point_of, cleared, Solves}
use Rattle.search.specs.Demand2.{point_at, NoneBefore, Smallest, Decides, Right}
use Rattle.search.specs.inner.Laws.{Lawful}
use Rattle.search.specs.declared.Answer.TheVariants as answer
use Rattle.search.specs.declared.Solved.{Solved}
use Rattle.search.proofs.Choice.{lows_point}
use Rattle.search.proofs.Run.{never, boxes_of, left_of, not_yet, steady_answer, steady_point, count_least, count_enough}
use Rattle.search.proofs.Demand2.{Stack, stack, Means, demand2}
use Rattle.search.proofs.Judged.{judges, accepted}
use Rattle.search.proofs.Instance.{start_part, Meets, sweep_lawful, sweep_sound, sweep_ordered}
use Rattle.search.proofs.Leads.{sweep_leads}

module _ (rs ps ns ls : List ℤ) (sound : judge_of rs ps ns ls ≡ Ok tt) (k : ℕ) where
  start : Part (quantities rs) rs rs
  start = start_part (judges rs ps ns ls sound).started

  law : Lawful (sweep_of (primitives_of ps) (clauses_of ns (literals_of ls))) (lowest (quantities rs)) (quantities rs) (quantities rs) rs
  law = sweep_lawful rs ps ns ls (judges rs ps ns ls sound)

  means : Means (quantities rs) rs (Meets (primitives_of ps) (clauses_of ns (literals_of ls))) (search_of (problem_of rs ps ns ls) k)
  means = let j = judges rs ps ns ls sound in demand2 law start (sweep_ordered rs ps ns ls j) (sweep_sound rs ps ns ls j) k

  boxes : Stack (quantities rs) (quantities rs) rs (boxes_of (search_of (problem_of rs ps ns ls) k))
  boxes = stack law start k

  -- none: no point of the starting box satisfies everything
  none_right : {left : ℕ} → search_of (problem_of rs ps ns ls) k ≡ none left → (x : Point) → Satisfies (problem_of rs ps ns ls) x → ⊥
  none_right e x s =
      let m = rw e at means in
      m x s.ranges (s.equations, s.clauses)

  -- found: the smallest such point, compared quantity by quantity in order
  found_right : {c : Box} {ws : List Box} {left : ℕ} → search_of (problem_of rs ps ns ls) k ≡ found c ws left → Smallest (problem_of rs ps ns ls) (point_at (lows c))
  found_right {c} e =
      let m = rw e at means in
      rw (lows_point c (quantities rs) (rw e at boxes).0.long)
      (record {
        satisfies = record { ranges = m.inside; equations = m.satisfies.0; clauses = m.satisfies.1 };
        first = λ x s. m.first x s.ranges (s.equations, s.clauses);
      })

  -- stopped: no satisfying point comes before the floor
  floor_right : {c : Box} {ws : List Box} → search_of (problem_of rs ps ns ls) k ≡ stopped c ws → NoneBefore (problem_of rs ps ns ls) (point_at (lows c))
  floor_right {c} e =
      let m = rw e at means in
      rw (lows_point c (quantities rs) (rw e at boxes).0.long) (λ x s. m x s.ranges (s.equations, s.clauses))

  -- stopped only when the search needs a sweep beyond the budget: no budget up to this one decides
  beyond_right : {c : Box} {ws : List Box} → search_of (problem_of rs ps ns ls) k ≡ stopped c ws → (j : ℕ) → j ≤ k → Decides (search_of (problem_of rs ps ns ls) j) → ⊥
  beyond_right e = not_yet _ _ rs [] k (λ d. rw e at d)

  -- the count of none and of found is a budget that decides, and the least
  enough_right : Decides (search_of (problem_of rs ps ns ls) k) → Decides (search_of (problem_of rs ps ns ls) (k - left_of (search_of (problem_of rs ps ns ls) k)))
  enough_right d = count_enough _ _ rs [] k d

  least_right : Decides (search_of (problem_of rs ps ns ls) k) → (j : ℕ) → Decides (search_of (problem_of rs ps ns ls) j) → k - left_of (search_of (problem_of rs ps ns ls) k) ≤ j
  least_right d = count_least _ _ rs [] k d

  -- and it gives this very answer, count and point
  again_right : Decides (search_of (problem_of rs ps ns ls) k)
      → answered (k - left_of (search_of (problem_of rs ps ns ls) k)) (search_of (problem_of rs ps ns ls) (k - left_of (search_of (problem_of rs ps ns ls) k))) ≡ answered k (search_of (problem_of rs ps ns ls) k)
  again_right d = sym (steady_answer _ _ rs [] (k - left_of (search_of (problem_of rs ps ns ls) k)) k (omega arith) (enough_right d))

  point_right_lem : Decides (search_of (problem_of rs ps ns ls) k) → (p : List ℤ)
      → point_of (search_of (problem_of rs ps ns ls) (k - left_of (search_of (problem_of rs ps ns ls) k))) p ≡ point_of (search_of (problem_of rs ps ns ls) k) p
  point_right_lem d p = sym (steady_point _ _ rs [] (k - left_of (search_of (problem_of rs ps ns ls) k)) k (omega arith) (enough_right d) p)

  -- what the search comes to, as an answer with its count and its point
  right_of : (p₀ : List ℤ) (o : Outcome) → search_of (problem_of rs ps ns ls) k ≡ o → Right (problem_of rs ps ns ls) k (answered k o).answer (answered k o).sweeps (point_of o p₀)
  right_of p₀ (stopped c ws) e =
      record {
        none = λ a. never (cc);
        found = λ a. never (cc);
        floor = λ a. floor_right e;
        beyond = λ a. beyond_right e;
        enough = ⊎_elim (λ a. never (cc)) (λ a. never (cc));
        least = ⊎_elim (λ a. never (cc)) (λ a. never (cc));
        again = ⊎_elim (λ a. never (cc)) (λ a. never (cc));
        again_point = ⊎_elim (λ a. never (cc)) (λ a. never (cc));
        within = omega arith;
        whole = λ a. refl;
      }
  right_of p₀ (found c ws left) e =
      record {
        none = λ a. never (cc);
        found = λ a. found_right e;
        floor = λ a. never (cc);
        beyond = λ a. never (cc);
        enough = λ a. rw e at (enough_right (rw e tt));
        least = λ a. rw e at (least_right (rw e tt));
        again = λ a. rw e at (again_right (rw e tt));
        again_point = λ a. rw e at (point_right_lem (rw e tt) (point_of (search_of (problem_of rs ps ns ls) k) p₀));
        within = omega arith;
        whole = λ a. never (cc);
      }
  right_of p₀ (none left) e =
      record {
        none = λ a. none_right e;
        found = λ a. never (cc);
        floor = λ a. never (cc);
        beyond = λ a. never (cc);
        enough = λ a. rw e at (enough_right (rw e tt));
        least = λ a. rw e at (least_right (rw e tt));
        again = λ a. rw e at (again_right (rw e tt));
        again_point = λ a. rw e at (point_right_lem (rw e tt) (point_of (search_of (problem_of rs ps ns ls) k) p₀));
        within = omega arith;
        whole = λ a. never (cc);
      }

-- never more than D boxes wait
pub room : (rs ps ns ls : List ℤ) (lead : ℤ) → judge_of rs ps ns ls ≡ Ok tt → bad_leading rs ps lead ≡ false → (k : ℕ) → length (waiting_of (search_of (problem_of rs ps ns ls) k)) ≤ depth (positive_part lead) rs
room rs ps ns ls lead sound g k = by (search_of (problem_of rs ps ns ls) k) (stack (sweep_leads rs ps ns ls (judges rs ps ns ls sound) lead g) (start rs ps ns ls sound k) k)
  where
    by : (o : Outcome) → Stack (quantities rs) (positive_part lead) rs (boxes_of o) → length (waiting_of o) ≤ depth (positive_part lead) rs
    by (stopped c ws) s = omega (arith, s.1)
    by (found c ws left) s = omega (arith, s.1)
    by (none left) s = omega arith

-- what a solve of a problem that is not refused gives back is right for the problem
pub sound_right : {rs ps ns ls : List ℤ} {lead budget : ℤ} {p₀ w₀ p w : List ℤ} {r : Result Solved Refusal} → Solves rs ps ns ls lead budget p₀ w₀ p w r → judged rs ps ns ls lead budget p₀ w₀ ≡ Ok tt
    → (s : Solved) × (r ≡ Ok s) × Right (problem_of rs ps ns ls) (positive_part budget) s.answer s.sweeps p
sound_right {rs} {ps} {ns} {ls} {lead} {budget} {p₀} {w₀} {p} {w} {r} s e = (
  answered (positive_part budget) (search_of (problem_of rs ps ns ls) (positive_part budget)),
  rw e at s.result,
  rw (rw e at s.point)
      (right_of rs ps ns ls (accepted rs ps ns ls lead budget p₀ w₀ e).judge (positive_part budget) p₀ (search_of (problem_of rs ps ns ls) (positive_part budget)) refl),
)

-- a refusal gives its ground, and leaves point buffer and workspace as they came
pub refused_as : {rs ps ns ls : List ℤ} {lead budget : ℤ} {p₀ w₀ p w : List ℤ} {r : Result Solved Refusal} → (g : Refusal) → Solves rs ps ns ls lead budget p₀ w₀ p w r → judged rs ps ns ls lead budget p₀ w₀ ≡ Err g
    → (r ≡ Err g) × (p ≡ p₀) × (w ≡ w₀)
refused_as g s e = (rw e at s.result, rw e at s.point, rw e at s.work)

-- where none is met, none leaves the point buffer as it came, and the first numbers of the workspace are 0
module _ {rs ps ns ls : List ℤ} {lead budget : ℤ} {p₀ w₀ p w : List ℤ} {r : Result Solved Refusal} (s : Solves rs ps ns ls lead budget p₀ w₀ p w r) (e : judged rs ps ns ls lead budget p₀ w₀ ≡ Ok tt) where
  pub none_leaves : (t : Solved) → r ≡ Ok t → t.answer ≡ answer.None → p ≡ p₀
  none_leaves t is a = rw e at s.point ∙ by (search_of (problem_of rs ps ns ls) (positive_part budget)) (ap (λ (x : Solved). x.answer) (same t (sym (rw e at s.result) ∙ is)) ∙ a)
    where
      same : (t : Solved) → ◌≡◌ {A = Result Solved Refusal} (Ok (answered (positive_part budget) (search_of (problem_of rs ps ns ls) (positive_part budget)))) (Ok t) → answered (positive_part budget) (search_of (problem_of rs ps ns ls) (positive_part budget)) ≡ t
      same t f = cc

      by : (o : Outcome) → (answered (positive_part budget) o).answer ≡ answer.None → point_of o p₀ ≡ p₀
      by (stopped c ws) a = never (cc)
      by (found c ws left) a = never (cc)
      by (none left) a = refl

  pub work_cleared : w ≡ cleared (room_of (positive_part lead) rs) w₀
  work_cleared = rw e at s.work
