-- The search, whatever a sweep does: its one-step laws, what every run keeps, and a larger budget. Each goes step by step, as the search does.
use mathlib.Core.Path.{◌≡◌, refl, sym, ap, ◌∙◌, subst}
use mathlib.Core.List.{List, [], ◌∷◌}
use Prim.Native.Nat.{ℕ, zero, suc, ◌+◌, ◌-◌, ◌≤◌, ◌<◌}
use native.Mathlib.Nat.{zero-add, suc-add}
use native.Mathlib.Decide.{dec_le}
use native.Mathlib.Omega.{arith}
use lib.IntN.{ℤ}
use Rattle.std.specs.Prelude.{Option, Some, None}
use Rattle.problem.specs.Problem.{Box}
use Rattle.narrow.specs.Cuts.{Swept, empty, changed, unchanged}
use Rattle.search.specs.Search.{lower_part, upper_part, Next, go, out, end, step, run, Outcome, stopped, found, none}
use Rattle.search.specs.Solve.{answered, point_of}
use Rattle.search.specs.Demand2.{Decides}
use Rattle.search.specs.declared.Answer.TheVariants as answer
use Rattle.search.specs.declared.Solved.{Solved}

-- two answers that differ
pub never : {A : Type 0} → ◌≡◌ {A = ℕ} 0 1 → A
never z = absurd (omega arith)

-- the box in hand and the boxes that wait, the next first. Budget k stops at the state after k sweeps, so that this shows every state
abbrev pub boxes_of : Outcome → List Box
boxes_of (stopped c ws) = c ∷ ws
boxes_of (found c ws left) = c ∷ ws
boxes_of (none left) = []

abbrev pub left_of : Outcome → ℕ
left_of (stopped c ws) = 0
left_of (found c ws left) = left
left_of (none left) = left

-- an outcome with the sweeps used instead of those left
abbrev pub counted : ℕ → Outcome → Outcome
counted budget (stopped c ws) = stopped c ws
counted budget (found c ws left) = found c ws (budget - left)
counted budget (none left) = none (budget - left)

-- the result and the point of an outcome, by its count
abbrev solved_as : Outcome → Solved
solved_as (stopped c ws) = record { answer = answer.Stopped; sweeps = 0 }
solved_as (found c ws used) = record { answer = answer.Found; sweeps = used }
solved_as (none used) = record { answer = answer.None; sweeps = used }

answered_counted : (k : ℕ) (o : Outcome) → Decides o → answered k o ≡ solved_as (counted k o)
answered_counted k (stopped c ws) e = absurd e
answered_counted k (found c ws left) e = refl
answered_counted k (none left) e = refl

point_counted : (k : ℕ) (o : Outcome) (p : List ℤ) → point_of o p ≡ point_of (counted k o) p
point_counted k (stopped c ws) p = refl
point_counted k (found c ws left) p = refl
point_counted k (none left) p = refl

module _ (sweep : Box → Swept) (choose : Box → Option ℕ) where
  module _ (k : ℕ) (c : Box) (ws : List Box) where
    pub run_go : {b : Box} {bs : List Box} → step sweep choose c ws ≡ go b bs → run sweep choose (suc k) c ws ≡ run sweep choose k b bs
    unfolding run
    run_go e = rw (e, run)

    pub run_out : step sweep choose c ws ≡ out → run sweep choose (suc k) c ws ≡ none k
    unfolding run
    run_out e = rw (e, run)

    pub run_end : step sweep choose c ws ≡ end → run sweep choose (suc k) c ws ≡ found c ws k
    unfolding run
    run_end e = rw (e, run)

  -- the five ways of a step
  module _ {c : Box} where
    pub step_out : sweep c ≡ empty → step sweep choose c [] ≡ out
    unfolding step
    step_out e = rw e

    pub step_taken : {w : Box} {ws : List Box} → sweep c ≡ empty → step sweep choose c (w ∷ ws) ≡ go w ws
    unfolding step
    step_taken e = rw e

    pub step_cut : {b : Box} {ws : List Box} → sweep c ≡ changed b → step sweep choose c ws ≡ go b ws
    unfolding step
    step_cut e = rw e

    pub step_split : {c' : Box} {q : ℕ} {ws : List Box} → sweep c ≡ unchanged c' → choose c ≡ Some q → step sweep choose c ws ≡ go (lower_part c q) (upper_part c q ∷ ws)
    unfolding step
    step_split e f = rw (e, f)

    pub step_end : {c' : Box} (ws : List Box) → sweep c ≡ unchanged c' → choose c ≡ None → step sweep choose c ws ≡ end
    unfolding step
    step_end ws e f = rw (e, f)

  -- ---- what holds of the boxes at the start, and is kept by each step, holds at every budget
  module _ (I : List Box → Type 0) where
    pub record Kept : Type 0 where
      pub taken : (c : Box) (ws : List Box) → I (c ∷ ws) → sweep c ≡ empty → I ws
      pub cut : (c b : Box) (ws : List Box) → I (c ∷ ws) → sweep c ≡ changed b → I (b ∷ ws)
      pub split : (c c' : Box) (q : ℕ) (ws : List Box) → I (c ∷ ws) → sweep c ≡ unchanged c' → choose c ≡ Some q → I (lower_part c q ∷ upper_part c q ∷ ws)

    module _ (t : Kept) (k : ℕ) (on : (c : Box) (ws : List Box) → I (c ∷ ws) → I (boxes_of (run sweep choose k c ws))) (c : Box) where
      by_sweep : (ws : List Box) → I (c ∷ ws) → (x : Swept) → sweep c ≡ x → (y : Option ℕ) → choose c ≡ y → I (boxes_of (run sweep choose (suc k) c ws))
      by_sweep [] i empty e y f = rw (run_out k c [] (step_out e)) (t.taken c [] i e)
      by_sweep (w ∷ ws) i empty e y f = rw (run_go k c (w ∷ ws) (step_taken e)) (on w ws (t.taken c (w ∷ ws) i e))
      by_sweep ws i (changed b) e y f = rw (run_go k c ws (step_cut e)) (on b ws (t.cut c b ws i e))
      by_sweep ws i (unchanged b) e (Some q) f = rw (run_go k c ws (step_split e f)) (on _ _ (t.split c b q ws i e f))
      by_sweep ws i (unchanged b) e None f = rw (run_end k c ws (step_end ws e f)) i

    pub kept : Kept → (k : ℕ) (c : Box) (ws : List Box) → I (c ∷ ws) → I (boxes_of (run sweep choose k c ws))
    unfolding run
    kept t zero c ws i = i
    kept t (suc k) c ws i = by_sweep t k (kept t k) c ws i (sweep c) refl (choose c) refl

  -- found: a sweep left the box unchanged, and it has nothing to split
  abbrev pub Quiet : Outcome → Type 0
  Quiet (stopped c ws) = Unit {0}
  Quiet (found c ws left) = (b : Box) × (sweep c ≡ unchanged b) × (choose c ≡ None)
  Quiet (none left) = Unit {0}

  pub quiet : (k : ℕ) (c : Box) (ws : List Box) → Quiet (run sweep choose k c ws)
  unfolding run
  quiet zero c ws = tt
  quiet (suc k) c ws = by ws (sweep c) refl (choose c) refl (quiet k)
    where
      by : (ws : List Box) (x : Swept) → sweep c ≡ x → (y : Option ℕ) → choose c ≡ y → ((b : Box) (bs : List Box) → Quiet (run sweep choose k b bs)) → Quiet (run sweep choose (suc k) c ws)
      by [] empty e y f on = rw (run_out k c [] (step_out e)) tt
      by (w ∷ ws) empty e y f on = rw (run_go k c (w ∷ ws) (step_taken e)) (on w ws)
      by ws (changed b) e y f on = rw (run_go k c ws (step_cut e)) (on b ws)
      by ws (unchanged b) e (Some q) f on = rw (run_go k c ws (step_split e f)) (on _ _)
      by ws (unchanged b) e None f on = rw (run_end k c ws (step_end ws e f)) (b, e, f)

  -- ---- a larger budget
  -- what m more sweeps make of an outcome
  abbrev pub more : ℕ → Outcome → Outcome
  more m (stopped c ws) = run sweep choose m c ws
  more m (found b ws left) = found b ws (left + m)
  more m (none left) = none (left + m)

  pub run_more : (m k : ℕ) (c : Box) (ws : List Box) → run sweep choose (k + m) c ws ≡ more m (run sweep choose k c ws)
  unfolding run
  run_more m zero c ws = rw zero-add
  run_more m (suc k) c ws = rw suc-add (by_step (step sweep choose c ws) refl (run_more m k))
    where
      by_step : (x : Next) → step sweep choose c ws ≡ x → ((b : Box) (bs : List Box) → run sweep choose (k + m) b bs ≡ more m (run sweep choose k b bs)) → run sweep choose (suc (k + m)) c ws ≡ more m (run sweep choose (suc k) c ws)
      by_step (go b bs) e on = run_go (k + m) c ws e ∙ on b bs ∙ sym (ap (more m) (run_go k c ws e))
      by_step out e on = run_out (k + m) c ws e ∙ sym (ap (more m) (run_out k c ws e))
      by_step end e on = run_end (k + m) c ws e ∙ sym (ap (more m) (run_end k c ws e))

  -- a run that stopped goes on where it stood
  pub resume : (c : Box) (ws : List Box) (k m : ℕ) {c' : Box} {ws' : List Box} → run sweep choose k c ws ≡ stopped c' ws' → run sweep choose (k + m) c ws ≡ run sweep choose m c' ws'
  resume c ws k m e = run_more m k c ws ∙ ap (more m) e

  -- ---- the sweeps used
  decides_more : (m : ℕ) (o : Outcome) → Decides o → Decides (more m o)
  decides_more m (stopped c ws) e = absurd e
  decides_more m (found c ws left) e = e
  decides_more m (none left) e = e

  pub left_less : (k : ℕ) (c : Box) (ws : List Box) → Decides (run sweep choose k c ws) → left_of (run sweep choose k c ws) < k
  unfolding run
  left_less zero c ws e = absurd e
  left_less (suc k) c ws e = by (step sweep choose c ws) refl (left_less k) e
    where
      by : (x : Next) → step sweep choose c ws ≡ x → ((b : Box) (bs : List Box) → Decides (run sweep choose k b bs) → left_of (run sweep choose k b bs) < k) → Decides (run sweep choose (suc k) c ws) → left_of (run sweep choose (suc k) c ws) < suc k
      by (go b bs) f on e = rw (run_go k c ws f) (let h = on b bs (rw (run_go k c ws f) at e) in omega arith)
      by out f on e = rw (run_out k c ws f) (omega arith)
      by end f on e = rw (run_end k c ws f) (omega arith)

  module _ (c : Box) (ws : List Box) where
    decides_on : (k l : ℕ) → k ≤ l → Decides (run sweep choose k c ws) → Decides (run sweep choose l c ws)
    decides_on k l h e = let z : l ≡ k + (l - k) = omega arith in rw (z, run_more (l - k) k c ws) (decides_more (l - k) (run sweep choose k c ws) e)

    -- stopped: no budget up to this one decides
    pub not_yet : (k : ℕ) → ¬ Decides (run sweep choose k c ws) → (j : ℕ) → j ≤ k → ¬ Decides (run sweep choose j c ws)
    not_yet k f j h e = f (decides_on j k h e)

    -- every budget larger than one that decides gives the same answer, box and count
    pub steady : (k l : ℕ) → k ≤ l → Decides (run sweep choose k c ws) → counted l (run sweep choose l c ws) ≡ counted k (run sweep choose k c ws)
    steady k l h e =
        let z : l ≡ k + (l - k) = omega arith in
        ap (λ (j : ℕ). counted j (run sweep choose j c ws)) z ∙ ap (counted (k + (l - k))) (run_more (l - k) k c ws) ∙ by (l - k) (run sweep choose k c ws) e (left_less k c ws e)
      where
        by : (m : ℕ) (o : Outcome) → Decides o → left_of o < k → counted (k + m) (more m o) ≡ counted k o
        by m (stopped c ws) e lt = absurd e
        by m (found c ws left) e lt = ap (found c ws) (omega arith)
        by m (none left) e lt = ap none (omega arith)

    -- and so the same result and the same point
    pub steady_answer : (k l : ℕ) → k ≤ l → Decides (run sweep choose k c ws) → answered l (run sweep choose l c ws) ≡ answered k (run sweep choose k c ws)
    steady_answer k l h e =
        answered_counted l (run sweep choose l c ws) (decides_on k l h e) ∙ ap solved_as (steady k l h e) ∙ sym (answered_counted k (run sweep choose k c ws) e)

    pub steady_point : (k l : ℕ) → k ≤ l → Decides (run sweep choose k c ws) → (p : List ℤ) → point_of (run sweep choose l c ws) p ≡ point_of (run sweep choose k c ws) p
    steady_point k l h e p =
        point_counted l (run sweep choose l c ws) p ∙ ap (λ (o : Outcome). point_of o p) (steady k l h e) ∙ sym (point_counted k (run sweep choose k c ws) p)

    used_is : (k : ℕ) (o : Outcome) → Decides o → left_of (counted k o) ≡ k - left_of o
    used_is k (stopped c ws) e = absurd e
    used_is k (found c ws left) e = refl
    used_is k (none left) e = refl

    -- the count is the least budget that decides
    pub count_least : (k : ℕ) → Decides (run sweep choose k c ws) → (j : ℕ) → Decides (run sweep choose j c ws) → k - left_of (run sweep choose k c ws) ≤ j
    count_least k e j f = by (dec_le j k)
      where
        by : Dec (j ≤ k) → k - left_of (run sweep choose k c ws) ≤ j
        by (yes h) = omega (arith, used_is k (run sweep choose k c ws) e, used_is j (run sweep choose j c ws) f, ap left_of (steady j k h f))
        by (no h) = omega arith

    pub count_enough : (k : ℕ) → Decides (run sweep choose k c ws) → Decides (run sweep choose (k - left_of (run sweep choose k c ws)) c ws)
    count_enough k e =
        let left = left_of (run sweep choose k c ws) in
        let z : k ≡ k - left + left = omega (arith, left_less k c ws e) in
        let w : run sweep choose k c ws ≡ more left (run sweep choose (k - left) c ws) = ap (λ (j : ℕ). run sweep choose j c ws) z ∙ run_more left (k - left) c ws in
        by left (run sweep choose (k - left) c ws) (subst Decides w e) (ap left_of (sym w))
      where
        by : (m : ℕ) (o : Outcome) → Decides (more m o) → left_of (more m o) ≡ m → Decides o
        by m (stopped c' ws') e f = absurd (omega (arith, left_less m c' ws' e))
        by m (found c' ws' left) e f = e
        by m (none left) e f = e
