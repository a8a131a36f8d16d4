-- Any list of steps: each starts from the box that the one before it left, so what every cut does, they do together.
use mathlib.Core.Path.{◌≡◌, refl}
use mathlib.Core.List.{List, [], ◌∷◌, ◌++◌}
use Prim.Native.Nat.{ℕ}
use native.Mathlib.Omega.{arith}
use Rattle.whole.specs.Lists.{AllOf}
use Rattle.whole.specs.Ranges.{Point}
use Rattle.problem.specs.Problem.{Box, Inside}
use Rattle.narrow.specs.Cuts.{Swept, empty, changed, unchanged, Step, act, marked, next, steps}
use Rattle.narrow.proofs.Boxes.{Within, within_trans, Less, smaller_within}
use Rattle.narrow.proofs.Cuts.{Quiet, Outcome, ends, moves, rests, act_is, Allows, Keeps, act_keeps}

-- ---- nothing follows an empty range, and steps go on from where the others ended
pub steps_empty : (ss : List Step) → steps empty ss ≡ empty
steps_empty [] = refl
steps_empty (s ∷ ss) = steps_empty ss

pub steps_append : (r : Swept) (ss ts : List Step) → steps r (ss ++ ts) ≡ steps (steps r ss) ts
steps_append r [] ts = refl
steps_append r (s ∷ ss) ts = steps_append (next r s) ss ts

-- the step is quiet; every step is
abbrev pub QuietAt : Box → Step → Type 0
QuietAt b s = Quiet b (s b)

abbrev pub AllQuiet : Box → List Step → Type 0
AllQuiet b ss = AllOf (QuietAt b) ss

-- ---- all steps
onward : (ss : List Step) {a b : Box} {Q : Type 0} → Within a b → Less a b → Outcome a Q (steps (changed b) ss)
onward [] w l = moves w l
onward (s ∷ ss) {a} {b} {Q} w l = go (λ c. onward ss {a = a} {b = c} {Q = Q}) (act_is (s b) b)
  where
    go : ((c : Box) → Within a c → Less a c → Outcome a Q (steps (changed c) ss)) → {r : Swept} → Outcome b (Quiet b (s b)) r → Outcome a Q (steps (marked r) ss)
    go f ends = rw steps_empty ends
    go f (moves {b'} v m) = f b' (within_trans w v) (λ n e. smaller_within (l n e) v)
    go f (rests h) = f b w l

pub steps_are : (ss : List Step) (b : Box) → Outcome b (AllQuiet b ss) (steps (unchanged b) ss)
steps_are [] b = rests tt
steps_are (s ∷ ss) b = go (steps_are ss b) (act_is (s b) b)
  where
    also : {r : Swept} → Quiet b (s b) → Outcome b (AllQuiet b ss) r → Outcome b (AllQuiet b (s ∷ ss)) r
    also h ends = ends
    also h (moves w l) = moves w l
    also h (rests k) = rests (h, k)

    go : Outcome b (AllQuiet b ss) (steps (unchanged b) ss) → {r : Swept} → Outcome b (Quiet b (s b)) r → Outcome b (AllQuiet b (s ∷ ss)) (steps r ss)
    go f ends = rw steps_empty ends
    go f (moves w l) = onward ss w l
    go f (rests h) = also h f

rested : {b c : Box} {Q : Type 0} {r : Swept} → Outcome b Q r → r ≡ unchanged c → (c ≡ b) × Q
rested ends e = let z : ◌≡◌ {A = ℕ} 0 1 = cc in absurd (omega arith)
rested (moves w l) e = let z : ◌≡◌ {A = ℕ} 0 1 = cc in absurd (omega arith)
rested (rests h) e = (cc, h)

-- ---- a box is still the same only if every step is quiet
pub unchanged_same : (ss : List Step) (b b' : Box) → steps (unchanged b) ss ≡ unchanged b' → b' ≡ b
unchanged_same ss b b' e = (rested (steps_are ss b) e).0

pub unchanged_quiet : (ss : List Step) (b b' : Box) → steps (unchanged b) ss ≡ unchanged b' → AllQuiet b ss
unchanged_quiet ss b b' e = (rested (steps_are ss b) e).1

-- ---- a box that changed
changed_to : {b b' : Box} {Q : Type 0} {r : Swept} → Outcome b Q r → r ≡ changed b' → Within b b' × Less b b'
changed_to ends e = let z : ◌≡◌ {A = ℕ} 0 1 = cc in absurd (omega arith)
changed_to {b} {b'} (moves {b' = c} w l) e = let f : c ≡ b' = cc in (rw f at w, λ n k. rw f at (l n k))
changed_to (rests h) e = let z : ◌≡◌ {A = ℕ} 0 1 = cc in absurd (omega arith)

pub changed_within : (ss : List Step) (b b' : Box) → steps (unchanged b) ss ≡ changed b' → Within b b'
changed_within ss b b' e = (changed_to (steps_are ss b) e).0

pub changed_less : (ss : List Step) (b b' : Box) → steps (unchanged b) ss ≡ changed b' → Less b b'
changed_less ss b b' e = (changed_to (steps_are ss b) e).1

-- ---- a point that every step allows is kept
-- a step allows the point from every box that has it
abbrev pub LosesNone : ℕ → Point → Step → Type 0
LosesNone n p s = (b : Box) → Inside n p b → Allows n p (s b)

module _ (n : ℕ) (p : Point) where
  marked_keeps : (r : Swept) → Keeps n p r → Keeps n p (marked r)
  marked_keeps empty k = k
  marked_keeps (changed b) k = k
  marked_keeps (unchanged b) k = k

  next_keeps : (s : Step) → LosesNone n p s → (r : Swept) → Keeps n p r → Keeps n p (next r s)
  next_keeps s f empty k = k
  next_keeps s f (changed b) k = marked_keeps (act (s b) b) (act_keeps n p (s b) b k (f b k))
  next_keeps s f (unchanged b) k = act_keeps n p (s b) b k (f b k)

  pub steps_keep : (ss : List Step) → AllOf (LosesNone n p) ss → (r : Swept) → Keeps n p r → Keeps n p (steps r ss)
  steps_keep [] fs r k = k
  steps_keep (s ∷ ss) fs r k = steps_keep ss fs.1 (next r s) (next_keeps s fs.0 r k)
