-- A sweep is one list of steps, so it has the laws of steps: each primitive and each clause gives its own part of the list.
use mathlib.Core.Path.{◌≡◌}
use mathlib.Core.List.{List, map}
use Prim.Native.Nat.{ℕ, ◌*◌, ◌<◌}
use native.Mathlib.Decide.{dec_lt}
use native.Mathlib.Omega.{arith}
use lib.ListN.{length}
use lib.Signed.{◌≤ℤ◌}
use Rattle.whole.proofs.Kit.{ints}
use Rattle.whole.specs.Lists.{AllOf, OneOf}
use Rattle.whole.specs.Ranges.{Point}
use Rattle.problem.specs.Problem.{Box, low_at, high_at, Inside, Holds, True}
use Rattle.problem.specs.declared.Primitive.{Primitive}
use Rattle.problem.specs.declared.Literal.{Literal}
use Rattle.narrow.specs.Cuts.{Swept, empty, changed, unchanged, steps}
use Rattle.narrow.specs.Narrowing.{clause_step}
use Rattle.narrow.specs.Sweep.{all_steps, sweep_steps, sweep_of}
use Rattle.narrow.specs.Parts.{Part, Smaller}
use Rattle.narrow.specs.Named.{SitedAll, PlacedAll}
use Rattle.narrow.proofs.Boxes.{low_none, high_none, Single}
use Rattle.narrow.proofs.Constraints.{primitives_sound, clauses_sound, primitives_point, clauses_point}
use Rattle.narrow.proofs.Cuts.{Keeps}
use Rattle.narrow.proofs.Lists.{both, left, right}
use Rattle.narrow.proofs.Steps.{QuietAt, AllQuiet, unchanged_same, unchanged_quiet, changed_within, changed_less, LosesNone, steps_keep}

-- ---- a box of n ranges reads as 0 beyond them
module _ (n : ℕ) (b : Box) (long : length b ≡ 2 * n) where
  single_all : ((q : ℕ) → q < n → low_at b q ≡ high_at b q) → Single b
  single_all f q = go (dec_lt q n)
    where
      go : Dec (q < n) → low_at b q ≡ high_at b q
      go (yes h) = f q h
      go (no h) = omega (ints, low_none b q (omega arith), high_none b q (omega arith))

-- ---- a changed box
module _ (n : ℕ) (ps : List Primitive) (cs : List (List Literal)) (b : Box) (long : length b ≡ 2 * n) where
  pub sweep_shrinks : ((q : ℕ) → q < n → low_at b q ≤ℤ high_at b q) → (b' : Box) → sweep_of ps cs b ≡ changed b' → Part n b b'
  unfolding sweep_of
  sweep_shrinks f b' e =
      let w = changed_within (sweep_steps ps cs) b b' e in
      record { long = omega (arith, w.long); low = λ q h. w.low q; filled = λ q h. w.filled q (f q h); high = λ q h. w.high q }

  pub sweep_smaller : (b' : Box) → sweep_of ps cs b ≡ changed b' → Smaller n b b'
  unfolding sweep_of
  sweep_smaller b' e = changed_less (sweep_steps ps cs) b b' e n long

-- ---- unchanged only if every step is quiet
module _ (ps : List Primitive) (cs : List (List Literal)) (b b' : Box) (e : sweep_of ps cs b ≡ unchanged b') where
  pub sweep_quiet : AllQuiet b (sweep_steps ps cs)
  unfolding sweep_of
  sweep_quiet = unchanged_quiet (sweep_steps ps cs) b b' e

  -- a box in which nothing changed is as it was
  pub sweep_same : b' ≡ b
  unfolding sweep_of
  sweep_same = unchanged_same (sweep_steps ps cs) b b' e

-- ---- an unchanged box of one value each: that point meets every primitive and every clause
pub sweep_settled : (n : ℕ) (ps : List Primitive) (cs : List (List Literal)) (b b' : Box) → length b ≡ 2 * n → ((q : ℕ) → q < n → low_at b q ≡ high_at b q) → sweep_of ps cs b ≡ unchanged b'
    → AllOf (Holds (low_at b)) ps × AllOf (OneOf (True (low_at b))) cs
sweep_settled n ps cs b b' long f e =
    let o = single_all n b long f in
    let h = sweep_quiet ps cs b b' e in
    (primitives_point b o ps (left (QuietAt b) (all_steps ps) (map clause_step cs) h), clauses_point b o cs (right (QuietAt b) (all_steps ps) (map clause_step cs) h))

-- ---- a point of the box that meets every primitive and every clause is kept
module _ (n : ℕ) (p : Point) (ps : List Primitive) (cs : List (List Literal)) (sited : SitedAll n ps) (placed : PlacedAll n cs) (b : Box) (i : Inside n p b) (ms : AllOf (Holds p) ps) (ns : AllOf (OneOf (True p)) cs) where
  kept : Keeps n p (steps (unchanged b) (sweep_steps ps cs))
  kept = steps_keep n p (sweep_steps ps cs) (both (LosesNone n p) (all_steps ps) (map clause_step cs) (primitives_sound n p ps sited ms) (clauses_sound n p cs placed ns)) (unchanged b) i

  pub sweep_some : sweep_of ps cs b ≡ empty → ⊥
  unfolding sweep_of
  sweep_some e = go (steps (unchanged b) (sweep_steps ps cs)) kept e
    where
      go : (r : Swept) → Keeps n p r → r ≡ empty → ⊥
      go empty k e = k
      go (changed c) k e = let z : ◌≡◌ {A = ℕ} 0 1 = cc in omega arith
      go (unchanged c) k e = let z : ◌≡◌ {A = ℕ} 0 1 = cc in omega arith

  pub sweep_inside : (b' : Box) → sweep_of ps cs b ≡ changed b' → Inside n p b'
  unfolding sweep_of
  sweep_inside b' e = rw e at kept
