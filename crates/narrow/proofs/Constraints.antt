-- All primitives and all clauses: the steps of a list are those of its elements, one after the other, so each law is the law of each element.
use mathlib.Core.List.{List, [], ◌∷◌, map}
use Prim.Native.Nat.{ℕ}
use Rattle.whole.specs.Lists.{AllOf, OneOf}
use Rattle.whole.specs.Ranges.{Point}
use Rattle.problem.specs.Problem.{Box, low_at, Holds, True}
use Rattle.problem.specs.declared.Primitive.{Primitive}
use Rattle.problem.specs.declared.Primitive.TheVariants.{Sum, Product, Square}
use Rattle.problem.specs.declared.Literal.{Literal}
use Rattle.narrow.specs.Narrowing.{primitive_steps, clause_step}
use Rattle.narrow.specs.Sweep.{all_steps}
use Rattle.narrow.proofs.Boxes.{Single}
use Rattle.narrow.proofs.Clauses.{clause_sound, clause_point}
use Rattle.narrow.proofs.Lists.{both, left, right}
use Rattle.narrow.proofs.Products.{product_sound, product_point}
use Rattle.narrow.specs.Named.{SitedIn, SitedAll, PlacedAll}
use Rattle.narrow.proofs.Squares.{square_sound, square_point}
use Rattle.narrow.proofs.Steps.{QuietAt, AllQuiet, LosesNone}
use Rattle.narrow.proofs.Sums.{sum_sound, sum_point}

-- ---- a point that meets every primitive and every clause is allowed by every step
module _ (n : ℕ) (p : Point) where
  primitive_sound : (c : Primitive) → SitedIn n c → Holds p c → AllOf (LosesNone n p) (primitive_steps c)
  primitive_sound (Sum z x y) h m = sum_sound n p z x y h m
  primitive_sound (Product z x y) h m = product_sound n p z x y h m
  primitive_sound (Square z x) h m = square_sound n p z x h m

  pub primitives_sound : (ps : List Primitive) → SitedAll n ps → AllOf (Holds p) ps → AllOf (LosesNone n p) (all_steps ps)
  unfolding all_steps
  primitives_sound [] hs ms = tt
  primitives_sound (c ∷ ps) hs ms = both (LosesNone n p) (primitive_steps c) (all_steps ps) (primitive_sound c hs.0 ms.0) (primitives_sound ps hs.1 ms.1)

  pub clauses_sound : (cs : List (List Literal)) → PlacedAll n cs → AllOf (OneOf (True p)) cs → AllOf (LosesNone n p) (map clause_step cs)
  clauses_sound [] hs ms = tt
  clauses_sound (c ∷ cs) hs ms = (clause_sound n p c hs.0 ms.0, clauses_sound cs hs.1 ms.1)

-- ---- quiet at one value each: that point meets every primitive and every clause
primitive_point : (b : Box) → Single b → (c : Primitive) → AllQuiet b (primitive_steps c) → Holds (low_at b) c
primitive_point b o (Sum z x y) h = sum_point b z x y o h.0
primitive_point b o (Product z x y) h = product_point b z x y o h.0
primitive_point b o (Square z x) h = square_point b z x o h.0

pub primitives_point : (b : Box) → Single b → (ps : List Primitive) → AllQuiet b (all_steps ps) → AllOf (Holds (low_at b)) ps
unfolding all_steps
primitives_point b o [] h = tt
primitives_point b o (c ∷ ps) h =
    (primitive_point b o c (left (QuietAt b) (primitive_steps c) (all_steps ps) h), primitives_point b o ps (right (QuietAt b) (primitive_steps c) (all_steps ps) h))

pub clauses_point : (b : Box) → Single b → (cs : List (List Literal)) → AllQuiet b (map clause_step cs) → AllOf (OneOf (True (low_at b))) cs
clauses_point b o [] h = tt
clauses_point b o (c ∷ cs) h = (clause_point b o c h.0, clauses_point b o cs h.1)
