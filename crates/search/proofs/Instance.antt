-- The laws that the search asks for hold of document 01's sweep and of the lowest open quantity, over a problem that was judged sound: the
-- choice goes by its own laws, the sweep's laws are narrow's, and a problem that was judged names only quantities that it has.
use mathlib.Core.Path.{◌≡◌, refl}
use mathlib.Core.Bool.{Bool, true, false, cond, ◌||◌}
use mathlib.Core.List.{List, [], ◌∷◌}
use Prim.Native.Nat.{ℕ, zero, suc, ◌<◌}
use native.Mathlib.Omega.{arith}
use lib.ListN.{take, drop}
use lib.IntN.{ℤ, pos, nat_abs}
use lib.Signed.{lt_z, le_z}
use Rattle.whole.specs.Lists.{AllOf, OneOf}
use Rattle.whole.specs.Ranges.{Point}
use Rattle.whole.proofs.Kit.{ints}
use Rattle.problem.specs.Problem.{Box, quantities, Inside, Holds, True}
use Rattle.problem.specs.Lists.{primitive_of, primitives_of, literal_of, literals_of, clauses_of}
use Rattle.problem.specs.Grounds.{differ, missing, bad_primitive, bad_primitives, bad_literal, bad_literals}
use Rattle.problem.specs.declared.Primitive.{Primitive}
use Rattle.problem.specs.declared.Primitive.TheVariants.{Sum, Product, Square}
use Rattle.problem.specs.declared.Literal.{Literal}
use Rattle.problem.specs.declared.Literal.TheVariants.{AtMost, AtLeast}
use Rattle.problem.proofs.Placing.{present}
use Rattle.problem.proofs.Tests.{or_first, or_second}
use Rattle.narrow.specs.Cuts.{Swept, empty, changed, unchanged}
use Rattle.narrow.specs.Sweep.{sweep_of}
use Rattle.narrow.specs.Named.{quantity_of, SitedIn, SitedAll, PlacedIn, PlacedAll}
use Rattle.narrow.proofs.SweepLaws.{sweep_shrinks, sweep_smaller, sweep_settled, sweep_some, sweep_inside}
use Rattle.narrow.specs.Parts.{Part}
use Rattle.search.specs.Search.{lowest}
use Rattle.search.specs.inner.Laws.{Shrinks, Stays, Lawful, Ending, Lossless, Ordered}
use Rattle.search.specs.inner.Ready.{Started}
use Rattle.search.proofs.Splits.{part_self}
use Rattle.search.proofs.Choice.{lowest_leads, lowest_wide, lowest_first, lowest_closed}
use Rattle.search.proofs.Judged.{Judges}

-- ---- the starting box has no empty range
pub start_part : {rs : List ℤ} → Started rs → Part (quantities rs) rs rs
start_part s = record { long = s.long; low = λ q h. omega ints; filled = λ q h. (s.good q h).ordered; high = λ q h. omega ints }

-- ---- the quantities of primitives and of clauses
module _ (n : ℕ) where
  sited : (k z x y : ℤ) → bad_primitive n k z x y ≡ false → SitedIn n (primitive_of k z x y)
  sited k z x y e =
      let a = or_second (lt_z k (pos 1) || lt_z (pos 3) k) _ e in
      let b = or_second (missing n z) _ a in
      by (present n z (or_first (missing n z) _ a)).1 (present n x (or_first (missing n x) _ b)).1 (le_z k (pos 1)) refl (le_z k (pos 2)) refl (or_second (missing n x) _ b)
    where
      by : nat_abs z < n → nat_abs x < n → (s : Bool) → le_z k (pos 1) ≡ s → (t : Bool) → le_z k (pos 2) ≡ t → cond t (missing n y) (differ y (pos 0)) ≡ false
          → SitedIn n (cond s (Sum (nat_abs z) (nat_abs x) (nat_abs y)) (cond t (Product (nat_abs z) (nat_abs x) (nat_abs y)) (Square (nat_abs z) (nat_abs x))))
      by a b true e true f c = (a, (b, (present n y c).1))
      by a b true e false f c = absurd (omega ints)
      by a b false e true f c = (a, (b, (present n y c).1))
      by a b false e false f c = (a, b)

  sited_all : (ps : List ℤ) → bad_primitives n ps ≡ false → SitedAll n (primitives_of ps)
  unfolding bad_primitives primitives_of
  sited_all [] e = tt
  sited_all (k ∷ []) e = tt
  sited_all (k ∷ (z ∷ [])) e = tt
  sited_all (k ∷ (z ∷ (x ∷ []))) e = tt
  sited_all (k ∷ (z ∷ (x ∷ (y ∷ ps)))) e = (sited k z x y (or_first (bad_primitive n k z x y) _ e), sited_all ps (or_second (bad_primitive n k z x y) _ e))

  placed : (q s c : ℤ) → bad_literal n q s c ≡ false → quantity_of (literal_of q s c) < n
  placed q s c e = by (le_z s (pos 0)) (present n q (or_first (missing n q) _ e)).1
    where
      by : (t : Bool) → nat_abs q < n → quantity_of (cond t (AtMost (nat_abs q) c) (AtLeast (nat_abs q) c)) < n
      by true h = h
      by false h = h

  placed_in : (ls : List ℤ) → bad_literals n ls ≡ false → PlacedIn n (literals_of ls)
  unfolding bad_literals literals_of
  placed_in [] e = tt
  placed_in (q ∷ []) e = tt
  placed_in (q ∷ (s ∷ [])) e = tt
  placed_in (q ∷ (s ∷ (c ∷ ls))) e = (placed q s c (or_first (bad_literal n q s c) _ e), placed_in ls (or_second (bad_literal n q s c) _ e))

  placed_take : (k : ℕ) (ls : List Literal) → PlacedIn n ls → PlacedIn n (take k ls)
  placed_take zero ls h = tt
  placed_take (suc k) [] h = tt
  placed_take (suc k) (l ∷ ls) h = (h.0, placed_take k ls h.1)

  placed_drop : (k : ℕ) (ls : List Literal) → PlacedIn n ls → PlacedIn n (drop k ls)
  placed_drop zero ls h = h
  placed_drop (suc k) [] h = h
  placed_drop (suc k) (l ∷ ls) h = placed_drop k ls h.1

  placed_all : (ns : List ℤ) (ls : List Literal) → PlacedIn n ls → PlacedAll n (clauses_of ns ls)
  unfolding clauses_of
  placed_all [] ls h = tt
  placed_all (k ∷ ns) ls h = (placed_take (nat_abs k) ls h, placed_all ns (drop (nat_abs k) ls) (placed_drop (nat_abs k) ls h))

-- ---- the laws
-- the equations and the clauses of a problem hold at a point
abbrev pub Meets : List Primitive → List (List Literal) → Point → Type 0
Meets ps cs p = AllOf (Holds p) ps × AllOf (OneOf (True p)) cs

module _ (rs ps ns ls : List ℤ) (j : Judges rs ps ns ls) where
  abbrev n : ℕ
  n = quantities rs

  abbrev prims : List Primitive
  prims = primitives_of ps

  abbrev clauses : List (List Literal)
  clauses = clauses_of ns (literals_of ls)

  shrinks : (b : Box) → Part n rs b → Shrinks n b (sweep_of prims clauses b)
  shrinks b f = by (sweep_of prims clauses b) refl
    where
      by : (s : Swept) → sweep_of prims clauses b ≡ s → Shrinks n b s
      by empty e = tt
      by (changed c) e = sweep_shrinks n prims clauses b f.long f.filled c e
      by (unchanged c) e = tt

  keeps : (b : Box) → Part n rs b → (p : Point) → Inside n p b → Meets prims clauses p → Stays n p (sweep_of prims clauses b)
  keeps b f p i m = by (sweep_of prims clauses b) refl
    where
      sites : SitedAll n prims
      sites = sited_all n ps j.placed.primitives

      places : PlacedAll n clauses
      places = placed_all n ns (literals_of ls) (placed_in n ls j.placed.literals)

      by : (s : Swept) → sweep_of prims clauses b ≡ s → Stays n p s
      by empty e = sweep_some n p prims clauses sites places b i m.0 m.1 e
      by (changed c) e = sweep_inside n p prims clauses sites places b i m.0 m.1 c e
      by (unchanged c) e = tt

  pub sweep_lawful : Lawful (sweep_of (primitives_of ps) (clauses_of ns (literals_of ls))) (lowest (quantities rs)) (quantities rs) (quantities rs) rs
  sweep_lawful =
      record {
        shrinks = shrinks;
        leads = λ b b' q f e g. lowest_leads (part_self f) q g;
        wide = λ b b' q f e g. lowest_wide (part_self f) q g;
        leading = omega arith;
      }

  pub sweep_ending : Ending (sweep_of (primitives_of ps) (clauses_of ns (literals_of ls))) (quantities rs) rs
  sweep_ending = record { smaller = λ b b' f e. sweep_smaller n prims clauses b f.long b' e }

  pub sweep_sound : Lossless (sweep_of (primitives_of ps) (clauses_of ns (literals_of ls))) (quantities rs) rs (Meets (primitives_of ps) (clauses_of ns (literals_of ls)))
  sweep_sound = record { keeps = keeps }

  pub sweep_ordered : Ordered (sweep_of (primitives_of ps) (clauses_of ns (literals_of ls))) (lowest (quantities rs)) (quantities rs) rs (Meets (primitives_of ps) (clauses_of ns (literals_of ls)))
  sweep_ordered =
      record {
        first = λ b b' q f e g. lowest_first (part_self f) q g;
        settled = λ b b' f e g. sweep_settled n prims clauses b b' f.long (lowest_closed (part_self f) g) e;
      }
