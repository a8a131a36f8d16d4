-- A tree's helpers hold the values of its parts, and no others: each helper's value is fixed by its range or by its primitive from those before it.
use mathlib.Core.Path.{◌≡◌, refl, ap, ap₂, ◌∙◌}
use mathlib.Core.List.{List, [], ◌∷◌, ◌++◌}
use Prim.Native.Nat.{ℕ, ◌+◌}
use native.Mathlib.Omega.{arith}
use native.Mathlib.Nat.{zero-add}
use lib.ListN.{length, length-append}
use lib.IntN.{ℤ, pos, ◌*ℤ◌}
use Rattle.whole.specs.Lists.{AllOf}
use Rattle.whole.specs.Ranges.{Point, In, range, square_span}
use Rattle.whole.specs.declared.Range.{Range}
use Rattle.whole.proofs.Kit.{ints}
use Rattle.whole.proofs.Spans.{square_in}
use Rattle.problem.specs.Problem.{Holds}
use Rattle.problem.specs.declared.Primitive.{Primitive}
use Rattle.problem.specs.declared.Primitive.TheVariants.{Square}
use Rattle.meaning.specs.Plain.{Tree, constant, quantity, binary, square, Asked}
use Rattle.meaning.specs.Translation.{◌⋈◌, span_for, range_of, size_of, place_in, equation, helper, piece_of, gap_of, gaps}
use Rattle.meaning.proofs.Definitions.{sizes, opened}
use Rattle.meaning.proofs.TreeSizes.{piece_length}
use Rattle.meaning.proofs.Elements.{each_at}
use Rattle.meaning.proofs.PlainValues.{result, value, Names}
use Rattle.meaning.proofs.Operations.{operation_in, says, said}
use Rattle.meaning.proofs.Pieces.{Within, Shows, SatisfiesFrom, join, fore, aft, shows_left, shows_right, shows_join}

-- ---- the range of a tree holds its value
module _ (d : List Range) (p : Point) (inside : Within p 0 d) where
  pub value_in : (t : Tree) → Names (length d) t → In (range_of d t) (value p t)
  unfolding opened
  value_in (constant n) u = omega ints
  value_in (quantity q) u = rw zero-add at (each_at (λ q r. In r (p q)) d (range (pos 0) (pos 0)) 0 q u inside)
  value_in (binary o a b) u = operation_in o _ _ _ _ (value_in a u.0) (value_in b u.1)
  value_in (square a) u = square_in _ _ (value_in a u)

-- ---- the values of the helpers, in their order
abbrev pub values : Point → Tree → List ℤ
values p (constant n) = pos n ∷ []
values p (quantity q) = []
values p (binary o a b) = (values p a ++ values p b) ++ (value p (binary o a b) ∷ [])
values p (square a) = values p a ++ (value p (square a) ∷ [])

pub values_length : (p : Point) (t : Tree) → length (values p t) ≡ size_of t
unfolding opened
values_length p (constant n) = refl
values_length p (quantity q) = refl
values_length p (binary o a b) = simp length-append (omega (arith, values_length p a, values_length p b))
values_length p (square a) = simp length-append (omega (arith, values_length p a))

-- where the values, and the ranges, of both operands end
both_values : (p : Point) (k : ℕ) (a b : Tree) → k + length (values p a ++ values p b) ≡ k + (size_of a + size_of b)
both_values p k a b = omega (arith, length-append (values p a) (values p b), values_length p a, values_length p b)

both_ranges : (d : List Range) (k : ℕ) (a b : Tree) → k + length ((piece_of d k a).ranges ++ (piece_of d (k + size_of a) b).ranges) ≡ k + (size_of a + size_of b)
both_ranges d k a b =
    omega (arith, length-append (piece_of d k a).ranges (piece_of d (k + size_of a) b).ranges, piece_length d k a, piece_length d (k + size_of a) b)

-- the value stands at its place
pub at_place : (p : Point) (k : ℕ) (t : Tree) → Shows p k (values p t) → p (place_in k t) ≡ value p t
unfolding opened
at_place p k (constant n) h = h.0
at_place p k (quantity q) h = refl
at_place p k (binary o a b) h = (shows_right p k (values p a ++ values p b) _ (k + (size_of a + size_of b)) (both_values p k a b) h).0
at_place p k (square a) h = (shows_right p k (values p a) _ (k + size_of a) (omega (arith, values_length p a)) h).0

module _ (d : List Range) (p : Point) where
  new : (k : ℕ) (r : Range) (e : Primitive) → In r (p k) → Holds p e → SatisfiesFrom k p (helper r (e ∷ []))
  new k r e h i = record { ranges = (h, tt); primitives = (i, tt); clauses = tt }

  -- values that the helpers have satisfy a tree's piece
  pub tree_there : (inside : Within p 0 d) (k : ℕ) (t : Tree) → Names (length d) t → Shows p k (values p t) → SatisfiesFrom k p (piece_of d k t)
  unfolding opened
  tree_there inside k (constant n) u h =
      record { ranges = (record { above = omega (ints, h.0); below = omega (ints, h.0) }, tt); primitives = tt; clauses = tt }
  tree_there inside k (quantity q) u h = record { ranges = tt; primitives = tt; clauses = tt }
  tree_there inside k (binary o a b) u h =
      let m = k + (size_of a + size_of b) in
      let hab = shows_left p k (values p a ++ values p b) (value p (binary o a b) ∷ []) h in
      let ha = shows_left p k (values p a) (values p b) hab in
      let hb = shows_right p k (values p a) (values p b) (k + size_of a) (omega (arith, values_length p a)) hab in
      let e : p m ≡ value p (binary o a b) = at_place p k (binary o a b) h in
      join p k m _ _ (both_ranges d k a b)
      (join p k (k + size_of a) (piece_of d k a) (piece_of d (k + size_of a) b) (omega (arith, piece_length d k a)) (tree_there inside k a u.0 ha) (tree_there inside (k + size_of a) b u.1 hb))
      (new m (span_for o (range_of d a) (range_of d b)) (equation o m (place_in k a) (place_in (k + size_of a) b))
      (rw e (value_in d p inside (binary o a b) u))
      (said p o m _ _ (rw (at_place p k a ha, at_place p (k + size_of a) b hb) e)))
  tree_there inside k (square a) u h =
      let m = k + size_of a in
      let ha = shows_left p k (values p a) (value p (square a) ∷ []) h in
      let e : p m ≡ value p (square a) = at_place p k (square a) h in
      join p k m (piece_of d k a) _ (omega (arith, piece_length d k a)) (tree_there inside k a u ha)
      (new m (square_span (range_of d a)) (Square m (place_in k a))
      (rw e (value_in d p inside (square a) u)) (rw (at_place p k a ha) e))

  -- and no others do
  pub tree_back : (k : ℕ) (t : Tree) → SatisfiesFrom k p (piece_of d k t) → Shows p k (values p t)
  unfolding opened
  tree_back k (constant n) h = (omega (ints, h.ranges.0), tt)
  tree_back k (quantity q) h = tt
  tree_back k (binary o a b) h =
      let m = k + (size_of a + size_of b) in
      let i = fore p k (piece_of d k a ⋈ piece_of d (k + size_of a) b) _ h in
      let ha = tree_back k a (fore p k (piece_of d k a) (piece_of d (k + size_of a) b) i) in
      let hb = tree_back (k + size_of a) b (aft p k (k + size_of a) (piece_of d k a) (piece_of d (k + size_of a) b) (omega (arith, piece_length d k a)) i) in
      let e = says p o m _ _ (aft p k m (piece_of d k a ⋈ piece_of d (k + size_of a) b) _ (both_ranges d k a b) h).primitives.0 in
      shows_join p k (values p a ++ values p b) (value p (binary o a b) ∷ []) m (both_values p k a b)
      (shows_join p k (values p a) (values p b) (k + size_of a) (omega (arith, values_length p a)) ha hb)
      (e ∙ ap₂ (result o) (at_place p k a ha) (at_place p (k + size_of a) b hb), tt)
  tree_back k (square a) h =
      let m = k + size_of a in
      let ha = tree_back k a (fore p k (piece_of d k a) _ h) in
      let e = (aft p k m (piece_of d k a) _ (omega (arith, piece_length d k a)) h).primitives.0 in
      shows_join p k (values p a) (value p (square a) ∷ []) m (omega (arith, values_length p a)) ha
      (e ∙ ap (λ (z : ℤ). z *ℤ z) (at_place p k a ha), tt)

-- ---- the differences of a rule
abbrev pub gap_values : Point → List Asked → List ℤ
gap_values p [] = []
gap_values p (a ∷ more) = values p (gap_of a) ++ gap_values p more

-- the names of what is asked are those of the first n quantities
abbrev pub Named : ℕ → List Asked → Type 0
Named n asked = AllOf (λ a. Names n (gap_of a)) asked

pub gap_values_length : (p : Point) (asked : List Asked) → length (gap_values p asked) ≡ sizes asked
unfolding sizes
gap_values_length p [] = refl
gap_values_length p (a ∷ more) = omega (arith, length-append (values p (gap_of a)) (gap_values p more), values_length p (gap_of a), gap_values_length p more)

module _ (p : Point) (k : ℕ) (a : Asked) (more : List Asked) where
  pub first_shows : Shows p k (gap_values p (a ∷ more)) → Shows p k (values p (gap_of a))
  first_shows h = shows_left p k (values p (gap_of a)) (gap_values p more) h

  pub rest_shows : Shows p k (gap_values p (a ∷ more)) → Shows p (k + size_of (gap_of a)) (gap_values p more)
  rest_shows h = shows_right p k (values p (gap_of a)) (gap_values p more) (k + size_of (gap_of a)) (omega (arith, values_length p (gap_of a))) h

module _ (d : List Range) (p : Point) where
  pub gaps_there : (inside : Within p 0 d) (k : ℕ) (asked : List Asked) → Named (length d) asked → Shows p k (gap_values p asked) → SatisfiesFrom k p (gaps d k asked)
  unfolding gaps
  gaps_there inside k [] u h = record { ranges = tt; primitives = tt; clauses = tt }
  gaps_there inside k (a ∷ more) u h =
      join p k (k + size_of (gap_of a)) (piece_of d k (gap_of a)) (gaps d (k + size_of (gap_of a)) more) (omega (arith, piece_length d k (gap_of a)))
      (tree_there d p inside k (gap_of a) u.0 (first_shows p k a more h))
      (gaps_there inside (k + size_of (gap_of a)) more u.1 (rest_shows p k a more h))

  pub gaps_back : (k : ℕ) (asked : List Asked) → SatisfiesFrom k p (gaps d k asked) → Shows p k (gap_values p asked)
  unfolding gaps
  gaps_back k [] h = tt
  gaps_back k (a ∷ more) h =
      let m = k + size_of (gap_of a) in
      shows_join p k (values p (gap_of a)) (gap_values p more) m (omega (arith, values_length p (gap_of a)))
      (tree_back d p k (gap_of a) (fore p k (piece_of d k (gap_of a)) (gaps d m more) h))
      (gaps_back m more (aft p k m (piece_of d k (gap_of a)) (gaps d m more) (omega (arith, piece_length d k (gap_of a))) h))
