-- Every helper is one value or the result of a primitive over lower-numbered quantities: a number's is one value, an operation's is made by the operation's own primitive, whose operands are declared or made before it.
use mathlib.Core.Path.{◌≡◌, refl}
use mathlib.Core.Bool.{true}
use mathlib.Core.Logic.{◌⊎◌, inl, inr}
use mathlib.Core.List.{List, [], ◌∷◌, ◌++◌}
use Prim.Native.Nat.{ℕ, ◌+◌, ◌<◌, ◌≤◌}
use native.Mathlib.Omega.{arith}
use borrow.Author.Tests.{lt-ltb, eq-eqb, ne_eqb}
use lib.ListN.{length, length-append}
use lib.Signed.{◌≤ℤ◌}
use Rattle.whole.specs.Lists.{OneOf}
use Rattle.whole.specs.declared.Range.{Range}
use Rattle.whole.proofs.Kit.{ints}
use Rattle.problem.specs.Leading.{makes}
use Rattle.problem.specs.declared.Primitive.{Primitive}
use Rattle.problem.specs.declared.Primitive.TheVariants.{Sum, Square}
use Rattle.meaning.specs.Plain.{Operation, sum, difference, product, Tree, constant, quantity, binary, square, Asked}
use Rattle.meaning.specs.Translation.{Piece, ◌⋈◌, helper, size_of, place_in, equation, piece_of, gap_of, gaps, rule_of}
use Rattle.meaning.proofs.Definitions.{opened}
use Rattle.meaning.proofs.Elements.{Each, one_left, one_right, each_join, each_map}
use Rattle.meaning.proofs.PlainValues.{Names}
use Rattle.meaning.proofs.TreeValues.{Named}
use Rattle.meaning.proofs.TreeSizes.{piece_length}
use Rattle.meaning.proofs.NamedQuantities.{place_known}
use Rattle.meaning.proofs.DefinitionSteps.{rule_ranges, rule_primitives}

-- a quantity with its number: its range is one value, or one of these primitives makes it
abbrev pub Defined : List Primitive → ℕ → Range → Type 0
Defined ps q r = (r.high ≤ℤ r.low) ⊎ OneOf (λ e. makes e q ≡ true) ps

-- each helper of a piece, the first being number k
abbrev pub AllDefined : ℕ → Piece → Type 0
AllDefined k b = Each (Defined b.primitives) k b.ranges

-- ---- pieces in a row: more primitives take nothing away
module _ (xs ys : List Primitive) (q : ℕ) (r : Range) where
  defined_left : Defined xs q r → Defined (xs ++ ys) q r
  defined_left (inl h) = inl h
  defined_left (inr h) = inr (one_left (λ e. makes e q ≡ true) xs ys h)

  defined_right : Defined ys q r → Defined (xs ++ ys) q r
  defined_right (inl h) = inl h
  defined_right (inr h) = inr (one_right (λ e. makes e q ≡ true) xs ys h)

pub defined_join : (k m : ℕ) (a b : Piece) → k + length a.ranges ≡ m → AllDefined k a → AllDefined m b → AllDefined k (a ⋈ b)
defined_join k m a b e h i =
    let ps = a.primitives in
    let qs = b.primitives in
    each_join (Defined (ps ++ qs)) a.ranges b.ranges k m e
    (each_map (Defined ps) (Defined (ps ++ qs)) a.ranges k m (omega arith) (λ q r l. defined_left ps qs q r) h)
    (each_map (Defined qs) (Defined (ps ++ qs)) b.ranges m (m + length b.ranges) (omega arith) (λ q r l. defined_right ps qs q r) i)

-- a helper more, with a primitive that makes it
helper_more : (k q : ℕ) (a : Piece) (r : Range) (e : Primitive) → k + length a.ranges ≡ q → AllDefined k a → makes e q ≡ true → AllDefined k (a ⋈ helper r (e ∷ []))
helper_more k q a r e l h m = defined_join k q a (helper r (e ∷ [])) l h (inr (inl m), tt)

-- ---- what an operation's primitive makes: its helper h, the operands x and y being lower-numbered
sum_makes_first : (z h y : ℕ) → z < h → y < h → makes (Sum z h y) h ≡ true
sum_makes_first z h y i j = rw (ne_eqb z h (λ e. omega arith), eq-eqb h h refl, lt-ltb z h i, lt-ltb y h j)

equation_makes : (h x y : ℕ) (o : Operation) → x < h → y < h → makes (equation o h x y) h ≡ true
unfolding equation
equation_makes h x y sum i j = rw (eq-eqb h h refl, lt-ltb x h i, lt-ltb y h j)
equation_makes h x y difference i j = sum_makes_first x h y i j
equation_makes h x y product i j = rw (eq-eqb h h refl, lt-ltb x h i, lt-ltb y h j)

square_makes : (h x : ℕ) → x < h → makes (Square h x) h ≡ true
square_makes h x i = rw (eq-eqb h h refl, lt-ltb x h i)

-- ---- n declared quantities, and k at least n
module _ (d : List Range) (n : ℕ) where
  piece_defined : (k : ℕ) (t : Tree) → n ≤ k → Names n t → AllDefined k (piece_of d k t)
  unfolding opened
  piece_defined k (constant i) h u = (inl (omega ints), tt)
  piece_defined k (quantity q) h u = tt
  piece_defined k (binary o a b) h u =
      let m = k + size_of a in
      let q = k + (size_of a + size_of b) in
      let x = piece_of d k a in
      let y = piece_of d m b in
      helper_more k q (x ⋈ y) _ _ (omega (arith, length-append x.ranges y.ranges, piece_length d k a, piece_length d m b))
      (defined_join k m x y (omega (arith, piece_length d k a)) (piece_defined k a h u.0) (piece_defined m b (omega arith) u.1))
      (equation_makes q (place_in k a) (place_in m b) o (place_known n q k a h (omega arith) (omega arith) u.0) (place_known n q m b (omega arith) (omega arith) (omega arith) u.1))
  piece_defined k (square a) h u =
      let q = k + size_of a in
      helper_more k q (piece_of d k a) _ _ (omega (arith, piece_length d k a)) (piece_defined k a h u)
      (square_makes q (place_in k a) (place_known n q k a h (omega arith) (omega arith) u))

  gaps_defined : (k : ℕ) (asked : List Asked) → n ≤ k → Named n asked → AllDefined k (gaps d k asked)
  unfolding gaps
  gaps_defined k [] h u = tt
  gaps_defined k (a ∷ more) h u =
      let m = k + size_of (gap_of a) in
      defined_join k m (piece_of d k (gap_of a)) (gaps d m more) (omega (arith, piece_length d k (gap_of a))) (piece_defined k (gap_of a) h u.0) (gaps_defined m more (omega arith) u.1)

  pub rule_defined : (k : ℕ) (asked : List Asked) → n ≤ k → Named n asked → AllDefined k (rule_of d k asked)
  rule_defined k asked h u = rw (rule_primitives d k asked, rule_ranges d k asked) (gaps_defined k asked h u)
