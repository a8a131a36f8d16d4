-- How many helpers, primitives and literals there are: as many helpers as the sizes say, at most as many primitives, at most two literals for each comparison in either clause.
use mathlib.Core.Path.{◌≡◌, refl}
use mathlib.Core.List.{List, [], ◌∷◌}
use Prim.Native.Nat.{ℕ, ◌+◌, ◌*◌, ◌≤◌}
use native.Mathlib.Omega.{arith}
use lib.ListN.{length, length-append}
use Rattle.whole.specs.declared.Range.{Range}
use Rattle.sheet.specs.declared.Sign.{Sign}
use Rattle.sheet.specs.declared.Sign.TheVariants.{AtMost, Below, AtLeast, Above, Equal, Differ}
use Rattle.meaning.specs.Plain.{Tree, constant, quantity, binary, square, Asked}
use Rattle.meaning.specs.Translation.{size_of, place_in, piece_of, gap_of, Turn, first, second, literals_for, equal, equalities, gaps, clause_of}
use Rattle.meaning.proofs.Definitions.{sizes, opened}

-- ---- helpers and primitives
module _ (d : List Range) where
  pub piece_length : (k : ℕ) (t : Tree) → length (piece_of d k t).ranges ≡ size_of t
  unfolding opened
  piece_length k (constant n) = refl
  piece_length k (quantity q) = refl
  piece_length k (binary o a b) = simp length-append (omega (arith, piece_length k a, piece_length (k + size_of a) b))
  piece_length k (square a) = simp length-append (omega (arith, piece_length k a))

  pub piece_primitives : (k : ℕ) (t : Tree) → length (piece_of d k t).primitives ≤ size_of t
  unfolding opened
  piece_primitives k (constant n) = omega arith
  piece_primitives k (quantity q) = omega arith
  piece_primitives k (binary o a b) = simp length-append (omega (arith, piece_primitives k a, piece_primitives (k + size_of a) b))
  piece_primitives k (square a) = simp length-append (omega (arith, piece_primitives k a))

  pub gaps_length : (k : ℕ) (asked : List Asked) → length (gaps d k asked).ranges ≡ sizes asked
  unfolding gaps sizes
  gaps_length k [] = refl
  gaps_length k (a ∷ more) =
      omega (arith, length-append (piece_of d k (gap_of a)).ranges (gaps d (k + size_of (gap_of a)) more).ranges, piece_length k (gap_of a), gaps_length (k + size_of (gap_of a)) more)

  pub gaps_primitives : (k : ℕ) (asked : List Asked) → length (gaps d k asked).primitives ≤ sizes asked
  unfolding gaps sizes
  gaps_primitives k [] = omega arith
  gaps_primitives k (a ∷ more) =
      omega (arith, length-append (piece_of d k (gap_of a)).primitives (gaps d (k + size_of (gap_of a)) more).primitives, piece_primitives k (gap_of a), gaps_primitives (k + size_of (gap_of a)) more)

-- each comparison makes a helper
pub at_least_one : (asked : List Asked) → length asked ≤ sizes asked
unfolding opened
at_least_one [] = omega arith
at_least_one (a ∷ more) = omega (arith, at_least_one more)

-- ---- literals: two for each comparison, but one for an equality demand
literals_few : (t : Turn) (s : Sign) (q : ℕ) → length (literals_for t s q) + equal s ≤ 2
unfolding opened
literals_few t AtMost q = omega arith
literals_few t Below q = omega arith
literals_few t AtLeast q = omega arith
literals_few t Above q = omega arith
literals_few t Equal q = omega arith
literals_few t Differ q = omega arith

pub clause_length : (t : Turn) (k : ℕ) (asked : List Asked) → length (clause_of t k asked) + equalities asked ≤ 2 * length asked
unfolding clause_of equalities
clause_length t k [] = omega arith
clause_length t k (a ∷ more) =
    omega (arith, length-append (literals_for t a.sign (place_in k (gap_of a))) (clause_of t (k + size_of (gap_of a)) more), literals_few t a.sign (place_in k (gap_of a)), clause_length t (k + size_of (gap_of a)) more)

pub clause_few : (t : Turn) (k : ℕ) (asked : List Asked) → length (clause_of t k asked) ≤ 2 * sizes asked
clause_few t k asked = omega (arith, clause_length t k asked, at_least_one asked)

-- in either clause as many
pub literals_alike : (s : Sign) (q r : ℕ) → length (literals_for first s q) ≡ length (literals_for second s r)
unfolding literals_for
literals_alike AtMost q r = refl
literals_alike Below q r = refl
literals_alike AtLeast q r = refl
literals_alike Above q r = refl
literals_alike Equal q r = refl
literals_alike Differ q r = refl
