-- Pieces of a problem: a point satisfies two pieces in a row exactly if it satisfies both, the second numbered on from the first.
use mathlib.Core.Path.{◌≡◌}
use mathlib.Core.List.{List, ◌++◌}
use Prim.Native.Nat.{ℕ, ◌+◌}
use lib.ListN.{length}
use lib.IntN.{ℤ}
use Rattle.whole.specs.Lists.{AllOf, OneOf}
use Rattle.whole.specs.Ranges.{Point, In}
use Rattle.whole.specs.declared.Range.{Range}
use Rattle.problem.specs.Problem.{Holds, True}
use Rattle.meaning.specs.Translation.{Piece, ◌⋈◌}
use Rattle.meaning.proofs.Elements.{Each, all_join, all_left, all_right, each_join, each_left, each_right}

-- each value is in its range, the quantities being numbered from k
abbrev pub Within : Point → ℕ → List Range → Type 0
Within p k rs = Each (λ q r. In r (p q)) k rs

-- from number k on, p has the values of a list
abbrev pub Shows : Point → ℕ → List ℤ → Type 0
Shows p k zs = Each (λ q z. p q ≡ z) k zs

-- a point satisfies a piece whose helpers are numbered from k
pub record SatisfiesFrom (k : ℕ) (p : Point) (b : Piece) : Type 0 where
  pub ranges : Within p k b.ranges
  pub primitives : AllOf (Holds p) b.primitives
  pub clauses : AllOf (OneOf (True p)) b.clauses

module _ (p : Point) (k : ℕ) where
  pub join : (m : ℕ) (a b : Piece) → k + length a.ranges ≡ m → SatisfiesFrom k p a → SatisfiesFrom m p b → SatisfiesFrom k p (a ⋈ b)
  join m a b e h i =
      record {
        ranges = each_join (λ q r. In r (p q)) a.ranges b.ranges k m e h.ranges i.ranges;
        primitives = all_join (Holds p) a.primitives b.primitives h.primitives i.primitives;
        clauses = all_join (OneOf (True p)) a.clauses b.clauses h.clauses i.clauses;
      }

  pub fore : (a b : Piece) → SatisfiesFrom k p (a ⋈ b) → SatisfiesFrom k p a
  fore a b h =
      record {
        ranges = each_left (λ q r. In r (p q)) a.ranges b.ranges k h.ranges;
        primitives = all_left (Holds p) a.primitives b.primitives h.primitives;
        clauses = all_left (OneOf (True p)) a.clauses b.clauses h.clauses;
      }

  pub aft : (m : ℕ) (a b : Piece) → k + length a.ranges ≡ m → SatisfiesFrom k p (a ⋈ b) → SatisfiesFrom m p b
  aft m a b e h =
      record {
        ranges = each_right (λ q r. In r (p q)) a.ranges b.ranges k m e h.ranges;
        primitives = all_right (Holds p) a.primitives b.primitives h.primitives;
        clauses = all_right (OneOf (True p)) a.clauses b.clauses h.clauses;
      }

  pub shows_left : (xs ys : List ℤ) → Shows p k (xs ++ ys) → Shows p k xs
  shows_left xs ys = each_left (λ q z. p q ≡ z) xs ys k

  pub shows_right : (xs ys : List ℤ) (m : ℕ) → k + length xs ≡ m → Shows p k (xs ++ ys) → Shows p m ys
  shows_right xs ys m = each_right (λ q z. p q ≡ z) xs ys k m

  pub shows_join : (xs ys : List ℤ) (m : ℕ) → k + length xs ≡ m → Shows p k xs → Shows p m ys → Shows p k (xs ++ ys)
  shows_join xs ys m = each_join (λ q z. p q ≡ z) xs ys k m
