-- A rule's piece: its helpers hold the differences of what it asks, and its clauses say that one of these things is so.
use mathlib.Core.Path.{◌≡◌, refl}
use mathlib.Core.List.{List, []}
use Prim.Native.Nat.{ℕ, ◌+◌, ◌≤◌}
use native.Mathlib.Omega.{arith}
use lib.ListN.{length, length-append}
use Rattle.whole.specs.Lists.{AllOf, OneOf}
use Rattle.whole.specs.Ranges.{Point, In}
use Rattle.whole.specs.declared.Range.{Range}
use Rattle.problem.specs.Problem.{Holds}
use Rattle.meaning.specs.Plain.{Asked}
use Rattle.meaning.specs.Translation.{gaps, first, second, equalities, rule_of}
use Rattle.meaning.proofs.Definitions.{sizes, opened}
use Rattle.meaning.proofs.TreeSizes.{gaps_length}
use Rattle.meaning.proofs.Elements.{all_join, each_join}
use Rattle.meaning.proofs.Pieces.{Within, Shows, SatisfiesFrom, join, fore, aft}
use Rattle.meaning.proofs.TreeValues.{gap_values, Named, gaps_there, gaps_back}
use Rattle.meaning.proofs.RuleClauses.{Answers, clause_there, turns_back, turns_there}

-- ---- one rule, whatever stands before it
pub rule_size : (d : List Range) (k : ℕ) (asked : List Asked) → length (rule_of d k asked).ranges ≡ sizes asked
unfolding rule_of
rule_size d k asked = omega (arith, length-append (gaps d k asked).ranges [], gaps_length d k asked)

module _ (d : List Range) (p : Point) where
  -- its helpers, whether or not it is met
  pub rule_helped : Within p 0 d → (k : ℕ) (asked : List Asked) → Named (length d) asked → Shows p k (gap_values p asked) → Within p k (rule_of d k asked).ranges × AllOf (Holds p) (rule_of d k asked).primitives
  unfolding rule_of
  rule_helped inside k asked u h =
      let g = gaps_there d p inside k asked u h in (
        each_join (λ q r. In r (p q)) (gaps d k asked).ranges [] k (k + length (gaps d k asked).ranges) refl g.ranges tt,
        all_join (Holds p) (gaps d k asked).primitives [] g.primitives tt,
      )

  pub rule_there : Within p 0 d → (k : ℕ) (asked : List Asked) → Named (length d) asked → Shows p k (gap_values p asked) → OneOf (Answers p) asked → SatisfiesFrom k p (rule_of d k asked)
  unfolding opened
  rule_there inside k asked u h o =
      join p k (k + length (gaps d k asked).ranges) (gaps d k asked) _ refl (gaps_there d p inside k asked u h)
      (record {
        ranges = tt;
        primitives = tt;
        clauses = turns_there p (equalities asked) _ _ (clause_there p first k asked h o) (clause_there p second k asked h o);
      })

  pub rule_back : (k : ℕ) (asked : List Asked) → equalities asked ≤ 1 → SatisfiesFrom k p (rule_of d k asked) → Shows p k (gap_values p asked) × OneOf (Answers p) asked
  unfolding opened
  rule_back k asked l i =
      let h = gaps_back d p k asked (fore p k (gaps d k asked) _ i) in
      (h, turns_back p (equalities asked) k asked refl l h (aft p k (k + length (gaps d k asked).ranges) (gaps d k asked) _ refl i).clauses)
