-- A sheet with one rule more: what it made before, then the rule's helpers, primitives and clauses. A comparison makes at least one helper, and at most
-- one primitive for each helper and two literals in each of at most two clauses; so as long as the helpers have room, all have.
use mathlib.Core.Path.{◌≡◌, refl, ap, ◌∙◌}
use mathlib.Core.Bool.{true≢false}
use mathlib.Core.List.{List, [], ◌∷◌, ◌++◌, append-nil}
use Prim.Native.Nat.{ℕ, zero, suc, ◌+◌, ◌≤◌}
use native.Mathlib.Omega.{arith}
use lib.ListN.{length, length-append}
use Rattle.whole.specs.Lists.{AllOf}
use Rattle.whole.specs.inner.Held.{Good}
use Rattle.whole.specs.declared.Range.{Range}
use Rattle.problem.specs.declared.Primitive.{Primitive}
use Rattle.problem.specs.declared.Literal.{Literal}
use Rattle.sheet.specs.Grammar.{Line, ranged, default, must, when}
use Rattle.meaning.specs.Plain.{Asked, asks_of}
use Rattle.meaning.specs.Translation.{Piece, size_of, first, second, equalities, gaps, clause_of, one_or_two, rule_of}
use Rattle.meaning.specs.Lists.{literals_in}
use Rattle.meaning.specs.Draft.{Draft, quantities_in, declare, rule, after}
pub use Rattle.lines.specs.inner.Stored.{Proper}
use Rattle.meaning.proofs.FlatLists.{literals_in_append}
use Rattle.lines.proofs.Flags.{IsRule}
use Rattle.meaning.proofs.Definitions.{sizes}
use Rattle.meaning.proofs.DefinitionSteps.{gaps_clauses}
use Rattle.meaning.proofs.TreeSizes.{gaps_length, gaps_primitives, clause_few}

-- ---- a rule more
-- what the rule asks for, its helpers, and its one or two clauses
abbrev pub asked : Draft → Line → List Asked
asked s x = asks_of s.names x

abbrev pub added : Draft → Line → Piece
added s x = gaps s.declared (quantities_in s) (asked s x)

abbrev pub first_of : Draft → Line → List Literal
first_of s x = clause_of first (quantities_in s) (asked s x)

abbrev pub second_of : Draft → Line → List Literal
second_of s x = clause_of second (quantities_in s) (asked s x)

module _ (s : Draft) (x : Line) where
  pub rule_ranges : (rule s x).made.ranges ≡ s.made.ranges ++ (added s x).ranges
  unfolding rule_of
  rule_ranges = ap (λ (l : List Range). s.made.ranges ++ l) (append-nil (added s x).ranges)

  pub rule_primitives : (rule s x).made.primitives ≡ s.made.primitives ++ (added s x).primitives
  unfolding rule_of
  rule_primitives = ap (λ (l : List Primitive). s.made.primitives ++ l) (append-nil (added s x).primitives)

  pub rule_clauses : (rule s x).made.clauses ≡ s.made.clauses ++ one_or_two (equalities (asked s x)) (first_of s x) (second_of s x)
  unfolding rule_of
  rule_clauses = ap (λ (l : List (List Literal)). s.made.clauses ++ (l ++ one_or_two (equalities (asked s x)) (first_of s x) (second_of s x))) (gaps_clauses s.declared (quantities_in s) (asked s x))

  pub rule_helpers : length (rule s x).made.ranges ≡ length s.made.ranges + sizes (asked s x)
  rule_helpers = ap length rule_ranges ∙ omega (arith, length-append s.made.ranges (added s x).ranges, gaps_length s.declared (quantities_in s) (asked s x))

  pub rule_quantities : quantities_in (rule s x) ≡ quantities_in s + sizes (asked s x)
  rule_quantities = omega (arith, rule_helpers)

pub after_rule : (top : ℕ) (s : Draft) (x : Line) → IsRule x → after top s x ≡ rule s x
unfolding after
after_rule top s (ranged n low high) r = absurd r
after_rule top s (default n) r = absurd r
after_rule top s (must d ds) r = refl
after_rule top s (when c cs d ds) r = refl

-- ---- a rule asks for something
pub some_size : (s : Draft) (x : Line) → IsRule x → 1 ≤ sizes (asked s x)
unfolding asks_of sizes size_of
some_size s (ranged n low high) r = absurd r
some_size s (default n) r = absurd r
some_size s (must d ds) r = omega arith
some_size s (when c cs d ds) r = omega arith

one_or_two_lem : (n : ℕ) (a b : List Literal) → length (one_or_two n a b) ≤ 2
unfolding one_or_two
one_or_two_lem zero a b = omega arith
one_or_two_lem (suc n) a b = omega arith

literals_of_lem : (n : ℕ) (a b : List Literal) → length (literals_in (one_or_two n a b)) ≤ length a + length b
unfolding one_or_two literals_in
literals_of_lem zero a b = omega (arith, length-append a [])
literals_of_lem (suc n) a b = omega (arith, length-append a (b ++ []), length-append b [])

-- ---- what every sheet that is read has
good_more : (ds : List Range) (r : Range) → AllOf Good ds → Good r → AllOf Good (ds ++ (r ∷ []))
good_more [] r h g = (g, tt)
good_more (d ∷ ds) r h g = (h.0, good_more ds r h.1 g)

pub proper_declare : (s : Draft) (n : ℕ) (r : Range) → Proper s → Good r → Proper (declare s n r)
proper_declare s n r p g =
    record { good = good_more s.declared r p.good g; primitives = p.primitives; clauses = p.clauses; literals = p.literals; unruled = p.unruled }

pub proper_rule : (s : Draft) (x : Line) → IsRule x → Proper s → Proper (rule s x)
proper_rule s x r p =
    let h = rule_helpers s x in
    let c = one_or_two (equalities (asked s x)) (first_of s x) (second_of s x) in
    record {
      good = p.good;
      primitives = omega (
        arith,
        p.primitives,
        ap length (rule_primitives s x),
        length-append s.made.primitives (added s x).primitives,
        gaps_primitives s.declared (quantities_in s) (asked s x),
      );
      clauses = omega (
        arith,
        p.clauses,
        ap length (rule_clauses s x),
        length-append s.made.clauses c,
        one_or_two_lem (equalities (asked s x)) (first_of s x) (second_of s x),
        some_size s x r,
      );
      literals = omega (
        arith,
        p.literals,
        ap (λ (l : List (List Literal)). length (literals_in l)) (rule_clauses s x),
        ap length (literals_in_append s.made.clauses c),
        length-append (literals_in s.made.clauses) (literals_in c),
        literals_of_lem (equalities (asked s x)) (first_of s x) (second_of s x),
        clause_few first (quantities_in s) (asked s x),
        clause_few second (quantities_in s) (asked s x),
      );
      unruled = λ e. absurd (true≢false e);
    }
