-- How many primitives, clauses and literals the rules make, by the number of their helpers: a comparison makes a helper, a helper at most one primitive, and a rule with m comparisons at most 4m clauses and literals together.
use mathlib.Core.Path.{ap}
use mathlib.Core.List.{List, [], ◌++◌}
use Prim.Native.Nat.{ℕ, zero, suc, ◌+◌, ◌*◌, ◌<◌, ◌≤◌}
use native.Mathlib.Omega.{arith}
use lib.ListN.{length, length-append}
use Rattle.whole.specs.declared.Range.{Range}
use Rattle.problem.specs.declared.Literal.{Literal}
use Rattle.meaning.specs.Plain.{Asked}
use Rattle.meaning.specs.Translation.{Piece, nothing, ◌⋈◌, first, second, equalities, clause_of, one_or_two, rule_of}
use Rattle.meaning.specs.Lists.{literals_in}
use Rattle.meaning.proofs.Definitions.{sizes}
use Rattle.meaning.proofs.TreeSizes.{gaps_primitives, at_least_one, clause_length}
use Rattle.meaning.proofs.FlatLists.{literals_in_append}
use Rattle.meaning.proofs.Rules.{rule_size}
use Rattle.meaning.proofs.DefinitionSteps.{rule_primitives, rule_clauses}

-- clauses and literals of a rule with m comparisons
together : (n m : ℕ) (a b : List Literal) → 0 < m → length a + n ≤ 2 * m → length b + n ≤ 2 * m → length (one_or_two n a b) + length (literals_in (one_or_two n a b)) ≤ 4 * m
unfolding one_or_two literals_in
together zero m a b h i j = omega (arith, length-append a [])
together (suc n) m a b h i j = omega (arith, length-append a (b ++ []), length-append b [])

two : (n : ℕ) (a b : List Literal) → length (one_or_two n a b) ≤ 2
unfolding one_or_two
two zero a b = omega arith
two (suc n) a b = omega arith

-- ---- all rules together
pub record Small (b : Piece) : Type 0 where
  pub primitives : length b.primitives ≤ length b.ranges
  pub clauses : length b.clauses ≤ 2 * length b.ranges
  pub together : length b.clauses + length (literals_in b.clauses) ≤ 4 * length b.ranges

pub small_none : Small nothing
unfolding literals_in
small_none = omega arith

pub small_rule : (d : List Range) (k : ℕ) (asked : List Asked) → 0 < length asked → Small (rule_of d k asked)
small_rule d k asked h =
    let a = clause_of first k asked in
    let b = clause_of second k asked in
    let n = equalities asked in
    let e = rule_clauses d k asked in
    let r = rule_size d k asked in
    let q : length (rule_of d k asked).primitives ≤ sizes asked = rw (rule_primitives d k asked) (gaps_primitives d k asked) in
    let m = at_least_one asked in
    record {
      primitives = omega arith;
      clauses = rw e (omega (arith, two n a b));
      together = rw e (omega (arith, together n (length asked) a b h (clause_length first k asked) (clause_length second k asked)));
    }

pub small_join : (a b : Piece) → Small a → Small b → Small (a ⋈ b)
small_join a b h i =
    omega (
      arith,
      h,
      i,
      length-append a.ranges b.ranges,
      length-append a.primitives b.primitives,
      length-append a.clauses b.clauses,
      length-append (literals_in a.clauses) (literals_in b.clauses),
      ap length (literals_in_append a.clauses b.clauses),
    )
