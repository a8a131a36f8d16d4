-- The quantities that primitives and literals name exist: declared ones, helpers of operands made before, and the differences of the rule itself.
use mathlib.Core.List.{List, [], ◌∷◌, ◌++◌}
use Prim.Native.Nat.{ℕ, zero, suc, ◌+◌, ◌<◌, ◌≤◌}
use native.Mathlib.Omega.{arith}
use Rattle.whole.specs.Lists.{AllOf}
use Rattle.whole.specs.Numbers.{Near}
use Rattle.whole.specs.declared.Range.{Range}
use Rattle.whole.proofs.Kit.{ints}
use Rattle.problem.specs.declared.Primitive.{Primitive}
use Rattle.problem.specs.declared.Primitive.TheVariants.{Sum, Product, Square}
use Rattle.problem.specs.declared.Literal.{Literal}
use Rattle.problem.specs.declared.Literal.TheVariants as literal
use Rattle.sheet.specs.declared.Sign.{Sign}
use Rattle.sheet.specs.declared.Sign.TheVariants.{AtMost, Below, AtLeast, Above, Equal, Differ}
use Rattle.meaning.specs.Plain.{Operation, sum, difference, product, Tree, constant, quantity, binary, square, Asked}
use Rattle.meaning.specs.Translation.{size_of, place_in, equation, piece_of, gap_of, Turn, first, second, literals_for, equalities, gaps, clause_of, one_or_two, rule_of}
use Rattle.meaning.specs.Lists.{literals_in}
use Rattle.meaning.proofs.Definitions.{sizes, opened}
use Rattle.meaning.proofs.Elements.{all_join}
use Rattle.meaning.proofs.PlainValues.{Names}
use Rattle.meaning.proofs.TreeValues.{Named}
use Rattle.meaning.proofs.DefinitionSteps.{rule_primitives, rule_clauses}

-- all of a primitive's quantities are below n
abbrev pub Known : ℕ → Primitive → Type 0
Known n (Sum z x y) = (z < n) × (x < n) × (y < n)
Known n (Product z x y) = (z < n) × (x < n) × (y < n)
Known n (Square z x) = (z < n) × (x < n)

pub known_more : (n m : ℕ) → n ≤ m → (e : Primitive) → Known n e → Known m e
known_more n m l (Sum z x y) h = omega arith
known_more n m l (Product z x y) h = omega arith
known_more n m l (Square z x) h = omega arith

-- a literal's quantity is below n, its bound within plus or minus M
abbrev pub Good : ℕ → Literal → Type 0
Good n (literal.AtMost q c) = (q < n) × Near c
Good n (literal.AtLeast q c) = (q < n) × Near c

pub good_more : (n m : ℕ) → n ≤ m → (l : Literal) → Good n l → Good m l
good_more n m l (literal.AtMost q c) h = (omega arith, h.1)
good_more n m l (literal.AtLeast q c) h = (omega arith, h.1)

-- ---- n declared quantities, k at least n, and m at least what there is at the end
pub place_known : (n m k : ℕ) (t : Tree) → n ≤ k → k + size_of t ≤ m → n ≤ m → Names n t → place_in k t < m
unfolding opened
place_known n m k (constant i) h l j u = omega arith
place_known n m k (quantity q) h l j u = omega arith
place_known n m k (binary o a b) h l j u = omega arith
place_known n m k (square a) h l j u = omega arith

equation_known : (m h x y : ℕ) (o : Operation) → h < m → x < m → y < m → Known m (equation o h x y)
unfolding opened
equation_known m h x y sum i j k = (i, j, k)
equation_known m h x y difference i j k = (j, i, k)
equation_known m h x y product i j k = (i, j, k)

module _ (d : List Range) (n m : ℕ) where
  piece_known : (k : ℕ) (t : Tree) → n ≤ k → k + size_of t ≤ m → Names n t → AllOf (Known m) (piece_of d k t).primitives
  unfolding opened
  piece_known k (constant i) h l u = tt
  piece_known k (quantity q) h l u = tt
  piece_known k (binary o a b) h l u =
      all_join (Known m) ((piece_of d k a).primitives ++ (piece_of d (k + size_of a) b).primitives) _
      (all_join (Known m) (piece_of d k a).primitives (piece_of d (k + size_of a) b).primitives (piece_known k a h (omega arith) u.0) (piece_known (k + size_of a) b (omega arith) (omega arith) u.1))
      (equation_known m _ _ _ o (omega arith) (place_known n m k a h (omega arith) (omega arith) u.0) (place_known n m (k + size_of a) b (omega arith) (omega arith) (omega arith) u.1), tt)
  piece_known k (square a) h l u =
      all_join (Known m) (piece_of d k a).primitives _ (piece_known k a h (omega arith) u)
      ((omega arith, place_known n m k a h (omega arith) (omega arith) u), tt)

  gaps_known : (k : ℕ) (asked : List Asked) → n ≤ k → k + sizes asked ≤ m → Named n asked → AllOf (Known m) (gaps d k asked).primitives
  unfolding gaps sizes
  gaps_known k [] h l u = tt
  gaps_known k (a ∷ more) h l u =
      all_join (Known m) (piece_of d k (gap_of a)).primitives (gaps d (k + size_of (gap_of a)) more).primitives
      (piece_known k (gap_of a) h (omega arith) u.0) (gaps_known (k + size_of (gap_of a)) more (omega arith) (omega arith) u.1)

  pub rule_known : (k : ℕ) (asked : List Asked) → n ≤ k → k + sizes asked ≤ m → Named n asked → AllOf (Known m) (rule_of d k asked).primitives
  rule_known k asked h l u = rw (rule_primitives d k asked) (gaps_known k asked h l u)

-- ---- the literals
literals_good : (n q : ℕ) → q < n → (t : Turn) (s : Sign) → AllOf (Good n) (literals_for t s q)
unfolding opened
literals_good n q h t AtMost = ((h, omega ints), tt)
literals_good n q h t Below = ((h, omega ints), tt)
literals_good n q h t AtLeast = ((h, omega ints), tt)
literals_good n q h t Above = ((h, omega ints), tt)
literals_good n q h first Equal = ((h, omega ints), tt)
literals_good n q h second Equal = ((h, omega ints), tt)
literals_good n q h t Differ = ((h, omega ints), ((h, omega ints), tt))

clause_good : (m : ℕ) (t : Turn) (k : ℕ) (asked : List Asked) → k + sizes asked ≤ m → AllOf (Good m) (clause_of t k asked)
unfolding opened
clause_good m t k [] l = tt
clause_good m t k (a ∷ more) l =
    all_join (Good m) (literals_for t a.sign (place_in k (gap_of a))) (clause_of t (k + size_of (gap_of a)) more)
    (literals_good m (place_in k (gap_of a)) (omega arith) t a.sign) (clause_good m t (k + size_of (gap_of a)) more (omega arith))

turns_good : (m i : ℕ) (a b : List Literal) → AllOf (Good m) a → AllOf (Good m) b → AllOf (Good m) (literals_in (one_or_two i a b))
unfolding one_or_two literals_in
turns_good m zero a b h k = all_join (Good m) a [] h tt
turns_good m (suc i) a b h k = all_join (Good m) a (b ++ []) h (all_join (Good m) b [] k tt)

pub rule_good : (d : List Range) (m k : ℕ) (asked : List Asked) → k + sizes asked ≤ m → AllOf (Good m) (literals_in (rule_of d k asked).clauses)
rule_good d m k asked l =
    rw (rule_clauses d k asked)
    (turns_good m (equalities asked) (clause_of first k asked) (clause_of second k asked) (clause_good m first k asked l) (clause_good m second k asked l))
