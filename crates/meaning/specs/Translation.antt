-- From what a rule asks to helpers, primitives and clauses: document 01, "Translation".
use Rattle.std.specs.Prelude.{List, [], ◌∷◌, ◌++◌, ℕ, zero, suc, ◌+◌, get_or, pos, negsuc}
use Rattle.whole.specs.Ranges.{range, sum_span, difference_span, product_span, square_span}
use Rattle.whole.specs.declared.Range.{Range}
use Rattle.problem.specs.declared.Primitive.{Primitive}
use Rattle.problem.specs.declared.Primitive.TheVariants.{Sum, Product, Square}
use Rattle.problem.specs.declared.Literal.{Literal}
use Rattle.problem.specs.declared.Literal.TheVariants as literal
use Rattle.sheet.specs.declared.Sign.{Sign}
use Rattle.sheet.specs.declared.Sign.TheVariants.{AtMost, Below, AtLeast, Above, Equal, Differ}
use Rattle.meaning.specs.Plain.{Operation, sum, difference, product, Tree, constant, quantity, binary, square, Asked}

-- ---- a piece of a problem: helpers by their ranges, primitives, clauses; and two pieces in a row
pub record Piece : Type 0 where
  pub ranges : List Range
  pub primitives : List Primitive
  pub clauses : List (List Literal)

infixl 20 ◌⋈◌
abbrev pub ◌⋈◌ : Piece → Piece → Piece
a ⋈ b =
    record { ranges = a.ranges ++ b.ranges; primitives = a.primitives ++ b.primitives; clauses = a.clauses ++ b.clauses }

abbrev pub nothing : Piece
nothing = record { ranges = []; primitives = []; clauses = [] }

-- ---- ranges: sums and differences of ends, four end products, exact squares
unfoldable pub span_for : Operation → Range → Range → Range
span_for sum x y = sum_span x y
span_for difference x y = difference_span x y
span_for product x y = product_span x y

-- the range of a tree, the declared ranges given
unfoldable pub range_of : List Range → Tree → Range
range_of d (constant n) = range (pos n) (pos n)
range_of d (quantity q) = get_or d q (range (pos 0) (pos 0))
range_of d (binary o a b) = span_for o (range_of d a) (range_of d b)
range_of d (square a) = square_span (range_of d a)

-- ---- helpers: each number makes one, each operation one when its operands are done, left first; a name makes none
unfoldable pub size_of : Tree → ℕ
size_of (constant n) = 1
size_of (quantity q) = 0
size_of (binary o a b) = size_of a + size_of b + 1
size_of (square a) = size_of a + 1

-- the quantity that holds a tree's value, its first helper being number k
unfoldable pub place_in : ℕ → Tree → ℕ
place_in k (constant n) = k
place_in k (quantity q) = q
place_in k (binary o a b) = k + (size_of a + size_of b)
place_in k (square a) = k + size_of a

-- h = a + b; h = a - b as a = h + b; h = a * b
unfoldable pub equation : Operation → ℕ → ℕ → ℕ → Primitive
equation sum h a b = Sum h a b
equation difference h a b = Sum a h b
equation product h a b = Product h a b

abbrev pub helper : Range → List Primitive → Piece
helper r ps = record { ranges = r ∷ []; primitives = ps; clauses = [] }

-- the helpers of a tree, with their primitives
unfoldable pub piece_of : List Range → ℕ → Tree → Piece
piece_of d k (constant n) = helper (range (pos n) (pos n)) []
piece_of d k (quantity q) = nothing
piece_of d k (binary o a b) =
    (piece_of d k a ⋈ piece_of d (k + size_of a) b)
    ⋈ helper (span_for o (range_of d a) (range_of d b)) (equation o (k + (size_of a + size_of b)) (place_in k a) (place_in (k + size_of a) b) ∷ [])
piece_of d k (square a) = piece_of d k a ⋈ helper (square_span (range_of d a)) (Square (k + size_of a) (place_in k a) ∷ [])

-- ---- comparisons: each makes d = left - right after both sides
abbrev pub gap_of : Asked → Tree
gap_of a = binary difference a.left a.right

-- which of the two clauses of an equality demand
pub data Turn : Type 0 where
  first second : Turn

-- at most 0 in the first, at least 0 in the second
unfoldable pub half_of : Turn → ℕ → Literal
half_of first d = literal.AtMost d (pos 0)
half_of second d = literal.AtLeast d (pos 0)

-- `<=` is d at most 0, `<` at most -1, `>=` at least 0, `>` at least 1, `!=` is the two literals at most -1, at least 1
unfoldable pub literals_for : Turn → Sign → ℕ → List Literal
literals_for t AtMost d = literal.AtMost d (pos 0) ∷ []
literals_for t Below d = literal.AtMost d (negsuc 0) ∷ []
literals_for t AtLeast d = literal.AtLeast d (pos 0) ∷ []
literals_for t Above d = literal.AtLeast d (pos 1) ∷ []
literals_for t Equal d = half_of t d ∷ []
literals_for t Differ d = literal.AtMost d (negsuc 0) ∷ literal.AtLeast d (pos 1) ∷ []

-- ---- rules
-- an equality demand: `=` after must or then, `!=` after if, whose opposite is `=`
unfoldable pub equal : Sign → ℕ
equal AtMost = 0
equal Below = 0
equal AtLeast = 0
equal Above = 0
equal Equal = 1
equal Differ = 0

unfoldable pub equalities : List Asked → ℕ
equalities [] = 0
equalities (a ∷ more) = equal a.sign + equalities more

-- the helpers of what is asked, one comparison behind the other
unfoldable pub gaps : List Range → ℕ → List Asked → Piece
gaps d k [] = nothing
gaps d k (a ∷ more) = piece_of d k (gap_of a) ⋈ gaps d (k + size_of (gap_of a)) more

-- literals follow the text
unfoldable pub clause_of : Turn → ℕ → List Asked → List Literal
clause_of t k [] = []
clause_of t k (a ∷ more) = literals_for t a.sign (place_in k (gap_of a)) ++ clause_of t (k + size_of (gap_of a)) more

-- an equality demand makes two clauses, alike but for that place
unfoldable pub one_or_two : ℕ → List Literal → List Literal → List (List Literal)
one_or_two zero a b = a ∷ []
one_or_two (suc n) a b = a ∷ b ∷ []

-- what a rule makes, the declared ranges given, its first helper being number k
unfoldable pub rule_of : List Range → ℕ → List Asked → Piece
rule_of d k asked =
    gaps d k asked ⋈ record { ranges = []; primitives = []; clauses = one_or_two (equalities asked) (clause_of first k asked) (clause_of second k asked) }
