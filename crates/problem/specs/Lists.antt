-- A problem as lists of numbers, as the calls take and give them. The reading is total; it is document 01's problem only where none of
-- grounds 1 to 5 is met (Grounds.antt): what any other number reads as does not matter.
use Rattle.std.specs.Prelude.{cond, List, [], ◌∷◌, take, drop, ℤ, pos, nat_abs}
use Rattle.std.specs.Int.Signed.{le_z}
use Rattle.problem.specs.Problem.{Problem}
use Rattle.problem.specs.declared.Primitive.{Primitive}
use Rattle.problem.specs.declared.Primitive.TheVariants.{Sum, Product, Square}
use Rattle.problem.specs.declared.Literal.{Literal}
use Rattle.problem.specs.declared.Literal.TheVariants.{AtMost, AtLeast}

-- kind, z, x, y. Kind 1: z = x + y. Kind 2: z = x * y. Kind 3: z = x squared
abbrev pub primitive_of : ℤ → ℤ → ℤ → ℤ → Primitive
primitive_of k z x y =
    cond (le_z k (pos 1)) (Sum (nat_abs z) (nat_abs x) (nat_abs y))
    (cond (le_z k (pos 2)) (Product (nat_abs z) (nat_abs x) (nat_abs y)) (Square (nat_abs z) (nat_abs x)))

-- four numbers each
unfoldable pub primitives_of : List ℤ → List Primitive
primitives_of [] = []
primitives_of (k ∷ []) = []
primitives_of (k ∷ (z ∷ [])) = []
primitives_of (k ∷ (z ∷ (x ∷ []))) = []
primitives_of (k ∷ (z ∷ (x ∷ (y ∷ l)))) = primitive_of k z x y ∷ primitives_of l

-- quantity, sense (0: at most, 1: at least), bound
abbrev pub literal_of : ℤ → ℤ → ℤ → Literal
literal_of q s c = cond (le_z s (pos 0)) (AtMost (nat_abs q) c) (AtLeast (nat_abs q) c)

-- three numbers each
unfoldable pub literals_of : List ℤ → List Literal
literals_of [] = []
literals_of (q ∷ []) = []
literals_of (q ∷ (s ∷ [])) = []
literals_of (q ∷ (s ∷ (c ∷ l))) = literal_of q s c ∷ literals_of l

-- the lengths say how many of the literals each clause has
unfoldable pub clauses_of : List ℤ → List Literal → List (List Literal)
clauses_of [] ls = []
clauses_of (n ∷ ns) ls = take (nat_abs n) ls ∷ clauses_of ns (drop (nat_abs n) ls)

-- the problem of a range list, a primitive list, a list of clause lengths and a literal list
abbrev pub problem_of : List ℤ → List ℤ → List ℤ → List ℤ → Problem
problem_of rs ps ns ls =
    record { ranges = rs; primitives = primitives_of ps; clauses = clauses_of ns (literals_of ls) }
