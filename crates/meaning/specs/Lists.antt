-- A piece of a problem as lists of numbers, and names as bytes, as the caller's buffers get them.
use Rattle.std.specs.Prelude.{cond, List, [], ◌∷◌, ◌++◌, ℕ, zero, suc, ◌-◌, ◌/◌, ◌%◌, eqb, length, replicate, ℤ, pos}
use Rattle.sheet.specs.Text.{word}
use Rattle.whole.specs.declared.Range.{Range}
use Rattle.problem.specs.declared.Primitive.{Primitive}
use Rattle.problem.specs.declared.Primitive.TheVariants.{Sum, Product, Square}
use Rattle.problem.specs.declared.Literal.{Literal}
use Rattle.problem.specs.declared.Literal.TheVariants.{AtMost, AtLeast}

-- low then high
unfoldable pub range_list : List Range → List ℤ
range_list [] = []
range_list (r ∷ rs) = r.low ∷ (r.high ∷ range_list rs)

-- kind, z, x, y
unfoldable pub primitive_list : List Primitive → List ℤ
primitive_list [] = []
primitive_list (Sum z x y ∷ ps) = pos 1 ∷ (pos z ∷ (pos x ∷ (pos y ∷ primitive_list ps)))
primitive_list (Product z x y ∷ ps) = pos 2 ∷ (pos z ∷ (pos x ∷ (pos y ∷ primitive_list ps)))
primitive_list (Square z x ∷ ps) = pos 3 ∷ (pos z ∷ (pos x ∷ (pos 0 ∷ primitive_list ps)))

-- the lengths of the clauses
unfoldable pub length_list : List (List Literal) → List ℤ
length_list [] = []
length_list (c ∷ cs) = pos (length c) ∷ length_list cs

-- quantity, sense, bound
unfoldable pub literal_list : List Literal → List ℤ
literal_list [] = []
literal_list (AtMost q c ∷ ls) = pos q ∷ (pos 0 ∷ (c ∷ literal_list ls))
literal_list (AtLeast q c ∷ ls) = pos q ∷ (pos 1 ∷ (c ∷ literal_list ls))

-- the literals of all clauses
unfoldable pub literals_in : List (List Literal) → List Literal
literals_in [] = []
literals_in (c ∷ cs) = c ++ literals_in cs

-- the letters of a name, from its number; at most f of them
unfoldable pub letters_of : ℕ → ℕ → List ℕ
letters_of zero k = []
letters_of (suc f) k = cond (eqb k 0) [] (letters_of f (k / 256) ++ (k % 256 ∷ []))

-- 8 bytes, padded with spaces
abbrev pub padded : ℕ → List ℕ
padded k = letters_of 8 k ++ replicate (8 - length (letters_of 8 k)) (word " ")

unfoldable pub name_bytes : List ℕ → List ℕ
name_bytes [] = []
name_bytes (k ∷ ks) = padded k ++ name_bytes ks
