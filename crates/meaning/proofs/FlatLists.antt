-- The lists of numbers that a problem is given as: two pieces' lists stand in a row as the pieces do, and what is read from a list is what it was made of.
use mathlib.Core.Path.{◌≡◌, refl, sym, ap, ap₂, ◌∙◌}
use mathlib.Core.Bool.{Bool, true, false, cond}
use mathlib.Core.List.{List, [], ◌∷◌, ◌++◌, append_assoc}
use Prim.Native.Nat.{ℕ, zero, suc, ◌+◌, ◌*◌, ◌/◌, ◌%◌, ◌≤◌}
use native.Mathlib.Omega.{arith}
use native.Mathlib.Nat.{zero-add}
use lib.Dec.{eqb}
use lib.ListN.{length, get_or, length-append, length-replicate}
use lib.IntN.{ℤ, pos}
use lib.Seq.{take-append_seam, drop-append_seam}
use Rattle.whole.specs.Ranges.{Point, In, range}
use Rattle.whole.specs.declared.Range.{Range}
use Rattle.problem.specs.Problem.{range_at, quantities, Inside}
use Rattle.problem.specs.Lists.{primitives_of, literals_of, clauses_of, problem_of}
use Rattle.problem.specs.declared.Primitive.{Primitive}
use Rattle.problem.specs.declared.Primitive.TheVariants.{Sum, Product, Square}
use Rattle.problem.specs.declared.Literal.{Literal}
use Rattle.problem.specs.declared.Literal.TheVariants.{AtMost, AtLeast}
use Rattle.meaning.specs.Lists.{range_list, primitive_list, length_list, literal_list, literals_in, letters_of, padded, name_bytes}
use Rattle.meaning.proofs.Elements.{Each, each_at, each_from}

-- ---- lists in a row
pub ranges_append : (xs ys : List Range) → range_list (xs ++ ys) ≡ range_list xs ++ range_list ys
unfolding range_list
ranges_append [] ys = refl
ranges_append (x ∷ xs) ys = ap (λ (l : List ℤ). x.low ∷ (x.high ∷ l)) (ranges_append xs ys)

pub primitives_append : (xs ys : List Primitive) → primitive_list (xs ++ ys) ≡ primitive_list xs ++ primitive_list ys
unfolding primitive_list
primitives_append [] ys = refl
primitives_append (Sum z x y ∷ xs) ys = ap (λ (l : List ℤ). pos 1 ∷ (pos z ∷ (pos x ∷ (pos y ∷ l)))) (primitives_append xs ys)
primitives_append (Product z x y ∷ xs) ys = ap (λ (l : List ℤ). pos 2 ∷ (pos z ∷ (pos x ∷ (pos y ∷ l)))) (primitives_append xs ys)
primitives_append (Square z x ∷ xs) ys = ap (λ (l : List ℤ). pos 3 ∷ (pos z ∷ (pos x ∷ (pos 0 ∷ l)))) (primitives_append xs ys)

pub lengths_append : (xs ys : List (List Literal)) → length_list (xs ++ ys) ≡ length_list xs ++ length_list ys
unfolding length_list
lengths_append [] ys = refl
lengths_append (x ∷ xs) ys = ap (λ (l : List ℤ). pos (length x) ∷ l) (lengths_append xs ys)

pub literals_append : (xs ys : List Literal) → literal_list (xs ++ ys) ≡ literal_list xs ++ literal_list ys
unfolding literal_list
literals_append [] ys = refl
literals_append (AtMost q c ∷ xs) ys = ap (λ (l : List ℤ). pos q ∷ (pos 0 ∷ (c ∷ l))) (literals_append xs ys)
literals_append (AtLeast q c ∷ xs) ys = ap (λ (l : List ℤ). pos q ∷ (pos 1 ∷ (c ∷ l))) (literals_append xs ys)

pub literals_in_append : (xs ys : List (List Literal)) → literals_in (xs ++ ys) ≡ literals_in xs ++ literals_in ys
unfolding literals_in
literals_in_append [] ys = refl
literals_in_append (x ∷ xs) ys = ap (λ (l : List Literal). x ++ l) (literals_in_append xs ys) ∙ sym (append_assoc x (literals_in xs) (literals_in ys))

pub names_append : (xs ys : List ℕ) → name_bytes (xs ++ ys) ≡ name_bytes xs ++ name_bytes ys
unfolding name_bytes
names_append [] ys = refl
names_append (x ∷ xs) ys = ap (λ (l : List ℕ). padded x ++ l) (names_append xs ys) ∙ sym (append_assoc (padded x) (name_bytes xs) (name_bytes ys))

-- ---- how long they are
pub ranges_length : (xs : List Range) → length (range_list xs) ≡ 2 * length xs
unfolding range_list
ranges_length [] = refl
ranges_length (x ∷ xs) = omega (arith, ranges_length xs)

pub primitives_length : (xs : List Primitive) → length (primitive_list xs) ≡ 4 * length xs
unfolding primitive_list
primitives_length [] = refl
primitives_length (Sum z x y ∷ xs) = omega (arith, primitives_length xs)
primitives_length (Product z x y ∷ xs) = omega (arith, primitives_length xs)
primitives_length (Square z x ∷ xs) = omega (arith, primitives_length xs)

pub lengths_length : (xs : List (List Literal)) → length (length_list xs) ≡ length xs
unfolding length_list
lengths_length [] = refl
lengths_length (x ∷ xs) = ap suc (lengths_length xs)

pub literals_length : (xs : List Literal) → length (literal_list xs) ≡ 3 * length xs
unfolding literal_list
literals_length [] = refl
literals_length (AtMost q c ∷ xs) = omega (arith, literals_length xs)
literals_length (AtLeast q c ∷ xs) = omega (arith, literals_length xs)

pub quantities_is : (xs : List Range) → quantities (range_list xs) ≡ length xs
quantities_is xs = omega (arith, ranges_length xs)

-- ---- ranges by their number
pub range_at_lem : (xs : List Range) (q : ℕ) → range_at (range_list xs) q ≡ get_or xs q (range (pos 0) (pos 0))
unfolding range_list
range_at_lem [] q = refl
range_at_lem (x ∷ xs) zero = refl
range_at_lem (x ∷ xs) (suc q) =
    let l : 2 * suc q ≡ suc (suc (2 * q)) = omega arith in
    let h : 2 * suc q + 1 ≡ suc (suc (2 * q + 1)) = omega arith in
    rw (h, l) (range_at_lem xs q)

-- each value is in its range, by number or in a row
module _ (p : Point) (xs : List Range) (n : ℕ) (e : n ≡ length xs) where
  pub inside_each : Inside n p (range_list xs) → Each (λ q r. In r (p q)) 0 xs
  inside_each h = each_from (λ q r. In r (p q)) xs (range (pos 0) (pos 0)) 0 (λ i l. rw (zero-add, ← range_at_lem xs i) (h.each i (omega arith)))

  pub each_inside : Each (λ q r. In r (p q)) 0 xs → Inside n p (range_list xs)
  each_inside h = record { each = λ q l. rw (range_at_lem xs q) (rw zero-add at (each_at (λ q r. In r (p q)) xs (range (pos 0) (pos 0)) 0 q (omega arith) h)) }

-- ---- lists of numbers read back
pub primitives_round : (ps : List Primitive) → primitives_of (primitive_list ps) ≡ ps
unfolding primitives_of primitive_list
primitives_round [] = refl
primitives_round (Sum z x y ∷ ps) = ap (λ (r : List Primitive). Sum z x y ∷ r) (primitives_round ps)
primitives_round (Product z x y ∷ ps) = ap (λ (r : List Primitive). Product z x y ∷ r) (primitives_round ps)
primitives_round (Square z x ∷ ps) = ap (λ (r : List Primitive). Square z x ∷ r) (primitives_round ps)

literals_round : (ls : List Literal) → literals_of (literal_list ls) ≡ ls
unfolding literals_of literal_list
literals_round [] = refl
literals_round (AtMost q c ∷ ls) = ap (λ (r : List Literal). AtMost q c ∷ r) (literals_round ls)
literals_round (AtLeast q c ∷ ls) = ap (λ (r : List Literal). AtLeast q c ∷ r) (literals_round ls)

clauses_round : (cs : List (List Literal)) → clauses_of (length_list cs) (literals_in cs) ≡ cs
unfolding clauses_of length_list literals_in
clauses_round [] = refl
clauses_round (c ∷ cs) = ap₂ ◌∷◌ (take-append_seam c (literals_in cs)) (ap (clauses_of (length_list cs)) (drop-append_seam c (literals_in cs)) ∙ clauses_round cs)

pub round : (rs : List Range) (ps : List Primitive) (cs : List (List Literal)) → problem_of (range_list rs) (primitive_list ps) (length_list cs) (literal_list (literals_in cs)) ≡ record { ranges = range_list rs; primitives = ps; clauses = cs }
round rs ps cs =
    λ i. record {
      ranges = range_list rs;
      primitives = primitives_round ps i;
      clauses = (ap (clauses_of (length_list cs)) (literals_round (literals_in cs)) ∙ clauses_round cs) i;
    }

-- ---- names take 8 bytes each
pub letters_length : (f k : ℕ) → length (letters_of f k) ≤ f
unfolding letters_of
letters_length zero k = omega arith
letters_length (suc f) k = go (eqb k 0) (letters_length f (k / 256))
  where
    go : (x : Bool) → length (letters_of f (k / 256)) ≤ f → length (cond x [] (letters_of f (k / 256) ++ (k % 256 ∷ []))) ≤ suc f
    go true h = omega arith
    go false h = omega (arith, length-append (letters_of f (k / 256)) (k % 256 ∷ []))

pub padded_length : (k : ℕ) → length (padded k) ≡ 8
padded_length k = simp (length-append, length-replicate) (omega (arith, letters_length 8 k))

pub names_length : (ns : List ℕ) → length (name_bytes ns) ≡ 8 * length ns
unfolding name_bytes
names_length [] = refl
names_length (n ∷ ns) = omega (arith, length-append (padded n) (name_bytes ns), padded_length n, names_length ns)
