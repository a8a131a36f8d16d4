-- A range, a primitive and a literal written at the end of a front that holds others: the front then holds one more, as numbers below the limit are written as they are.
use mathlib.Core.Path.{◌≡◌, refl, sym, ap, ◌∙◌}
use mathlib.Core.List.{List, [], ◌∷◌, ◌++◌, append-nil, append_assoc}
use Prim.Native.Nat.{ℕ, suc, ◌+◌, ◌*◌, ◌≤◌, ◌<◌}
use native.Mathlib.Nat.{add-zero}
use native.Mathlib.Omega.{arith}
use lib.IntN.{ℤ, pos}
use lib.ListN.{length, take}
use borrow.Author.Tests.{lt-ltb}
use Rattle.whole.specs.Lists.{AllOf}
use Rattle.whole.specs.declared.Range.{Range}
use Rattle.problem.specs.declared.Primitive.{Primitive}
use Rattle.problem.specs.declared.Primitive.TheVariants.{Sum, Product, Square}
use Rattle.problem.specs.declared.Literal.{Literal}
use Rattle.problem.specs.declared.Literal.TheVariants.{AtMost, AtLeast}
use Rattle.meaning.specs.Lists.{range_list, primitive_list, literal_list}
use Rattle.lines.specs.inner.Emission.{bump, small, put_range, put_primitive, put_literal, put_literals, count_literals}
use Rattle.meaning.proofs.FlatLists.{ranges_append, primitives_append, literals_append}
use Rattle.lines.proofs.ListFronts.{put_range_next, put_four_next, put_three_next, put_four_length, put_three_length}

-- ---- ranges
pub range_next : (l : List ℤ) (i : ℕ) (r : Range) (ws : List Range) → i < 128 → 2 * (i + 1) ≤ length l → take (2 * i) l ≡ range_list ws → take (2 * (i + 1)) (put_range l i r) ≡ range_list (ws ++ (r ∷ []))
unfolding range_list
range_next l i r ws h k e =
    put_range_next l i r h k ∙ ap (λ (m : List ℤ). m ++ (r.low ∷ (r.high ∷ []))) e ∙ sym (ranges_append ws (r ∷ []))

-- ---- primitives of small numbers
pub small_is : (n : ℕ) → n < 20_000 → small n ≡ n
small_is n h = rw (lt-ltb n 20_000 h)

abbrev pub SmallPrimitive : Primitive → Type 0
SmallPrimitive (Sum z x y) = (z < 20_000) × (x < 20_000) × (y < 20_000)
SmallPrimitive (Product z x y) = (z < 20_000) × (x < 20_000) × (y < 20_000)
SmallPrimitive (Square z x) = (z < 20_000) × (x < 20_000)

pub put_primitive_length : (l : List ℤ) (i : ℕ) (p : Primitive) → length (put_primitive l i p) ≡ length l
put_primitive_length l i (Sum z x y) = put_four_length l i (pos 1) (pos (small z)) (pos (small x)) (pos (small y))
put_primitive_length l i (Product z x y) = put_four_length l i (pos 2) (pos (small z)) (pos (small x)) (pos (small y))
put_primitive_length l i (Square z x) = put_four_length l i (pos 3) (pos (small z)) (pos (small x)) (pos 0)

put_primitive_next : (l : List ℤ) (i : ℕ) (p : Primitive) → i < 256 → 4 * (i + 1) ≤ length l → SmallPrimitive p → take (4 * (i + 1)) (put_primitive l i p) ≡ take (4 * i) l ++ primitive_list (p ∷ [])
unfolding primitive_list
put_primitive_next l i (Sum z x y) h k s =
    rw (small_is z s.0, small_is x s.1, small_is y s.2) (put_four_next l i (pos 1) (pos z) (pos x) (pos y) h k)
put_primitive_next l i (Product z x y) h k s =
    rw (small_is z s.0, small_is x s.1, small_is y s.2) (put_four_next l i (pos 2) (pos z) (pos x) (pos y) h k)
put_primitive_next l i (Square z x) h k s =
    rw (small_is z s.0, small_is x s.1) (put_four_next l i (pos 3) (pos z) (pos x) (pos 0) h k)

pub primitive_next : (l : List ℤ) (i : ℕ) (p : Primitive) (vs : List Primitive) → i < 256 → 4 * (i + 1) ≤ length l → SmallPrimitive p → take (4 * i) l ≡ primitive_list vs → take (4 * (i + 1)) (put_primitive l i p) ≡ primitive_list (vs ++ (p ∷ []))
primitive_next l i p vs h k s e =
    put_primitive_next l i p h k s ∙ ap (λ (m : List ℤ). m ++ primitive_list (p ∷ [])) e ∙ sym (primitives_append vs (p ∷ []))

-- ---- literals of small numbers
abbrev pub SmallLiteral : Literal → Type 0
SmallLiteral (AtMost q c) = q < 20_000
SmallLiteral (AtLeast q c) = q < 20_000

pub put_literal_length : (l : List ℤ) (i : ℕ) (x : Literal) → length (put_literal l i x) ≡ length l
put_literal_length l i (AtMost q c) = put_three_length l i (pos (small q)) (pos 0) c
put_literal_length l i (AtLeast q c) = put_three_length l i (pos (small q)) (pos 1) c

put_literal_next : (l : List ℤ) (i : ℕ) (x : Literal) → i < 1024 → 3 * (i + 1) ≤ length l → SmallLiteral x → take (3 * (i + 1)) (put_literal l i x) ≡ take (3 * i) l ++ literal_list (x ∷ [])
unfolding literal_list
put_literal_next l i (AtMost q c) h k s = rw (small_is q s) (put_three_next l i (pos q) (pos 0) c h k)
put_literal_next l i (AtLeast q c) h k s = rw (small_is q s) (put_three_next l i (pos q) (pos 1) c h k)

pub literal_next : (l : List ℤ) (i : ℕ) (x : Literal) (before : List Literal) → i < 1024 → 3 * (i + 1) ≤ length l → SmallLiteral x → take (3 * i) l ≡ literal_list before → take (3 * (i + 1)) (put_literal l i x) ≡ literal_list (before ++ (x ∷ []))
literal_next l i x before h k s e =
    put_literal_next l i x h k s ∙ ap (λ (m : List ℤ). m ++ literal_list (x ∷ [])) e ∙ sym (literals_append before (x ∷ []))

-- ---- several literals in a row
pub put_literals_length : (xs : List Literal) (l : List ℤ) (i : ℕ) → length (put_literals l i xs) ≡ length l
unfolding put_literals
put_literals_length [] l i = refl
put_literals_length (x ∷ xs) l i = put_literals_length xs (put_literal l i x) (bump i) ∙ put_literal_length l i x

pub bump_is : (n : ℕ) → n < 10_000 → bump n ≡ n + 1
bump_is n h = rw (lt-ltb n 10_000 h)

pub count_literals_lem : (xs : List Literal) (i : ℕ) → i + length xs ≤ 10_000 → count_literals i xs ≡ i + length xs
unfolding count_literals
count_literals_lem [] i h = omega arith
count_literals_lem (x ∷ xs) i h = rw (bump_is i (omega arith)) (omega (arith, count_literals_lem xs (i + 1) (omega arith)))

pub literals_next : (xs : List Literal) (l : List ℤ) (i : ℕ) (before : List Literal) → i + length xs ≤ 1024 → 3 * (i + length xs) ≤ length l → AllOf SmallLiteral xs → take (3 * i) l ≡ literal_list before → take (3 * (i + length xs)) (put_literals l i xs) ≡ literal_list (before ++ xs)
unfolding put_literals
literals_next [] l i before h k s e = rw (add-zero, append-nil) e
literals_next (x ∷ xs) l i before h k s e =
    let j : i + suc (length xs) ≡ i + 1 + length xs = omega arith in
    let n = literal_next l i x before (omega arith) (omega arith) s.0 e in
    let m = literals_next xs (put_literal l i x) (i + 1) (before ++ (x ∷ [])) (omega arith) (omega (arith, put_literal_length l i x)) s.1 n in
    rw (bump_is i (omega arith), j) (m ∙ ap literal_list (append_assoc before (x ∷ []) xs))
