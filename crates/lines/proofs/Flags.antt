-- The flag `unknown` is raised exactly by a name that was not declared, as such a name has the first number past the declared ones;
-- and the equality demands are counted, up to two.
use mathlib.Core.Path.{◌≡◌, refl, sym, ap, ap₂, ◌∙◌}
use mathlib.Core.Bool.{Bool, true, false, not, cond, ◌||◌, ◌&&◌}
use mathlib.Core.List.{List, [], ◌∷◌, ◌++◌, map}
use Prim.Native.Nat.{ℕ, suc, ◌+◌, ◌≤◌, min}
use native.Mathlib.Omega.{arith}
use lib.Dec.{eqb, leb, ltb, leb-suc-suc}
use lib.IntN.{ℤ}
use lib.ListN.{length}
use borrow.Author.Tests.{leb-true, leb-false, ltb-true, ltb-false, eqb-true, eqb-false, lt-ltb, le-ltb, eq-eqb, ne_eqb}
use Rattle.sheet.specs.Grammar.{Expr, one, plus, minus, Term, lone, times, Factor, bare, squared, Atom, number, name, bracket, Comparison, Line, ranged, default, must, when}
use Rattle.sheet.specs.declared.Sign.{Sign}
use Rattle.sheet.specs.declared.Sign.TheVariants.{AtMost, Below, AtLeast, Above, Equal, Differ}
use Rattle.meaning.specs.Plain.{Tree, constant, quantity, binary, square, place_of, is_in, plain_e, plain_t, plain_f, plain_a, named_e, named_t, named_f, named_a, Asked, plain_c, denied, asks_of}
use Rattle.meaning.specs.Translation.{gap_of, equal, equalities}
use Rattle.meaning.specs.Draft.{Draft}
use Rattle.meaning.specs.Grounds.{named_all, bad_names}
use Rattle.lines.specs.inner.Emission.{emit, Listing, more_equals, listed, list_all}
use Rattle.lines.specs.declared.parts.Making.{Making}

-- ---- tests
pub or_assoc : (a b c : Bool) → ((a || b) || c) ≡ (a || (b || c))
or_assoc true b c = refl
or_assoc false b c = refl

pub or_false : (a : Bool) → (a || false) ≡ a
or_false true = refl
or_false false = refl

not_or : (a b : Bool) → (not a && not b) ≡ not (a || b)
not_or true b = refl
not_or false b = refl

not_not : (a : Bool) → not (not a) ≡ a
not_not true = refl
not_not false = refl

lt_not_le : (a b : ℕ) → ltb a b ≡ not (leb b a)
lt_not_le a b = go (leb b a) refl
  where
    go : (x : Bool) → leb b a ≡ x → ltb a b ≡ not x
    go true e = le-ltb a b (leb-true b a e)
    go false e = lt-ltb a b (leb-false b a e)

-- ---- a name that was not declared
-- a tree names a quantity that is none of the first d
abbrev pub strange : ℕ → Tree → Bool
strange d (constant n) = false
strange d (quantity q) = leb d q
strange d (binary o a b) = strange d a || strange d b
strange d (square a) = strange d a

abbrev pub strange_all : ℕ → List Asked → Bool
strange_all d [] = false
strange_all d (x ∷ xs) = strange d (gap_of x) || strange_all d xs

unknown_tree : (d : ℕ) (t : Tree) (rs ps : List ℤ) (m : Making) → (emit d t rs ps m).making.unknown ≡ (m.unknown || strange d t)
unfolding emit
unknown_tree d (constant n) rs ps m = sym (or_false m.unknown)
unknown_tree d (quantity q) rs ps m = refl
unknown_tree d (binary o a b) rs ps m =
    let x = emit d a rs ps m in
    unknown_tree d b x.ranges x.primitives x.making
    ∙ ap (λ (z : Bool). z || strange d b) (unknown_tree d a rs ps m)
    ∙ or_assoc m.unknown (strange d a) (strange d b)
unknown_tree d (square a) rs ps m = unknown_tree d a rs ps m

-- one comparison listed
abbrev pub one_listed : ℕ → Asked → Listing → Listing
one_listed d x a = listed x.sign (emit d (gap_of x) a.ranges a.primitives a.making) a

unknown_all : (d : ℕ) (xs : List Asked) (a : Listing) → (list_all d xs a).making.unknown ≡ (a.making.unknown || strange_all d xs)
unfolding list_all
unknown_all d [] a = sym (or_false a.making.unknown)
unknown_all d (x ∷ xs) a =
    unknown_all d xs (one_listed d x a)
    ∙ ap (λ (z : Bool). z || strange_all d xs) (unknown_tree d (gap_of x) a.ranges a.primitives a.making)
    ∙ or_assoc a.making.unknown (strange d (gap_of x)) (strange_all d xs)

-- ---- names against quantities
pub is_in_is : (ns : List ℕ) (n : ℕ) → is_in ns n ≡ ltb (place_of ns n) (length ns)
unfolding is_in place_of
is_in_is [] n = refl
is_in_is (m ∷ ms) n = go (eqb m n) (is_in_is ms n)
  where
    go : (x : Bool) → is_in ms n ≡ ltb (place_of ms n) (length ms) → (x || is_in ms n) ≡ ltb (cond x 0 (suc (place_of ms n))) (suc (length ms))
    go true e = sym (lt-ltb 0 (suc (length ms)) (omega arith))
    go false e = e ∙ sym (leb-suc-suc (suc (place_of ms n)) (length ms))

module _ (ns : List ℕ) where
  mutual
    unfolding plain_e named_e

    pub named_e_lem : (e : Expr) → named_e ns e ≡ not (strange (length ns) (plain_e ns e))
    named_e_lem (one t) = named_t_lem t
    named_e_lem (plus e t) = ap₂ ◌&&◌ (named_e_lem e) (named_t_lem t) ∙ not_or (strange (length ns) (plain_e ns e)) (strange (length ns) (plain_t ns t))
    named_e_lem (minus e t) = ap₂ ◌&&◌ (named_e_lem e) (named_t_lem t) ∙ not_or (strange (length ns) (plain_e ns e)) (strange (length ns) (plain_t ns t))

    named_t_lem : (t : Term) → named_t ns t ≡ not (strange (length ns) (plain_t ns t))
    named_t_lem (lone f) = named_f_lem f
    named_t_lem (times t f) = ap₂ ◌&&◌ (named_t_lem t) (named_f_lem f) ∙ not_or (strange (length ns) (plain_t ns t)) (strange (length ns) (plain_f ns f))

    named_f_lem : (f : Factor) → named_f ns f ≡ not (strange (length ns) (plain_f ns f))
    named_f_lem (bare a) = named_a_lem a
    named_f_lem (squared a) = named_a_lem a

    named_a_lem : (a : Atom) → named_a ns a ≡ not (strange (length ns) (plain_a ns a))
    named_a_lem (number n) = refl
    named_a_lem (name n) = is_in_is ns n ∙ lt_not_le (place_of ns n) (length ns)
    named_a_lem (bracket e) = named_e_lem e

  named_all_lem : (cs : List Comparison) → named_all ns cs ≡ not (strange_all (length ns) (map (plain_c ns) cs))
  unfolding named_all
  named_all_lem [] = refl
  named_all_lem (c ∷ cs) =
      let l = strange (length ns) (plain_e ns c.left) in
      let r = strange (length ns) (plain_e ns c.right) in
      ap₂ ◌&&◌ (ap₂ ◌&&◌ (named_e_lem c.left) (named_e_lem c.right) ∙ not_or l r) (named_all_lem cs)
      ∙ not_or (l || r) (strange_all (length ns) (map (plain_c ns) cs))

strange_append : (d : ℕ) (xs ys : List Asked) → strange_all d (xs ++ ys) ≡ (strange_all d xs || strange_all d ys)
strange_append d [] ys = refl
strange_append d (x ∷ xs) ys = ap (λ (z : Bool). strange d (gap_of x) || z) (strange_append d xs ys) ∙ sym (or_assoc (strange d (gap_of x)) (strange_all d xs) (strange_all d ys))

strange_denied : (d : ℕ) (xs : List Asked) → strange_all d (map denied xs) ≡ strange_all d xs
strange_denied d [] = refl
strange_denied d (x ∷ xs) = ap (λ (z : Bool). strange d (gap_of x) || z) (strange_denied d xs)

-- ---- rule lines
-- a line is a rule
abbrev pub IsRule : Line → Type 0
IsRule (ranged n low high) = ⊥
IsRule (default n) = ⊥
IsRule (must d ds) = Unit {0}
IsRule (when c cs d ds) = Unit {0}

-- 25 is met by a rule exactly if it names a quantity that is not declared
pub strange_is : (s : Draft) (x : Line) → IsRule x → strange_all (length s.names) (asks_of s.names x) ≡ bad_names s x
unfolding asks_of
strange_is s (ranged n low high) r = absurd r
strange_is s (default n) r = absurd r
strange_is s (must d ds) r =
    let b = strange_all (length s.names) (map (plain_c s.names) (d ∷ ds)) in
    sym (ap not (named_all_lem s.names (d ∷ ds)) ∙ not_not b)
strange_is s (when c cs d ds) r =
    let n = length s.names in
    let xs = map (plain_c s.names) (c ∷ cs) in
    let ys = map (plain_c s.names) (d ∷ ds) in
    strange_append n (map denied xs) ys
    ∙ ap (λ (z : Bool). z || strange_all n ys) (strange_denied n xs)
    ∙ sym
    (ap not (ap₂ ◌&&◌ (named_all_lem s.names (c ∷ cs)) (named_all_lem s.names (d ∷ ds)) ∙ not_or (strange_all n xs) (strange_all n ys))
    ∙ not_not (strange_all n xs || strange_all n ys))

pub unknown_is : (s : Draft) (x : Line) (a : Listing) → IsRule x → a.making.unknown ≡ false → (list_all (length s.names) (asks_of s.names x) a).making.unknown ≡ bad_names s x
unknown_is s x a r e =
    unknown_all (length s.names) (asks_of s.names x) a
    ∙ ap (λ (z : Bool). z || strange_all (length s.names) (asks_of s.names x)) e
    ∙ strange_is s x r

-- ---- equality demands
equal_le : (s : Sign) → equal s ≤ 1
unfolding equal
equal_le AtMost = omega arith
equal_le Below = omega arith
equal_le AtLeast = omega arith
equal_le Above = omega arith
equal_le Equal = omega arith
equal_le Differ = omega arith

more_equals_lem : (n e : ℕ) → n ≤ 2 → e ≤ 1 → more_equals n e ≡ min 2 (n + e)
more_equals_lem n e h k = go (ltb n 2) refl
  where
    go : (x : Bool) → ltb n 2 ≡ x → cond x (n + e) n ≡ min 2 (n + e)
    go true f = omega (arith, ltb-true n 2 f)
    go false f = omega (arith, ltb-false n 2 f)

equals_all : (d : ℕ) (xs : List Asked) (a : Listing) → a.equals ≤ 2 → (list_all d xs a).equals ≡ min 2 (a.equals + equalities xs)
unfolding list_all equalities
equals_all d [] a h = omega arith
equals_all d (x ∷ xs) a h =
    let m = more_equals_lem a.equals (equal x.sign) h (equal_le x.sign) in
    omega (arith, equals_all d xs (one_listed d x a) (omega arith))

-- whether there is more than one, and whether there is none
pub record SameEqualities (n e : ℕ) : Type 0 where
  pub two : ltb 1 n ≡ ltb 1 e
  pub none : eqb n 0 ≡ eqb e 0

same_equalities : (n e : ℕ) → n ≡ min 2 e → SameEqualities n e
same_equalities n e h = record { two = two (ltb 1 e) refl; none = none (eqb e 0) refl }
  where
    two : (x : Bool) → ltb 1 e ≡ x → ltb 1 n ≡ x
    two true f = lt-ltb 1 n (omega (arith, ltb-true 1 e f))
    two false f = le-ltb 1 n (omega (arith, ltb-false 1 e f))

    none : (x : Bool) → eqb e 0 ≡ x → eqb n 0 ≡ x
    none true f = eq-eqb n 0 (omega (arith, eqb-true e 0 f))
    none false f = ne_eqb n 0 (λ g. eqb-false e 0 f (omega arith))

pub equals_is : (d : ℕ) (xs : List Asked) (a : Listing) → a.equals ≡ 0 → SameEqualities (list_all d xs a).equals (equalities xs)
equals_is d xs a h = same_equalities _ _ (omega (arith, equals_all d xs a (omega arith)))
