-- A plain tree has the value of the grammar's tree that it came from, where a point gives each declared name its value: brackets and ranks only group.
use mathlib.Core.Path.{◌≡◌, refl, ap, ap₂}
use mathlib.Core.Bool.{true}
use mathlib.Core.List.{List}
use Prim.Native.Nat.{ℕ, ◌<◌}
use lib.ListN.{length}
use lib.IntN.{ℤ, pos, ◌+ℤ◌, ◌-ℤ◌, ◌*ℤ◌}
use Rattle.whole.specs.Ranges.{Point}
use Rattle.sheet.specs.Grammar.{Expr, one, plus, minus, Term, lone, times, Factor, bare, squared, Atom, number, name, bracket}
use Rattle.sheet.specs.Meaning.{Assignment, value_e, value_t, value_f, value_a}
use Rattle.meaning.specs.Plain.{Operation, sum, difference, product, Tree, constant, quantity, binary, square, place_of, is_in, plain_e, plain_t, plain_f, plain_a, named_e, named_t, named_f, named_a}
use Rattle.meaning.proofs.Tests.{both_on}
use Rattle.meaning.proofs.NamePlaces.{placed}

abbrev pub result : Operation → ℤ → ℤ → ℤ
result sum a b = a +ℤ b
result difference a b = a -ℤ b
result product a b = a *ℤ b

abbrev pub value : Point → Tree → ℤ
value p (constant n) = pos n
value p (quantity q) = p q
value p (binary o a b) = result o (value p a) (value p b)
value p (square a) = value p a *ℤ value p a

-- only quantities below n are named
abbrev pub Names : ℕ → Tree → Type 0
Names n (constant k) = Unit {0}
Names n (quantity q) = q < n
Names n (binary o a b) = Names n a × Names n b
Names n (square a) = Names n a

-- a point gives each declared name its value
pub record Agrees (ns : List ℕ) (v : Assignment) (p : Point) : Type 0 where
  pub gives : (n : ℕ) → is_in ns n ≡ true → p (place_of ns n) ≡ v n

module _ (ns : List ℕ) where
  mutual
    unfolding plain_e named_e

    pub names_e : (e : Expr) → named_e ns e ≡ true → Names (length ns) (plain_e ns e)
    names_e (one t) h = names_t t h
    names_e (plus e t) h = let k = both_on (named_e ns e) (named_t ns t) h in (names_e e k.0, names_t t k.1)
    names_e (minus e t) h = let k = both_on (named_e ns e) (named_t ns t) h in (names_e e k.0, names_t t k.1)

    names_t : (t : Term) → named_t ns t ≡ true → Names (length ns) (plain_t ns t)
    names_t (lone f) h = names_f f h
    names_t (times t f) h = let k = both_on (named_t ns t) (named_f ns f) h in (names_t t k.0, names_f f k.1)

    names_f : (f : Factor) → named_f ns f ≡ true → Names (length ns) (plain_f ns f)
    names_f (bare a) h = names_a a h
    names_f (squared a) h = names_a a h

    names_a : (a : Atom) → named_a ns a ≡ true → Names (length ns) (plain_a ns a)
    names_a (number n) h = tt
    names_a (name n) h = (placed ns n h).0
    names_a (bracket e) h = names_e e h

module _ (ns : List ℕ) (v : Assignment) (p : Point) (agrees : Agrees ns v p) where
  mutual
    unfolding plain_e named_e value_e

    pub value_e_lem : (e : Expr) → named_e ns e ≡ true → value p (plain_e ns e) ≡ value_e v e
    value_e_lem (one t) h = value_t_lem t h
    value_e_lem (plus e t) h = let k = both_on (named_e ns e) (named_t ns t) h in ap₂ ◌+ℤ◌ (value_e_lem e k.0) (value_t_lem t k.1)
    value_e_lem (minus e t) h = let k = both_on (named_e ns e) (named_t ns t) h in ap₂ ◌-ℤ◌ (value_e_lem e k.0) (value_t_lem t k.1)

    value_t_lem : (t : Term) → named_t ns t ≡ true → value p (plain_t ns t) ≡ value_t v t
    value_t_lem (lone f) h = value_f_lem f h
    value_t_lem (times t f) h = let k = both_on (named_t ns t) (named_f ns f) h in ap₂ ◌*ℤ◌ (value_t_lem t k.0) (value_f_lem f k.1)

    value_f_lem : (f : Factor) → named_f ns f ≡ true → value p (plain_f ns f) ≡ value_f v f
    value_f_lem (bare a) h = value_a_lem a h
    value_f_lem (squared a) h = ap (λ (z : ℤ). z *ℤ z) (value_a_lem a h)

    value_a_lem : (a : Atom) → named_a ns a ≡ true → value p (plain_a ns a) ≡ value_a v a
    value_a_lem (number n) h = refl
    value_a_lem (name n) h = agrees.gives n h
    value_a_lem (bracket e) h = value_e_lem e h
