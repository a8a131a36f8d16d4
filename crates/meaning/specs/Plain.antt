-- Plain trees: an expression without brackets and ranks, its names replaced by the numbers of their quantities.
use Rattle.std.specs.Prelude.{Bool, true, false, cond, ◌||◌, ◌&&◌, List, [], ◌∷◌, ◌++◌, map, ℕ, suc, eqb}
use Rattle.sheet.specs.Grammar.{Expr, one, plus, minus, Term, lone, times, Factor, bare, squared, Atom, number, name, bracket}
use Rattle.sheet.specs.Grammar.{Comparison, Line, ranged, default, must, when}
use Rattle.sheet.specs.declared.Sign.{Sign}
use Rattle.sheet.specs.declared.Sign.TheVariants.{AtMost, Below, AtLeast, Above, Equal, Differ}

pub data Operation : Type 0 where
  sum difference product : Operation

pub data Tree : Type 0 where
  constant : ℕ → Tree
  quantity : ℕ → Tree
  binary : Operation → Tree → Tree → Tree
  square : Tree → Tree

-- a declared name's quantity: as many as were declared before it
unfoldable pub place_of : List ℕ → ℕ → ℕ
place_of [] n = 0
place_of (m ∷ ms) n = cond (eqb m n) 0 (suc (place_of ms n))

-- a name was declared
unfoldable pub is_in : List ℕ → ℕ → Bool
is_in [] n = false
is_in (m ∷ ms) n = eqb m n || is_in ms n

unfoldable mutual
  pub plain_e : List ℕ → Expr → Tree
  plain_e ns (one t) = plain_t ns t
  plain_e ns (plus e t) = binary sum (plain_e ns e) (plain_t ns t)
  plain_e ns (minus e t) = binary difference (plain_e ns e) (plain_t ns t)

  pub plain_t : List ℕ → Term → Tree
  plain_t ns (lone f) = plain_f ns f
  plain_t ns (times t f) = binary product (plain_t ns t) (plain_f ns f)

  pub plain_f : List ℕ → Factor → Tree
  plain_f ns (bare a) = plain_a ns a
  plain_f ns (squared a) = square (plain_a ns a)

  pub plain_a : List ℕ → Atom → Tree
  plain_a ns (number n) = constant n
  plain_a ns (name n) = quantity (place_of ns n)
  plain_a ns (bracket e) = plain_e ns e

-- every name of an expression was declared
unfoldable mutual
  pub named_e : List ℕ → Expr → Bool
  named_e ns (one t) = named_t ns t
  named_e ns (plus e t) = named_e ns e && named_t ns t
  named_e ns (minus e t) = named_e ns e && named_t ns t

  pub named_t : List ℕ → Term → Bool
  named_t ns (lone f) = named_f ns f
  named_t ns (times t f) = named_t ns t && named_f ns f

  pub named_f : List ℕ → Factor → Bool
  named_f ns (bare a) = named_a ns a
  named_f ns (squared a) = named_a ns a

  pub named_a : List ℕ → Atom → Bool
  named_a ns (number n) = true
  named_a ns (name n) = is_in ns n
  named_a ns (bracket e) = named_e ns e

-- the difference d = left - right of a comparison, and what is asked of it
pub record Asked : Type 0 where
  pub left : Tree
  pub sign : Sign
  pub right : Tree

abbrev pub plain_c : List ℕ → Comparison → Asked
plain_c ns c = record { left = plain_e ns c.left; sign = c.sign; right = plain_e ns c.right }

-- the opposite of a sign
abbrev pub opposite : Sign → Sign
opposite AtMost = Above
opposite Below = AtLeast
opposite AtLeast = Below
opposite Above = AtMost
opposite Equal = Differ
opposite Differ = Equal

abbrev pub denied : Asked → Asked
denied a = record { left = a.left; sign = opposite a.sign; right = a.right }

-- what a rule asks for, in the order of the text: in the if part the opposite stands; a range line asks for nothing here
unfoldable pub asks_of : List ℕ → Line → List Asked
asks_of ns (ranged n low high) = []
asks_of ns (default n) = []
asks_of ns (must d ds) = map (plain_c ns) (d ∷ ds)
asks_of ns (when c cs d ds) = map denied (map (plain_c ns) (c ∷ cs)) ++ map (plain_c ns) (d ∷ ds)
