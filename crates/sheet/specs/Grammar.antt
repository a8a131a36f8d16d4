-- The grammar of lines as trees, and how a tree is spelt in tokens: document 01, "Sheets". A line is of the forms exactly if it is the
-- spelling of a tree; that no line spells two stands in Promises.antt.
use Rattle.std.specs.Prelude.{List, [], ◌∷◌, ◌++◌, ℕ, suc, ℤ, pos, negsuc}
use Rattle.sheet.specs.declared.Mark.{Mark}
use Rattle.sheet.specs.declared.Mark.TheVariants.{Open, Close, Plus, Minus, Times, Square, AtMost, Below, AtLeast, Above, Equal, Differ}
use Rattle.sheet.specs.declared.Mark.TheVariants.{Range, Must, If, Then, And, Or}
use Rattle.sheet.specs.declared.Token.{Token}
use Rattle.sheet.specs.declared.Token.TheVariants.{Number, Negative, Name, Fixed}
use Rattle.sheet.specs.declared.Sign.{Sign}
use Rattle.sheet.specs.declared.Sign.TheVariants as sign

-- expr is term, then any number of `+` or `-` term; term is factor, then any number of `*` factor; equal ranks group to the left;
-- factor is atom, optionally `^2`; an atom may be a number, a name, or a whole expression in brackets
mutual
  pub data Expr : Type 0 where
    one : Term → Expr
    plus : Expr → Term → Expr
    minus : Expr → Term → Expr

  pub data Term : Type 0 where
    lone : Factor → Term
    times : Term → Factor → Term

  pub data Factor : Type 0 where
    bare : Atom → Factor
    squared : Atom → Factor

  pub data Atom : Type 0 where
    number : ℕ → Atom
    name : ℕ → Atom
    bracket : Expr → Atom

-- a comparison `expr op expr`
pub record Comparison : Type 0 where
  pub left : Expr
  pub sign : Sign
  pub right : Expr

-- `range NAME LOW HIGH`, `range NAME`, `must D or D ..`, `if C and C .. then D or D ..`; each part has at least one
pub data Line : Type 0 where
  ranged : ℕ → ℤ → ℤ → Line
  default : ℕ → Line
  must : Comparison → List Comparison → Line
  when : Comparison → List Comparison → Comparison → List Comparison → Line

-- ---- spelling
unfoldable mutual
  pub spell_e : Expr → List Token
  spell_e (one t) = spell_t t
  spell_e (plus e t) = spell_e e ++ (Fixed Plus ∷ spell_t t)
  spell_e (minus e t) = spell_e e ++ (Fixed Minus ∷ spell_t t)

  pub spell_t : Term → List Token
  spell_t (lone f) = spell_f f
  spell_t (times t f) = spell_t t ++ (Fixed Times ∷ spell_f f)

  pub spell_f : Factor → List Token
  spell_f (bare a) = spell_a a
  spell_f (squared a) = spell_a a ++ (Fixed Square ∷ [])

  pub spell_a : Atom → List Token
  spell_a (number n) = Number n ∷ []
  spell_a (name n) = Name n ∷ []
  spell_a (bracket e) = Fixed Open ∷ (spell_e e ++ (Fixed Close ∷ []))

-- op is one of `<= < >= > = !=`
abbrev pub mark_for : Sign → Mark
mark_for sign.AtMost = AtMost
mark_for sign.Below = Below
mark_for sign.AtLeast = AtLeast
mark_for sign.Above = Above
mark_for sign.Equal = Equal
mark_for sign.Differ = Differ

unfoldable pub spell_c : Comparison → List Token
spell_c c = spell_e c.left ++ (Fixed (mark_for c.sign) ∷ spell_e c.right)

-- comparisons with a mark between them
unfoldable pub spell_all : Mark → Comparison → List Comparison → List Token
spell_all m c [] = spell_c c
spell_all m c (d ∷ ds) = spell_c c ++ (Fixed m ∷ spell_all m d ds)

-- LOW and HIGH are numbers, with `-` directly before the digits allowed here only
abbrev pub signed : ℤ → Token
signed (pos n) = Number n
signed (negsuc n) = Negative (suc n)

unfoldable pub spell_line : Line → List Token
spell_line (ranged n low high) = Fixed Range ∷ Name n ∷ signed low ∷ signed high ∷ []
spell_line (default n) = Fixed Range ∷ Name n ∷ []
spell_line (must d ds) = Fixed Must ∷ spell_all Or d ds
spell_line (when c cs d ds) = Fixed If ∷ (spell_all And c cs ++ (Fixed Then ∷ spell_all Or d ds))
