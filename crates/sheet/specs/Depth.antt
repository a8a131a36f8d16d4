-- Ground 23 of document 01, "Sheets": more than 16 brackets open at some token (opened less closed).
use Rattle.std.specs.Prelude.{Bool, true, false, cond, List, [], ◌∷◌, ℕ, suc, ◌+◌, max, ltb}
use Rattle.sheet.specs.Grammar.{Expr, one, plus, minus, Term, lone, times, Factor, bare, squared, Atom, number, name, bracket}
use Rattle.sheet.specs.Grammar.{Comparison, Line, ranged, default, must, when}
use Rattle.sheet.specs.declared.Mark.TheVariants.{Open, Close, Plus, Minus, Times, Square, AtMost, Below, AtLeast, Above, Equal, Differ}
use Rattle.sheet.specs.declared.Mark.TheVariants.{Range, Must, If, Then, And, Or}
use Rattle.sheet.specs.declared.Token.{Token}
use Rattle.sheet.specs.declared.Token.TheVariants.{Number, Negative, Name, Fixed, Bad}

-- how many brackets a token opens: the opening one opens one
abbrev pub opens_of : Token → ℕ
opens_of (Number n) = 0
opens_of (Negative n) = 0
opens_of (Name n) = 0
opens_of (Fixed Open) = 1
opens_of (Fixed Close) = 0
opens_of (Fixed Plus) = 0
opens_of (Fixed Minus) = 0
opens_of (Fixed Times) = 0
opens_of (Fixed Square) = 0
opens_of (Fixed AtMost) = 0
opens_of (Fixed Below) = 0
opens_of (Fixed AtLeast) = 0
opens_of (Fixed Above) = 0
opens_of (Fixed Equal) = 0
opens_of (Fixed Differ) = 0
opens_of (Fixed Range) = 0
opens_of (Fixed Must) = 0
opens_of (Fixed If) = 0
opens_of (Fixed Then) = 0
opens_of (Fixed And) = 0
opens_of (Fixed Or) = 0
opens_of Bad = 0

-- and closes: the closing one closes one
abbrev pub closes_of : Token → ℕ
closes_of (Number n) = 0
closes_of (Negative n) = 0
closes_of (Name n) = 0
closes_of (Fixed Open) = 0
closes_of (Fixed Close) = 1
closes_of (Fixed Plus) = 0
closes_of (Fixed Minus) = 0
closes_of (Fixed Times) = 0
closes_of (Fixed Square) = 0
closes_of (Fixed AtMost) = 0
closes_of (Fixed Below) = 0
closes_of (Fixed AtLeast) = 0
closes_of (Fixed Above) = 0
closes_of (Fixed Equal) = 0
closes_of (Fixed Differ) = 0
closes_of (Fixed Range) = 0
closes_of (Fixed Must) = 0
closes_of (Fixed If) = 0
closes_of (Fixed Then) = 0
closes_of (Fixed And) = 0
closes_of (Fixed Or) = 0
closes_of Bad = 0

-- whether more than 16 are open at one of these tokens, if o were opened and c closed before them
unfoldable pub deep_from : ℕ → ℕ → List Token → Bool
deep_from o c [] = false
deep_from o c (t ∷ ts) =
    cond (ltb (c + closes_of t + 16) (o + opens_of t)) true (deep_from (o + opens_of t) (c + closes_of t) ts)

-- whether more than 16 are open at some token of a line
abbrev pub too_deep : List Token → Bool
too_deep ts = deep_from 0 0 ts

-- ---- how deep the brackets of a tree nest; a line that spells it is too deep exactly above 16: Promises.antt
unfoldable mutual
  pub depth_e : Expr → ℕ
  depth_e (one t) = depth_t t
  depth_e (plus e t) = max (depth_e e) (depth_t t)
  depth_e (minus e t) = max (depth_e e) (depth_t t)

  pub depth_t : Term → ℕ
  depth_t (lone f) = depth_f f
  depth_t (times t f) = max (depth_t t) (depth_f f)

  pub depth_f : Factor → ℕ
  depth_f (bare a) = depth_a a
  depth_f (squared a) = depth_a a

  pub depth_a : Atom → ℕ
  depth_a (number n) = 0
  depth_a (name n) = 0
  depth_a (bracket e) = suc (depth_e e)

unfoldable pub depth_c : Comparison → ℕ
depth_c c = max (depth_e c.left) (depth_e c.right)

unfoldable pub depth_all : Comparison → List Comparison → ℕ
depth_all c [] = depth_c c
depth_all c (d ∷ ds) = max (depth_c c) (depth_all d ds)

unfoldable pub depth_line : Line → ℕ
depth_line (ranged n low high) = 0
depth_line (default n) = 0
depth_line (must d ds) = depth_all d ds
depth_line (when c cs d ds) = max (depth_all c cs) (depth_all d ds)
