-- A token's number tells which token it is, and the number of the first token tells what each reading does; both by cases.
use mathlib.Core.Path.{◌≡◌, refl, sym, ◌∙◌, ap}
use mathlib.Core.List.{List, [], ◌∷◌, ◌++◌, append_assoc}
use mathlib.Core.Option.{some}
use Prim.Native.Nat.{ℕ, suc, ◌-◌, ◌<◌}
use native.Mathlib.Omega.{arith}
use lib.ListN.{get_or}
use borrow.Author.Tests.{ne_eqb}
use Rattle.sheet.specs.Grammar.{Expr, plus, minus, Term, times}
use Rattle.sheet.specs.Reading.{token_no, payload, head_of, rest_of, head_no, and_then, expr_f, sum_f, term_f, prod_f, factor_f}
use Rattle.sheet.specs.declared.Mark.{Mark}
use Rattle.sheet.specs.declared.Mark.TheVariants.{Open, Close, Plus, Minus, Times, Square, AtMost, Below, AtLeast, Above, Equal, Differ, Range, Must, If, Then, And, Or}
use Rattle.sheet.specs.declared.Token.{Token}
use Rattle.sheet.specs.declared.Token.TheVariants.{Number, Negative, Name, Fixed, Bad}

-- the marks, by their numbers
marks : List Mark
marks =
    Open ∷ Close ∷ Plus ∷ Minus ∷ Times ∷ Square
    ∷ AtMost ∷ Below ∷ AtLeast ∷ Above ∷ Equal ∷ Differ ∷ Range ∷ Must ∷ If ∷ Then ∷ And ∷ Or ∷ []

mark_at : ℕ → Token
mark_at n = Fixed (get_or marks (n - 4) Or)

mark_at_lem : (t : Token) → 3 < token_no t → mark_at (token_no t) ≡ t
unfolding mark_at marks
mark_at_lem (Number n) h = absurd (omega arith)
mark_at_lem (Name n) h = absurd (omega arith)
mark_at_lem (Negative n) h = absurd (omega arith)
mark_at_lem (Fixed Open) h = refl
mark_at_lem (Fixed Close) h = refl
mark_at_lem (Fixed Plus) h = refl
mark_at_lem (Fixed Minus) h = refl
mark_at_lem (Fixed Times) h = refl
mark_at_lem (Fixed Square) h = refl
mark_at_lem (Fixed AtMost) h = refl
mark_at_lem (Fixed Below) h = refl
mark_at_lem (Fixed AtLeast) h = refl
mark_at_lem (Fixed Above) h = refl
mark_at_lem (Fixed Equal) h = refl
mark_at_lem (Fixed Differ) h = refl
mark_at_lem (Fixed Range) h = refl
mark_at_lem (Fixed Must) h = refl
mark_at_lem (Fixed If) h = refl
mark_at_lem (Fixed Then) h = refl
mark_at_lem (Fixed And) h = refl
mark_at_lem (Fixed Or) h = refl
mark_at_lem Bad h = absurd (omega arith)

-- the number of a mark is above 3
pub mark_above : (m : Mark) → 3 < token_no (Fixed m)
mark_above Open = omega arith
mark_above Close = omega arith
mark_above Plus = omega arith
mark_above Minus = omega arith
mark_above Times = omega arith
mark_above Square = omega arith
mark_above AtMost = omega arith
mark_above Below = omega arith
mark_above AtLeast = omega arith
mark_above Above = omega arith
mark_above Equal = omega arith
mark_above Differ = omega arith
mark_above Range = omega arith
mark_above Must = omega arith
mark_above If = omega arith
mark_above Then = omega arith
mark_above And = omega arith
mark_above Or = omega arith

-- so a token with a mark's number is that mark, and any other token has another number
pub is_mark : (t : Token) (m : Mark) → token_no t ≡ token_no (Fixed m) → t ≡ Fixed m
is_mark t m e =
    let h = mark_above m in
    sym (mark_at_lem t (omega arith)) ∙ ap mark_at e ∙ mark_at_lem (Fixed m) h

pub not_mark : (t : Token) (m : Mark) → (t ≡ Fixed m → ⊥) → token_no t ≡ token_no (Fixed m) → ⊥
not_mark t m h e = h (is_mark t m e)

pub is_number : (t : Token) → token_no t ≡ 1 → t ≡ Number (payload t)
is_number (Number n) e = refl
is_number (Negative n) e = absurd (omega arith)
is_number (Name n) e = absurd (omega arith)
is_number (Fixed m) e = absurd (omega (arith, mark_above m))
is_number Bad e = absurd (omega arith)

pub is_name : (t : Token) → token_no t ≡ 2 → t ≡ Name (payload t)
is_name (Number n) e = absurd (omega arith)
is_name (Negative n) e = absurd (omega arith)
is_name (Name n) e = refl
is_name (Fixed m) e = absurd (omega (arith, mark_above m))
is_name Bad e = absurd (omega arith)

-- tokens whose first has a number
pub headed : (ts : List Token) (m : Mark) → head_no ts ≡ token_no (Fixed m) → ts ≡ Fixed m ∷ rest_of ts
headed [] m e = absurd (omega (arith, mark_above m))
headed (t ∷ ts) m e = ap (λ (u : Token). u ∷ ts) (is_mark t m e)

-- a mark behind other tokens, and what follows it
pub behind : (front ts us vs : List Token) (m : Mark) → head_no ts ≡ token_no (Fixed m) → rest_of ts ≡ us ++ vs
    → front ++ ts ≡ (front ++ (Fixed m ∷ us)) ++ vs
behind front ts us vs m d e =
    ap (λ (ws : List Token). front ++ ws) (headed ts m d ∙ ap (λ (ws : List Token). Fixed m ∷ ws) e) ∙ sym (append_assoc front (Fixed m ∷ us) vs)

pub headed_number : (ts : List Token) → head_no ts ≡ 1 → ts ≡ Number (payload (head_of ts)) ∷ rest_of ts
headed_number [] e = absurd (omega arith)
headed_number (u ∷ ts) e = ap (λ (v : Token). v ∷ ts) (is_number u e)

pub headed_name : (ts : List Token) → head_no ts ≡ 2 → ts ≡ Name (payload (head_of ts)) ∷ rest_of ts
headed_name [] e = absurd (omega arith)
headed_name (u ∷ ts) e = ap (λ (v : Token). v ∷ ts) (is_name u e)

-- the readings, at each kind of first token
module _ (k : ℕ) (ts : List Token) where
  pub sum_plus : (e : Expr) → head_no ts ≡ 6 → sum_f (suc k) e ts ≡ and_then (term_f k (rest_of ts)) (λ t rest. sum_f k (plus e t) rest)
  unfolding expr_f
  sum_plus e d = rw d

  pub sum_minus : (e : Expr) → head_no ts ≡ 7 → sum_f (suc k) e ts ≡ and_then (term_f k (rest_of ts)) (λ t rest. sum_f k (minus e t) rest)
  unfolding expr_f
  sum_minus e d = rw d

  pub sum_stop : (e : Expr) → (head_no ts ≡ 6 → ⊥) → (head_no ts ≡ 7 → ⊥) → sum_f (suc k) e ts ≡ some (e, ts)
  unfolding expr_f
  sum_stop e d f = rw (ne_eqb (head_no ts) 6 d, ne_eqb (head_no ts) 7 f)

  pub prod_times : (t : Term) → head_no ts ≡ 8 → prod_f (suc k) t ts ≡ and_then (factor_f k (rest_of ts)) (λ f rest. prod_f k (times t f) rest)
  unfolding expr_f
  prod_times t d = rw d

  pub prod_stop : (t : Term) → (head_no ts ≡ 8 → ⊥) → prod_f (suc k) t ts ≡ some (t, ts)
  unfolding expr_f
  prod_stop t d = rw (ne_eqb (head_no ts) 8 d)
