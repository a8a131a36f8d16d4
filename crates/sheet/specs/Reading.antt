-- Reading a line: the tree that its tokens spell, if there is one. That reading finds just the tree that is spelt stands in Promises.antt.
-- The number that each reading starts with bounds how deep it goes; `read_line` gives enough for every line.
use Rattle.std.specs.Prelude.{Bool, cond, ◌&&◌, ◌||◌, List, [], ◌∷◌, ℕ, zero, suc, ◌+◌, ◌-◌, ◌*◌, eqb, leb, ℤ, pos, negsuc, length}
use Rattle.std.proofs.Math.Option.{Option, none, some}
use Rattle.sheet.specs.Grammar.{Expr, one, plus, minus, Term, lone, times, Factor, bare, squared, Atom, number, name, bracket}
use Rattle.sheet.specs.Grammar.{Comparison, Line, ranged, default, must, when}
use Rattle.sheet.specs.declared.Mark.TheVariants.{Open, Close, Plus, Minus, Times, Square, AtMost, Below, AtLeast, Above, Equal, Differ}
use Rattle.sheet.specs.declared.Mark.TheVariants.{Range, Must, If, Then, And, Or}
use Rattle.sheet.specs.declared.Token.{Token}
use Rattle.sheet.specs.declared.Token.TheVariants.{Number, Negative, Name, Fixed, Bad}
use Rattle.sheet.specs.declared.Sign.{Sign}
use Rattle.sheet.specs.declared.Sign.TheVariants as sign

-- a token's number: 0 for none, 1 a number, 2 a name, 3 a negative number, and from 4 on the marks
abbrev pub token_no : Token → ℕ
token_no (Number n) = 1
token_no (Name n) = 2
token_no (Negative n) = 3
token_no (Fixed Open) = 4
token_no (Fixed Close) = 5
token_no (Fixed Plus) = 6
token_no (Fixed Minus) = 7
token_no (Fixed Times) = 8
token_no (Fixed Square) = 9
token_no (Fixed AtMost) = 10
token_no (Fixed Below) = 11
token_no (Fixed AtLeast) = 12
token_no (Fixed Above) = 13
token_no (Fixed Equal) = 14
token_no (Fixed Differ) = 15
token_no (Fixed Range) = 16
token_no (Fixed Must) = 17
token_no (Fixed If) = 18
token_no (Fixed Then) = 19
token_no (Fixed And) = 20
token_no (Fixed Or) = 21
token_no Bad = 0

-- what a token holds
abbrev pub payload : Token → ℕ
payload (Number n) = n
payload (Negative n) = n
payload (Name n) = n
payload (Fixed m) = 0
payload Bad = 0

-- the first token and the others; where there is none, none
abbrev pub head_of : List Token → Token
head_of [] = Bad
head_of (t ∷ ts) = t

abbrev pub rest_of : List Token → List Token
rest_of [] = []
rest_of (t ∷ ts) = ts

abbrev pub head_no : List Token → ℕ
head_no ts = token_no (head_of ts)

-- a reading: the tree, and the tokens behind it
abbrev pub Read : Type 0 → Type 0
Read A = Option (A × List Token)

abbrev pub and_then : {A B : Type 0} → Read A → (A → List Token → Read B) → Read B
and_then none f = none
and_then (some p) f = f p.0 p.1

-- an atom squared where the mark follows; an expression in brackets where the closing one follows
abbrev pub maybe_squared : Atom → List Token → Read Factor
maybe_squared a ts = cond (eqb (head_no ts) 9) (some (squared a, rest_of ts)) (some (bare a, ts))

abbrev pub closed : Expr → List Token → Read Atom
closed e ts = cond (eqb (head_no ts) 5) (some (bracket e, rest_of ts)) none

unfoldable mutual
  pub expr_f : ℕ → List Token → Read Expr
  expr_f zero ts = none
  expr_f (suc k) ts = and_then (term_f k ts) (λ t rest. sum_f k (one t) rest)

  -- more terms
  pub sum_f : ℕ → Expr → List Token → Read Expr
  sum_f zero e ts = none
  sum_f (suc k) e ts =
      let p = and_then (term_f k (rest_of ts)) (λ t rest. sum_f k (plus e t) rest) in
      let m = and_then (term_f k (rest_of ts)) (λ t rest. sum_f k (minus e t) rest) in
      cond (eqb (head_no ts) 6) p (cond (eqb (head_no ts) 7) m (some (e, ts)))

  pub term_f : ℕ → List Token → Read Term
  term_f zero ts = none
  term_f (suc k) ts = and_then (factor_f k ts) (λ f rest. prod_f k (lone f) rest)

  -- more factors
  pub prod_f : ℕ → Term → List Token → Read Term
  prod_f zero t ts = none
  prod_f (suc k) t ts =
      let p = and_then (factor_f k (rest_of ts)) (λ f rest. prod_f k (times t f) rest) in
      cond (eqb (head_no ts) 8) p (some (t, ts))

  pub factor_f : ℕ → List Token → Read Factor
  factor_f zero ts = none
  factor_f (suc k) ts = and_then (atom_f k ts) maybe_squared

  pub atom_f : ℕ → List Token → Read Atom
  atom_f zero ts = none
  atom_f (suc k) ts =
      let b = and_then (expr_f k (rest_of ts)) closed in
      cond (eqb (head_no ts) 1) (some (number (payload (head_of ts)), rest_of ts))
      (cond (eqb (head_no ts) 2) (some (name (payload (head_of ts)), rest_of ts))
      (cond (eqb (head_no ts) 4) b none))

-- the sign that a token is
abbrev pub sign_of : ℕ → Sign
sign_of n =
    cond (eqb n 10) sign.AtMost
    (cond (eqb n 11) sign.Below
    (cond (eqb n 12) sign.AtLeast
    (cond (eqb n 13) sign.Above
    (cond (eqb n 14) sign.Equal sign.Differ))))

abbrev pub compared : Expr → ℕ → Expr → List Token → Read Comparison
compared l n r ts = some (record { left = l; sign = sign_of n; right = r }, ts)

-- `expr op expr`
unfoldable pub comparison_f : ℕ → List Token → Read Comparison
comparison_f k ts =
    and_then (expr_f k ts)
    (λ l rest.
    let r = and_then (expr_f k (rest_of rest)) (compared l (head_no rest)) in
    cond (leb 10 (head_no rest) && leb (head_no rest) 15) r none)

-- more comparisons, each behind the mark with number m
unfoldable pub more_f : ℕ → ℕ → List Token → Read (List Comparison)
more_f zero m ts = none
more_f (suc k) m ts =
    let r = and_then (comparison_f k (rest_of ts)) (λ c rest. and_then (more_f k m rest) (λ cs end. some (c ∷ cs, end))) in
    cond (eqb (head_no ts) m) r (some ([], ts))

-- the last part of a line: what was read, if no token is left
abbrev pub whole : {A : Type 0} → Read A → Option A
whole none = none
whole (some (a, [])) = some a
whole (some (a, (t ∷ ts))) = none

-- comparisons with the mark with number m between them, first and others
unfoldable pub all_f : ℕ → ℕ → List Token → Read (Comparison × List Comparison)
all_f k m ts = and_then (comparison_f k ts) (λ c rest. and_then (more_f k m rest) (λ cs end. some ((c, cs), end)))

-- LOW or HIGH
abbrev pub signed_of : Token → ℤ
signed_of (Number n) = pos n
signed_of (Negative n) = negsuc (n - 1)
signed_of (Name n) = pos 0
signed_of (Fixed m) = pos 0
signed_of Bad = pos 0

abbrev pub is_signed : Token → Bool
is_signed t = eqb (token_no t) 1 || eqb (token_no t) 3

-- behind `range`: a name, and nothing or LOW and HIGH
unfoldable pub read_range : List Token → Option Line
read_range [] = none
read_range (n ∷ []) = cond (eqb (token_no n) 2) (some (default (payload n))) none
read_range (n ∷ (l ∷ [])) = none
read_range (n ∷ (l ∷ (h ∷ []))) =
    cond (eqb (token_no n) 2 && (is_signed l && is_signed h)) (some (ranged (payload n) (signed_of l) (signed_of h))) none
read_range (n ∷ (l ∷ (h ∷ (t ∷ ts)))) = none

abbrev pub as_must : Option (Comparison × List Comparison) → Option Line
as_must none = none
as_must (some p) = some (must p.0 p.1)

abbrev pub as_when : Comparison × List Comparison → Option (Comparison × List Comparison) → Option Line
as_when c none = none
as_when c (some d) = some (when c.0 c.1 d.0 d.1)

-- behind the conditions: `then`, and the demands
abbrev pub then_of : ℕ → Read (Comparison × List Comparison) → Option Line
then_of k none = none
then_of k (some p) = let r = as_when p.0 (whole (all_f k 21 (rest_of p.1))) in cond (eqb (head_no p.1) 19) r none

-- the tree that a line's tokens spell
unfoldable pub read_line : List Token → Option Line
read_line ts =
    let k = 8 * length ts + 8 in
    let m = as_must (whole (all_f k 21 (rest_of ts))) in
    let w = then_of k (all_f k 20 (rest_of ts)) in
    cond (eqb (head_no ts) 16) (read_range (rest_of ts)) (cond (eqb (head_no ts) 17) m (cond (eqb (head_no ts) 18) w none))
