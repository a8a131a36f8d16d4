-- What the pieces of a line are: document 01, "Sheets". Tokens are separated by exactly one space; a token is a number with its value, a name,
-- or one of the fixed marks. A name is its letters as one number.
use Rattle.std.specs.Prelude.{◌≡◌, Bool, true, false, cond, ◌&&◌, List, [], ◌∷◌, map, ℕ, zero, suc, ◌+◌, ◌-◌, ◌*◌, ◌≤◌, ◌<◌, leb, ltb, eqb, length, Option, Some, None}
use Prim.Native.String.{String}
use Rattle.sheet.specs.Lines.{with_first}
use Rattle.sheet.specs.Text.{word, bytes}
use Rattle.sheet.specs.declared.Mark.{Mark}
use Rattle.sheet.specs.declared.Mark.TheVariants.{Open, Close, Plus, Minus, Times, Square, AtMost, Below, AtLeast, Above, Equal, Differ}
use Rattle.sheet.specs.declared.Mark.TheVariants.{Range, Must, If, Then, And, Or}
use Rattle.sheet.specs.declared.Token.{Token}
use Rattle.sheet.specs.declared.Token.TheVariants.{Number, Negative, Name, Fixed, Bad}

-- the pieces between spaces
unfoldable pub pieces_of : List ℕ → List (List ℕ)
pieces_of [] = [] ∷ []
pieces_of (b ∷ bs) = cond (eqb b (word " ")) ([] ∷ pieces_of bs) (with_first b (pieces_of bs))

-- ---- numbers: digits without leading zeros, then optionally K, M or G directly after
abbrev pub is_digit : ℕ → Bool
is_digit b = leb (word "0") b && leb b (word "9")

-- K, M or G, for 1,024, its square or its cube (document 02, L2); 0 for any other byte
abbrev pub unit_of : ℕ → ℕ
unit_of b = cond (eqb b (word "K")) 1_024 (cond (eqb b (word "M")) (1_024 * 1_024) (cond (eqb b (word "G")) (1_024 * 1_024 * 1_024) 0))

-- a number's value, or none where it has none
abbrev pub Value : Type 0
Value = Option ℕ

-- the value is at most M = 10^12
abbrev pub limited : ℕ → Value
limited v = cond (leb v 1_000_000_000_000) (Some v) None

-- a unit at the end
unfoldable pub suffix_of : ℕ → ℕ → List ℕ → Value
suffix_of v b [] = cond (eqb (unit_of b) 0) None (limited (v * unit_of b))
suffix_of v b (x ∷ xs) = None

-- what further digits, and a unit, make of the value of the digits before them
unfoldable pub digits_of : ℕ → List ℕ → Value
digits_of v [] = limited v
digits_of v (b ∷ bs) = cond (is_digit b) (digits_of (v * 10 + (b - word "0")) bs) (suffix_of v b bs)

-- a digit stands first
unfoldable pub digit_first : List ℕ → Bool
digit_first [] = false
digit_first (b ∷ bs) = is_digit b

-- the value of a piece that is a number
unfoldable pub number_of : List ℕ → Value
number_of [] = None
number_of (b ∷ bs) = cond (is_digit b) (cond (eqb b (word "0") && digit_first bs) None (digits_of (b - word "0") bs)) None

abbrev pub as_number : Value → Token
as_number (Some v) = Number v
as_number None = Bad

-- `-` directly before the digits, not with the value 0
abbrev pub as_negative : Value → Token
as_negative (Some zero) = Bad
as_negative (Some (suc v)) = Negative (suc v)
as_negative None = Bad

-- ---- names and marks: the bytes of a piece as one number, to the base 256
unfoldable pub key_of : ℕ → List ℕ → ℕ
key_of k [] = k
key_of k (b ∷ bs) = key_of (k * 256 + b) bs

unfoldable pub all_lower : List ℕ → Bool
all_lower [] = true
all_lower (b ∷ bs) = leb (word "a") b && (leb b (word "z") && all_lower bs)

-- the fixed marks as they are written
abbrev pub text_of : Mark → String
text_of Open = "("
text_of Close = ")"
text_of Plus = "+"
text_of Minus = "-"
text_of Times = "*"
text_of Square = "^2"
text_of AtMost = "<="
text_of Below = "<"
text_of AtLeast = ">="
text_of Above = ">"
text_of Equal = "="
text_of Differ = "!="
text_of Range = "range"
text_of Must = "must"
text_of If = "if"
text_of Then = "then"
text_of And = "and"
text_of Or = "or"

-- the mark that a number stands for
unfoldable pub mark_of : ℕ → Token
mark_of k =
    cond (eqb k (word "(")) (Fixed Open)
    (cond (eqb k (word ")")) (Fixed Close)
    (cond (eqb k (word "+")) (Fixed Plus)
    (cond (eqb k (word "-")) (Fixed Minus)
    (cond (eqb k (word "*")) (Fixed Times)
    (cond (eqb k (word "^2")) (Fixed Square)
    (cond (eqb k (word "<=")) (Fixed AtMost)
    (cond (eqb k (word "<")) (Fixed Below)
    (cond (eqb k (word ">=")) (Fixed AtLeast)
    (cond (eqb k (word ">")) (Fixed Above)
    (cond (eqb k (word "=")) (Fixed Equal)
    (cond (eqb k (word "!=")) (Fixed Differ)
    (cond (eqb k (word "range")) (Fixed Range)
    (cond (eqb k (word "must")) (Fixed Must)
    (cond (eqb k (word "if")) (Fixed If)
    (cond (eqb k (word "then")) (Fixed Then)
    (cond (eqb k (word "and")) (Fixed And)
    (cond (eqb k (word "or")) (Fixed Or) Bad)))))))))))))))))

-- t, or u where t is no token
abbrev pub or_else : Token → Token → Token
or_else (Number n) u = Number n
or_else (Negative n) u = Negative n
or_else (Name n) u = Name n
or_else (Fixed m) u = Fixed m
or_else Bad u = u

-- a name: 1 to 8 lower-case letters
abbrev pub as_name : List ℕ → Token
as_name w = cond (ltb 0 (length w) && all_lower w) (Name (key_of 0 w)) Bad

-- what a name is: 1 to 8 lower-case letters, none of the marks
pub record IsName (w : List ℕ) : Type 0 where
  pub some : 0 < length w
  pub short : length w ≤ 8
  pub lower : all_lower w ≡ true
  pub unmarked : (m : Mark) → ¬ (w ≡ bytes (text_of m))

-- a mark, or a name that is none of the marks
abbrev pub word_of : List ℕ → Token
word_of w = cond (leb (length w) 8) (or_else (mark_of (key_of 0 w)) (as_name w)) Bad

-- `-` and a digit behind it
unfoldable pub minus_first : List ℕ → Bool
minus_first [] = false
minus_first (b ∷ bs) = eqb b (word "-") && digit_first bs

abbrev pub behind : List ℕ → List ℕ
behind [] = []
behind (b ∷ bs) = bs

-- the token that a piece is
unfoldable pub token_of : List ℕ → Token
token_of w =
    cond (digit_first w) (as_number (number_of w))
    (cond (minus_first w) (as_negative (number_of (behind w))) (word_of w))

-- the tokens of a line
unfoldable pub tokens_of : List ℕ → List Token
tokens_of l = map token_of (pieces_of l)
