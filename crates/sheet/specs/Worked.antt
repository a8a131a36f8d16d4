-- Worked lines, each from its text: the numbers that it compares at some values of the names, and whether it is obeyed; and lines that are not
-- of the forms. An edit of the spelling or of the meaning that they do not bear is refused by them.
use Rattle.std.specs.Prelude.{◌≡◌, Bool, true, false, cond, List, [], ◌∷◌, ◌++◌, eqb, ℤ, pos, neg_ℤ}
use Prim.Native.String.{String}
use Prim.Native.String as text
use Rattle.sheet.specs.Text.{bytes}
use Rattle.sheet.specs.Tokens.{key_of, tokens_of}
use Rattle.sheet.specs.Grammar.{Comparison, Line, ranged, default, must, when, spell_line}
use Rattle.sheet.specs.Meaning.{Assignment, value_e, ObeysLine}

-- some names, each with its value; any other name is 0
abbrev pub Names : Type 0
Names = List (String × ℤ)

abbrev pub values_in : Names → Assignment
values_in [] n = pos 0
values_in (p ∷ ps) n = cond (eqb n (key_of 0 (bytes p.0))) p.1 (values_in ps n)

-- the numbers that a line compares, in its order: the ends of its range, or both sides of each comparison
abbrev pub sides : Assignment → List Comparison → List ℤ
sides v [] = []
sides v (c ∷ cs) = value_e v c.left ∷ value_e v c.right ∷ sides v cs

abbrev pub numbers_of : Assignment → Line → List ℤ
numbers_of v (ranged n low high) = low ∷ high ∷ []
numbers_of v (default n) = []
numbers_of v (must d ds) = sides v (d ∷ ds)
numbers_of v (when c cs d ds) = sides v (c ∷ cs) ++ sides v (d ∷ ds)

-- a line with the values of its names: the numbers that it compares, and whether it is obeyed; or a line that is not of the forms
pub data Case : Type 0 where
  says : String → Names → List ℤ → Bool → Case
  unread : String → Case

-- true, or not
abbrev pub Truly : Bool → Type 0 → Type 0
Truly true A = A
Truly false A = ¬ A

-- a line passes if it spells a tree that compares these numbers and is obeyed or not, as said; or if it spells none
abbrev pub Passes : Case → Type 0
Passes (says s ns zs b) =
    (l : Line) × (tokens_of (bytes s) ≡ spell_line l) × (numbers_of (values_in ns) l ≡ zs) × Truly b (ObeysLine 1_000_000 (values_in ns) l)
Passes (unread s) = (l : Line) → tokens_of (bytes s) ≡ spell_line l → ⊥

-- the values of the names w and h
abbrev pub at : ℤ → ℤ → Names
at w h = ("w", w) ∷ ("h", h) ∷ []

-- a sign, at a left side below, at and above the right one
abbrev pub sign : String → Bool → Bool → Bool → List Case
sign s b e a =
    let l = text.◌++◌ "must w " (text.◌++◌ s " h") in
    says l (at (pos 1) (pos 2)) (pos 1 ∷ pos 2 ∷ []) b
    ∷ says l (at (pos 2) (pos 2)) (pos 2 ∷ pos 2 ∷ []) e
    ∷ says l (at (pos 3) (pos 2)) (pos 3 ∷ pos 2 ∷ []) a
    ∷ []

abbrev pub signs : List Case
signs =
    sign "<=" true true false
    ++ sign "<" true false false
    ++ sign ">=" false true true
    ++ sign ">" false false true
    ++ sign "=" false true false
    ++ sign "!=" true false true

-- values: equal ranks group to the left, products before sums, squares before products
abbrev pub values : List Case
values =
    says "must 3 != 3" [] (pos 3 ∷ pos 3 ∷ []) false
    ∷ says "must 10 - 4 - 3 = 3" [] (pos 3 ∷ pos 3 ∷ []) true
    ∷ says "must 10 - ( 4 - 3 ) = 9" [] (pos 9 ∷ pos 9 ∷ []) true
    ∷ says "must 2 + 3 * 4 = 14" [] (pos 14 ∷ pos 14 ∷ []) true
    ∷ says "must ( 2 + 3 ) ^2 = 25" [] (pos 25 ∷ pos 25 ∷ []) true
    ∷ says "must 2 * 3 ^2 = 18" [] (pos 18 ∷ pos 18 ∷ []) true
    ∷ says "must ( 1 + 2 ) * ( 7 - 3 ) = 12" [] (pos 12 ∷ pos 12 ∷ []) true
    ∷ says "must 3 - 10 < ( 3 - 10 ) ^2" [] (neg_ℤ (pos 7) ∷ pos 49 ∷ []) true
    ∷ says "must w * h = 35" (at (pos 5) (pos 7)) (pos 35 ∷ pos 35 ∷ []) true
    ∷ says "must h - w * w - h = 0 - w ^2" (at (pos 5) (pos 7)) (neg_ℤ (pos 25) ∷ neg_ℤ (pos 25) ∷ []) true
    ∷ []

-- numbers, their units, and the longest names
abbrev pub numbers : List Case
numbers =
    says "must 3K = 3072" [] (pos 3072 ∷ pos 3072 ∷ []) true
    ∷ says "must 3M = 3145728" [] (pos 3145728 ∷ pos 3145728 ∷ []) true
    ∷ says "must 4G = 4294967296" [] (pos 4294967296 ∷ pos 4294967296 ∷ []) true
    ∷ says "must 2K + 3M < 1G" [] (pos 3147776 ∷ pos 1073741824 ∷ []) true
    ∷ says "must 976562500K = 1000000000000" [] (pos 1000000000000 ∷ pos 1000000000000 ∷ []) true
    ∷ says "must 953674M < 1000000000000" [] (pos 999999668224 ∷ pos 1000000000000 ∷ []) true
    ∷ says "must 931G < 1000000000000" [] (pos 999653638144 ∷ pos 1000000000000 ∷ []) true
    ∷ says "must 0 = 0K" [] (pos 0 ∷ pos 0 ∷ []) true
    ∷ says "must abcdefgh < 9" (("abcdefgh", pos 8) ∷ []) (pos 8 ∷ pos 9 ∷ []) true
    ∷ []

-- rules: one D true, or one C false
abbrev pub rules : List Case
rules =
    says "must w = 6 or h = 7" (at (pos 5) (pos 7)) (pos 5 ∷ pos 6 ∷ pos 7 ∷ pos 7 ∷ []) true
    ∷ says "must w = 6 or h = 8" (at (pos 5) (pos 7)) (pos 5 ∷ pos 6 ∷ pos 7 ∷ pos 8 ∷ []) false
    ∷ says "if w = 5 and h = 7 then w = h" (at (pos 5) (pos 7)) (pos 5 ∷ pos 5 ∷ pos 7 ∷ pos 7 ∷ pos 5 ∷ pos 7 ∷ []) false
    ∷ says "if w = 5 and h = 8 then w = h" (at (pos 5) (pos 7)) (pos 5 ∷ pos 5 ∷ pos 7 ∷ pos 8 ∷ pos 5 ∷ pos 7 ∷ []) true
    ∷ says "if w = 5 then h = 8 or h = 7" (at (pos 5) (pos 7)) (pos 5 ∷ pos 5 ∷ pos 7 ∷ pos 8 ∷ pos 7 ∷ pos 7 ∷ []) true
    ∷ []

-- ranges, with both ends; `range NAME` is 0 to 1,000,000
abbrev pub ranges : List Case
ranges =
    says "range w -5 3" (at (neg_ℤ (pos 5)) (pos 0)) (neg_ℤ (pos 5) ∷ pos 3 ∷ []) true
    ∷ says "range w -5 3" (at (neg_ℤ (pos 6)) (pos 0)) (neg_ℤ (pos 5) ∷ pos 3 ∷ []) false
    ∷ says "range w -5 3" (at (pos 3) (pos 0)) (neg_ℤ (pos 5) ∷ pos 3 ∷ []) true
    ∷ says "range w -5 3" (at (pos 4) (pos 0)) (neg_ℤ (pos 5) ∷ pos 3 ∷ []) false
    ∷ says "range w 5 -3" (at (pos 0) (pos 0)) (pos 5 ∷ neg_ℤ (pos 3) ∷ []) false
    ∷ says "range w -931G 1K" (at (neg_ℤ (pos 999653638144)) (pos 0)) (neg_ℤ (pos 999653638144) ∷ pos 1024 ∷ []) true
    ∷ says "range w -931G 1K" (at (neg_ℤ (pos 999653638145)) (pos 0)) (neg_ℤ (pos 999653638144) ∷ pos 1024 ∷ []) false
    ∷ says "range w" (at (pos 0) (pos 0)) [] true
    ∷ says "range w" (at (pos 1_000_000) (pos 0)) [] true
    ∷ says "range w" (at (pos 1_000_001) (pos 0)) [] false
    ∷ says "range w" (at (neg_ℤ (pos 1)) (pos 0)) [] false
    ∷ []

-- not of the forms
abbrev pub unreads : List Case
unreads =
    unread "must x^2 < 3"
    ∷ unread "must x ^2 ^2 < 3"
    ∷ unread "must a < b < c"
    ∷ unread "must ( a < b )"
    ∷ unread "must ( a < b"
    ∷ unread "must a + < b"
    ∷ unread "must -3 < a"
    ∷ unread "must a < b and c < d"
    ∷ unread "must a"
    ∷ unread "must"
    ∷ unread "if a < b or c < d then a < c"
    ∷ unread "if a < b"
    ∷ unread "then a < b"
    ∷ unread "a < b"
    ∷ unread "range a - 5 3"
    ∷ unread "range a -0 3"
    ∷ unread "range a 3"
    ∷ unread "range a 1 2 3"
    ∷ unread "range 3"
    ∷ unread "range if"
    ∷ unread "range"
    ∷ unread ""
    ∷ unread "must  a < b"
    ∷ unread " must a < b"
    ∷ unread "must a < b "
    ∷ unread "must 03 < a"
    ∷ unread "must 976562501K < a"
    ∷ unread "must 953675M < a"
    ∷ unread "must 932G < a"
    ∷ unread "must 1000G < a"
    ∷ unread "range a -932G 0"
    ∷ unread "must 1000000000001 < a"
    ∷ unread "must 3k < a"
    ∷ unread "must A < b"
    ∷ unread "must abcdefghi < a"
    ∷ []

-- all of them
abbrev pub cases : List Case
cases = values ++ numbers ++ signs ++ rules ++ ranges ++ unreads
