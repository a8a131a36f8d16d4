-- Grounds 19 to 30, in document 01's order, each as its own definition; the first line with a fault decides, the lowest number within it.
use Rattle.std.specs.Prelude.{Bool, true, false, not, cond, ◌||◌, ◌&&◌, List, [], ◌∷◌, ℕ, suc, ◌+◌, ◌-◌, ◌*◌, eqb, leb, ltb, ℤ, length, get_or, Some, None}
use Rattle.std.proofs.Math.Option.{Option, none, some}
use Rattle.std.specs.Int.Signed.{lt_z}
use Rattle.whole.specs.declared.Range.{Range}
use Rattle.problem.specs.Grounds.{beyond}
use Rattle.sheet.specs.Lines.{lines_of, line_of}
use Rattle.sheet.specs.Text.{word}
use Rattle.sheet.specs.Tokens.{Value, is_digit, digit_first, tokens_of}
use Rattle.sheet.specs.Depth.{too_deep}
use Rattle.sheet.specs.Grammar.{Comparison, Line, ranged, default, must, when}
use Rattle.sheet.specs.Reading.{read_line}
use Rattle.meaning.specs.Plain.{is_in, named_e, asks_of}
use Rattle.meaning.specs.Translation.{gaps, equalities}
use Rattle.meaning.specs.Draft.{Draft, blank, quantities_in, after}
use Rattle.meaning.specs.declared.Refusal.{Refusal}
use Rattle.meaning.specs.declared.Refusal.TheVariants as refusal

-- 19: a lent list shorter than its full size (256, 1,024, 256 and 3,072 numbers; 1,024 name bytes)
abbrev pub short_lists : List ℤ → List ℤ → List ℤ → List ℤ → List ℕ → Bool
short_lists rs ps ns ls bytes =
    ltb (length rs) 256 || (ltb (length ps) 1024 || (ltb (length ns) 256 || (ltb (length ls) 3072 || ltb (length bytes) 1024)))

-- a byte other than LF and 32 to 126
abbrev pub bad_byte : ℕ → Bool
bad_byte b = not (eqb b (word "\n")) && (ltb b 32 || ltb 126 b)

unfoldable pub any_bad_byte : List ℕ → Bool
any_bad_byte [] = false
any_bad_byte (b ∷ bs) = bad_byte b || any_bad_byte bs

-- 20: empty, over 4,096 bytes, a byte other than LF and 32 to 126, or no LF at the end
abbrev pub bad_text : List ℕ → Bool
bad_text t = eqb (length t) 0 || (ltb 4096 (length t) || (any_bad_byte t || not (eqb (get_or t (length t - 1) 0) (word "\n"))))

-- the value of digits alone, going on from the value of those before; at most 65,535
unfoldable pub version_from : ℕ → List ℕ → Value
version_from v [] = cond (leb v 65_535) (Some v) None
version_from v (b ∷ bs) = cond (is_digit b) (version_from (v * 10 + (b - word "0")) bs) None

-- a version of 0 to 65,535 without leading zeros
unfoldable pub version_of : List ℕ → Value
version_of [] = None
version_of (b ∷ bs) = cond (is_digit b && not (eqb b (word "0") && digit_first bs)) (version_from (b - word "0") bs) None

-- 21: line 1 is the mark `RUL`, a space, and a version
unfoldable pub first_line : List ℕ → Value
first_line [] = None
first_line (r ∷ []) = None
first_line (r ∷ (u ∷ [])) = None
first_line (r ∷ (u ∷ (l ∷ []))) = None
first_line (r ∷ (u ∷ (l ∷ (s ∷ ds)))) = cond (eqb r (word "R") && (eqb u (word "U") && (eqb l (word "L") && eqb s (word " ")))) (version_of ds) None

-- 22: a version other than 1 or 2
abbrev pub other_version : ℕ → Bool
other_version v = not (eqb v 1 || eqb v 2)

-- the top of the default range, by the version: 1,000,000 in version 1, 200,000 from version 2
abbrev pub top_of : ℕ → ℕ
top_of v = cond (eqb v 1) 1_000_000 200_000

-- the version that line 1 gives; 0 where it is malformed
abbrev pub version_in : Value → ℕ
version_in None = 0
version_in (Some v) = v

-- the top of the default range in a text
abbrev pub top_in : List ℕ → ℕ
top_in t = top_of (version_in (first_line (line_of t 1)))

-- 24: a range line after a rule
abbrev pub late_range : Draft → Line → Bool
late_range s (ranged n low high) = s.ruled
late_range s (default n) = s.ruled
late_range s (must d ds) = false
late_range s (when c cs d ds) = false

-- every name of these comparisons was declared
unfoldable pub named_all : List ℕ → List Comparison → Bool
named_all ns [] = true
named_all ns (c ∷ cs) = (named_e ns c.left && named_e ns c.right) && named_all ns cs

-- 25: name declared twice, or used undeclared
abbrev pub bad_names : Draft → Line → Bool
bad_names s (ranged n low high) = is_in s.names n
bad_names s (default n) = is_in s.names n
bad_names s (must d ds) = not (named_all s.names (d ∷ ds))
bad_names s (when c cs d ds) = not (named_all s.names (c ∷ cs) && named_all s.names (d ∷ ds))

-- 26: range line with low above high
abbrev pub bad_order : Line → Bool
bad_order (ranged n low high) = lt_z high low
bad_order (default n) = false
bad_order (must d ds) = false
bad_order (when c cs d ds) = false

-- some range leaves plus or minus M
unfoldable pub any_beyond : List Range → Bool
any_beyond [] = false
any_beyond (r ∷ rs) = (beyond r.low || beyond r.high) || any_beyond rs

-- 27: more than one equality demand in a rule
abbrev pub many_demands : Draft → Line → Bool
many_demands s l = ltb 1 (equalities (asks_of s.names l))

-- 28: a helper's range leaves plus or minus M
abbrev pub helper_beyond : Draft → Line → Bool
helper_beyond s l = any_beyond (gaps s.declared (quantities_in s) (asks_of s.names l)).ranges

-- 29: more than 128 quantities
abbrev pub many_quantities : ℕ → Draft → Line → Bool
many_quantities top s l = ltb 128 (quantities_in (after top s l))

-- the grounds of a line that is of the forms: 24 to 29
unfoldable pub tree_fault : ℕ → Draft → Line → Option Refusal
tree_fault top s l =
    cond (late_range s l) (some refusal.Form)
    (cond (bad_names s l) (some refusal.Names)
    (cond (bad_order l) (some refusal.Order)
    (cond (many_demands s l) (some refusal.Equalities)
    (cond (helper_beyond s l) (some refusal.Beyond)
    (cond (many_quantities top s l) (some refusal.Many) none)))))

-- what becomes of a sheet: refused on a ground at a line, or read
pub data Outcome : Type 0 where
  refused : Refusal → ℕ → Outcome
  read : Draft → Outcome

abbrev pub or_refused : Option Refusal → ℕ → Outcome → Outcome
or_refused none k o = o
or_refused (some g) k o = refused g k

-- 24: line not of the forms
abbrev pub line_outcome : ℕ → Draft → ℕ → Option Line → Outcome
line_outcome top s k none = refused refusal.Form k
line_outcome top s k (some l) = or_refused (tree_fault top s l) k (read (after top s l))

-- one line: 23, more than 16 brackets open at some token, goes before the others
unfoldable pub one_line : ℕ → Draft → ℕ → List ℕ → Outcome
one_line top s k l = cond (too_deep (tokens_of l)) (refused refusal.Brackets k) (line_outcome top s k (read_line (tokens_of l)))

-- the lines in order, the first of them being number k
unfoldable pub read_lines : ℕ → ℕ → Draft → List (List ℕ) → Outcome
read_lines top k s [] = read s
read_lines top k s (l ∷ ls) = elim (one_line top s k l) [ refused g j ↦ refused g j | read s' ↦ read_lines top (suc k) s' ls ]

-- 30: no quantity declared, given only where no line has a fault
abbrev pub some_declared : Outcome → Outcome
some_declared (refused g k) = refused g k
some_declared (read s) = cond (eqb (length s.names) 0) (refused refusal.Undeclared 0) (read s)

abbrev pub behind_first : List (List ℕ) → List (List ℕ)
behind_first [] = []
behind_first (l ∷ ls) = ls

-- by what line 1 is: 21, 22, or the lines behind it decide
abbrev pub by_version : Value → List ℕ → Outcome
by_version None t = refused refusal.FirstLine 1
by_version (Some v) t =
    cond (other_version v) (refused refusal.Version 1) (some_declared (read_lines (top_of v) 2 blank (behind_first (lines_of t))))

-- the whole text
unfoldable pub outcome_of : List ℕ → Outcome
outcome_of t = cond (bad_text t) (refused refusal.Text 0) (by_version (first_line (line_of t 1)) t)

-- document 01's number of each refusal of a sheet
abbrev pub refusal_number : Refusal → ℕ
refusal_number refusal.Lists = 19
refusal_number refusal.Text = 20
refusal_number refusal.FirstLine = 21
refusal_number refusal.Version = 22
refusal_number refusal.Brackets = 23
refusal_number refusal.Form = 24
refusal_number refusal.Names = 25
refusal_number refusal.Order = 26
refusal_number refusal.Equalities = 27
refusal_number refusal.Beyond = 28
refusal_number refusal.Many = 29
refusal_number refusal.Undeclared = 30
