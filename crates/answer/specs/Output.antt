-- What the desk program prints: document 01, "The desk program".
use Rattle.std.specs.Prelude.{◌≡◌, cond, List, [], ◌∷◌, ◌++◌, ℕ, zero, suc, ◌+◌, ◌/◌, ◌%◌, ltb, ℤ, pos, negsuc, length, drop, replicate, Result, Ok, Err}
use Rattle.search.specs.Solve.{judged, result_of, unless, point_of}
use Rattle.search.specs.Search.{search_of}
use Rattle.search.specs.declared.Answer.{Answer}
use Rattle.search.specs.declared.Answer.TheVariants.{None, Found, Stopped}
use Rattle.search.specs.declared.Solved.{Solved}
use Rattle.problem.specs.Grounds.{refusal_number}
use Rattle.problem.specs.declared.Refusal.{Refusal}
use Rattle.meaning.specs.Lists.{range_list, primitive_list, length_list, literals_in, literal_list, letters_of}
use Rattle.meaning.specs.Draft.{Draft, quantities_in, problem_in}
use Rattle.meaning.specs.Grounds as sheet
use Rattle.sheet.specs.Text.{bytes, word}

-- digits of a number, at most f + 1 of them
unfoldable pub digits : ℕ → ℕ → List ℕ
digits zero n = (word "0" + n % 10) ∷ []
digits (suc f) n = cond (ltb n 10) ((word "0" + n) ∷ []) (digits f (n / 10) ++ ((word "0" + n % 10) ∷ []))

-- a number in decimal
abbrev pub decimal : ℕ → List ℕ
decimal n = digits 19 n

-- a value, with `-` where it is below 0
abbrev pub signed_decimal : ℤ → List ℕ
signed_decimal (pos n) = decimal n
signed_decimal (negsuc n) = word "-" ∷ decimal (suc n)

-- a name, without padding, a space, its value, LF
abbrev pub value_line : ℕ → ℤ → List ℕ
value_line k z = letters_of 8 k ++ (word " " ∷ (signed_decimal z ++ (word "\n" ∷ [])))

-- each declared name and value
unfoldable pub value_lines : List ℕ → List ℤ → List ℕ
value_lines [] zs = []
value_lines (k ∷ ks) [] = []
value_lines (k ∷ ks) (z ∷ zs) = value_line k z ++ value_lines ks zs

-- `REFUSED`, number and line
abbrev pub refused_line : ℕ → ℕ → List ℕ
refused_line number line = bytes "REFUSED " ++ (decimal number ++ (word " " ∷ (decimal line ++ (word "\n" ∷ []))))

-- a word and the sweep count
abbrev pub count_line : List ℕ → ℕ → List ℕ
count_line said sweeps = said ++ (word " " ∷ (decimal sweeps ++ (word "\n" ∷ [])))

-- `NONE` has no value lines; after `STOP` they are the floor
abbrev pub answer_lines : Answer → ℕ → List ℕ → List ℤ → List ℕ
answer_lines None sweeps names point = count_line (bytes "NONE") sweeps
answer_lines Found sweeps names point = count_line (bytes "FOUND") sweeps ++ value_lines names point
answer_lines Stopped sweeps names point = count_line (bytes "STOP") sweeps ++ value_lines names point

-- of a solve: a refusal's line, or the answer's
abbrev pub solve_lines : Result Solved Refusal → List ℕ → List ℤ → List ℕ
solve_lines (Ok s) names point = answer_lines s.answer s.sweeps names point
solve_lines (Err g) names point = refused_line (refusal_number g) 0

-- budget 100,000 and a workspace of 8,192 numbers
abbrev pub desk_budget : ℕ
desk_budget = 100_000

abbrev pub desk_work : List ℤ
desk_work = replicate 8_192 (pos 0)

-- the declared quantities lead
abbrev pub desk_lead : Draft → ℤ
desk_lead s = pos (length s.declared)

abbrev pub desk_point : Draft → List ℤ
desk_point s = replicate (quantities_in s) (pos 0)

-- the lists of an accepted sheet, as they fill the fronts of the caller's
abbrev pub range_list_of : Draft → List ℤ
range_list_of s = range_list (s.declared ++ s.made.ranges)

abbrev pub primitive_list_of : Draft → List ℤ
primitive_list_of s = primitive_list s.made.primitives

abbrev pub length_list_of : Draft → List ℤ
length_list_of s = length_list s.made.clauses

abbrev pub literal_list_of : Draft → List ℤ
literal_list_of s = literal_list (literals_in s.made.clauses)

-- the solve of an accepted sheet, with the filled fronts of the lists
unfoldable pub solved_of : Draft → List ℕ
solved_of s =
    let j = judged (range_list_of s) (primitive_list_of s) (length_list_of s) (literal_list_of s) (desk_lead s) (pos desk_budget) (desk_point s) desk_work in
    let o = search_of (problem_in s) desk_budget in
    solve_lines (result_of j desk_budget o) s.names (unless j (point_of o (desk_point s)) (desk_point s))

abbrev pub printed : sheet.Outcome → List ℕ
printed (sheet.refused g k) = refused_line (sheet.refusal_number g) k
printed (sheet.read s) = solved_of s

-- the whole output for a sheet's text
unfoldable pub output_of : List ℕ → List ℕ
output_of t = printed (sheet.outcome_of t)

-- the length is returned, and the output stands at the front of the buffer; the bytes past it are as they came
pub record Answers (t : List ℕ) (out₀ : List ℕ) (r : ℕ) (out : List ℕ) : Type 0 where
  pub long : r ≡ length (output_of t)
  pub front : out ≡ output_of t ++ drop (length (output_of t)) out₀
