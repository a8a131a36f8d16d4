-- What is promised of `answer`, and of a solve of a sheet's lists.
use Rattle.std.specs.Prelude.{◌≡◌, true, List, ℕ, ◌≤◌, ℤ, length, take, Result, Ok}
use Rattle.problem.specs.declared.Refusal.{Refusal}
use Rattle.search.specs.Solve.{judged, Solves}
use Rattle.search.specs.declared.Solved.{Solved}
use Rattle.sheet.specs.Grammar.{Line}
use Rattle.meaning.specs.Draft.{Draft}
use Rattle.meaning.specs.Grounds.{top_in, outcome_of, read}
use Rattle.meaning.specs.Demand3.{Spells}
use Rattle.answer.specs.Output.{range_list_of, primitive_list_of, length_list_of, literal_list_of, output_of, Answers}
use Rattle.answer.specs.Sheets.{Means}
use Rattle.answer.specs.Said.{Said}
use Rattle.answer.specs.Examples.{examples, all_pass}

-- NONE, FOUND, STOP and REFUSED say of the sheet as written what they seem to say, and nothing else is written
abbrev pub AnswerMeans : Type 0
AnswerMeans = (t out₀ : List ℕ) (r : ℕ) (out : List ℕ) → Answers t out₀ r out → Said t (take r out)

-- the contract of `answer` determines the length and every byte
abbrev pub Once : Type 0
Once = (t out₀ : List ℕ) (r r' : ℕ) (out out' : List ℕ) → Answers t out₀ r out → Answers t out₀ r' out' → (r ≡ r') × (out ≡ out')

-- the output always fits 4,096 bytes
abbrev pub OutputShort : Type 0
OutputShort = (t : List ℕ) → length (output_of t) ≤ 4_096

-- for every accepted sheet, leading number, budget and workspace: none, found and stopped hold for the sheet as written, in order of declaration
abbrev pub SheetAnswer : Type 0
SheetAnswer =
    (t : List ℕ) (s : Draft) → outcome_of t ≡ read s
    → (lead budget : ℤ) (p₀ w₀ p w : List ℤ) (r : Result Solved Refusal)
    → Solves (range_list_of s) (primitive_list_of s) (length_list_of s) (literal_list_of s) lead budget p₀ w₀ p w r
    → judged (range_list_of s) (primitive_list_of s) (length_list_of s) (literal_list_of s) lead budget p₀ w₀ ≡ Ok tt
    → (a : Solved) × (r ≡ Ok a) × (trees : List Line) × Spells t trees × Means (top_in t) trees s.names a.answer p

-- document 01's examples P1 to P12 hold of the definitions
abbrev pub AllHold : Type 0
AllHold = all_pass examples ≡ true
