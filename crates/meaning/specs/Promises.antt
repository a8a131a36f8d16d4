-- What is promised of a translation, one statement each; the theorems stand in proofs/Promises.antt.
use Rattle.std.specs.Prelude.{◌≡◌, false, List, ◌++◌, ℕ, ◌-◌, pos, length, replicate, Ok}
use Rattle.whole.specs.Lists.{AllOf}
use Rattle.whole.specs.Ranges.{Point}
use Rattle.problem.specs.Problem.{Inside, Holds}
use Rattle.problem.specs.Order.{Alike}
use Rattle.problem.specs.Lists.{problem_of}
use Rattle.problem.specs.Grounds.{judge_of}
use Rattle.problem.specs.Leading.{bad_leading}
use Rattle.sheet.specs.Text.{word}
use Rattle.sheet.specs.Tokens.{token_of}
use Rattle.sheet.specs.Grammar.{Line}
use Rattle.sheet.specs.declared.Token.TheVariants.{Name}
use Rattle.meaning.specs.Lists.{range_list, primitive_list, length_list, literals_in, literal_list, padded}
use Rattle.meaning.specs.Draft.{Draft, quantities_in, declared_in, problem_in}
use Rattle.meaning.specs.Grounds.{refused, read, top_in, outcome_of, refusal_number}
use Rattle.meaning.specs.Refused.{RefusedAt}
use Rattle.meaning.specs.Demand3.{Spells, Faithful}
use Rattle.meaning.specs.Fits.{Fits}
use Rattle.meaning.specs.declared.Refusal.{Refusal}

-- a sheet is refused only on document 01's ground of that number, at that line
abbrev pub Grounds : Type 0
Grounds = (t : List ℕ) (g : Refusal) (j : ℕ) → outcome_of t ≡ refused g j → RefusedAt t (refusal_number g) j

-- and wherever that ground is met there
abbrev pub GroundsBack : Type 0
GroundsBack = (t : List ℕ) (n j : ℕ) → RefusedAt t n j → (g : Refusal) × (refusal_number g ≡ n) × (outcome_of t ≡ refused g j)

-- each assignment that obeys the sheet extends to exactly one satisfying point, and each satisfying point comes from one
abbrev pub Demand3 : Type 0
Demand3 =
    (t : List ℕ) (s : Draft) → outcome_of t ≡ read s
    → (ls : List Line) × Spells t ls × (s.names ≡ declared_in ls) × Faithful (top_in t) ls s.names (problem_in s)

-- helper ranges lose nothing: values in the declared ranges, obeying or not, have helpers in every range, with every equation
abbrev pub Values : Type 0
Values =
    (t : List ℕ) (s : Draft) → outcome_of t ≡ read s
    → (p : Point) → Inside (length s.declared) p (range_list s.declared)
    → (p' : Point) × Alike (length s.declared) p' p × Inside (quantities_in s) p' (problem_in s).ranges × AllOf (Holds p') (problem_in s).primitives

-- an accepted sheet has room in lists of full size, and its names differ
abbrev pub Fitting : Type 0
Fitting = (t : List ℕ) (s : Draft) → outcome_of t ≡ read s → Fits s

-- its lists are refused by none of the grounds 1 to 5 of a solve
abbrev pub AcceptedSound : Type 0
AcceptedSound =
    (t : List ℕ) (s : Draft) → outcome_of t ≡ read s
    → judge_of (range_list (s.declared ++ s.made.ranges)) (primitive_list s.made.primitives)
    (length_list s.made.clauses) (literal_list (literals_in s.made.clauses)) ≡ Ok tt

-- nor by 8, its declared quantities being the leading ones
abbrev pub AcceptedLeads : Type 0
AcceptedLeads =
    (t : List ℕ) (s : Draft) → outcome_of t ≡ read s
    → bad_leading (range_list (s.declared ++ s.made.ranges)) (primitive_list s.made.primitives) (pos (length s.declared)) ≡ false

-- and read back they are its problem
abbrev pub ReadBack : Type 0
ReadBack =
    (s : Draft)
    → problem_of (range_list (s.declared ++ s.made.ranges)) (primitive_list s.made.primitives)
    (length_list s.made.clauses) (literal_list (literals_in s.made.clauses)) ≡ problem_in s

-- the 8 bytes of a name are the letters that the text has, padded with spaces
abbrev pub LettersBack : Type 0
LettersBack = (w : List ℕ) (k : ℕ) → token_of w ≡ Name k → padded k ≡ w ++ replicate (8 - length w) (word " ")
