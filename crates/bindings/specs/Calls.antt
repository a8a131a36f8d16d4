-- The answers of the calls in numbers, for C: each case of an answer has its number, and a call for C promises what the call of the same name
-- promises, of an answer that these are the numbers of.
use Rattle.std.specs.Prelude.{◌≡◌, List, ℕ, ℤ, Result, Ok, Err}
use Rattle.problem.specs.Grounds as problem
use Rattle.problem.specs.declared.Refusal as solve
use Rattle.search.specs.Solve.{Solves}
use Rattle.search.specs.declared.Answer.{Answer}
use Rattle.search.specs.declared.Answer.TheVariants as answer
use Rattle.search.specs.declared.Solved.{Solved}
use Rattle.sheet.specs.declared.Stretch.{Stretch}
use Rattle.meaning.specs.Grounds.{refusal_number}
use Rattle.translate.specs.Translate.{Translates}
use Rattle.translate.specs.declared.Counts.{Counts}
use Rattle.translate.specs.declared.Refused.{Refused}
use Rattle.bindings.specs.declared.SolveNumbers.{SolveNumbers}
use Rattle.bindings.specs.declared.TranslateNumbers.{TranslateNumbers}
use Rattle.bindings.specs.declared.LineSpan.{LineSpan}

-- 0 none, 1 found, 2 stopped
abbrev pub answer_number : Answer → ℕ
answer_number answer.None = 0
answer_number answer.Found = 1
answer_number answer.Stopped = 2

-- 3 refused, with document 01's number of the refusal, which is 0 where there is none; the sweep count of a refusal is 0
abbrev pub solve_numbers : Result Solved solve.Refusal → SolveNumbers
solve_numbers (Ok s) = record { answer = answer_number s.answer; refusal = 0; sweeps = s.sweeps }
solve_numbers (Err g) = record { answer = 3; refusal = problem.refusal_number g; sweeps = 0 }

-- document 01's number of the refusal and the line given, 0 where there is none; and the counts, 0 at a refusal
abbrev pub translate_numbers : Result Counts Refused → TranslateNumbers
translate_numbers (Ok c) =
    record {
      refusal = 0;
      line = 0;
      quantities = c.quantities;
      declared = c.declared;
      primitives = c.primitives;
      clauses = c.clauses;
      literals = c.literals;
    }
translate_numbers (Err r) =
    record { refusal = refusal_number r.refusal; line = r.line; quantities = 0; declared = 0; primitives = 0; clauses = 0; literals = 0 }

abbrev pub span_numbers : Stretch → LineSpan
span_numbers s = record { start = s.start; end = s.end }

-- the numbers of a solve's answer, which with the buffers is as `solve` promises
pub record SolvesInC (rs ps ns ls : List ℤ) (lead budget : ℤ) (p₀ w₀ p w : List ℤ) (r : SolveNumbers) : Type 0 where
  pub solved : Result Solved solve.Refusal
  pub solves : Solves rs ps ns ls lead budget p₀ w₀ p w solved
  pub numbers : r ≡ solve_numbers solved

-- the numbers of a translation's answer, which with the lists is as `translate` promises
pub record TranslatesInC (t : List ℕ) (rs₀ ps₀ ns₀ ls₀ : List ℤ) (bytes₀ : List ℕ) (rs ps ns ls : List ℤ) (bytes : List ℕ) (r : TranslateNumbers) : Type 0 where
  pub translated : Result Counts Refused
  pub translates : Translates t rs₀ ps₀ ns₀ ls₀ bytes₀ rs ps ns ls bytes translated
  pub numbers : r ≡ translate_numbers translated
