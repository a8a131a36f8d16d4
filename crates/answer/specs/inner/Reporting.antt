-- For the code: what is written of a solve, from the lists of an accepted sheet. proofs/Reporting.antt ties it to Output.antt.
use Rattle.std.specs.Prelude.{List, ◌++◌, ℕ, ◌/◌, ◌≤◌, ℤ, pos, length, take, replicate, Result, Ok, Err}
use Rattle.problem.specs.Grounds.{refusal_number}
use Rattle.problem.specs.Lists.{problem_of}
use Rattle.problem.specs.declared.Refusal.{Refusal}
use Rattle.search.specs.Search.{Outcome, search_of}
use Rattle.search.specs.Solve.{Judged, judged, result_of, unless, point_of}
use Rattle.search.specs.declared.Answer.{Answer}
use Rattle.search.specs.declared.Answer.TheVariants.{None, Found, Stopped}
use Rattle.search.specs.declared.Solved.{Solved}
use Rattle.sheet.specs.Text.{bytes}
use Rattle.answer.specs.Output.{refused_line, count_line, desk_budget, desk_work}
use Rattle.answer.specs.inner.Writing.{lines_for}

-- an answer's lines, with the names as bytes
abbrev pub report_of : Answer → ℕ → List ℕ → List ℤ → List ℕ
report_of None sweeps names point = count_line (bytes "NONE") sweeps
report_of Found sweeps names point = count_line (bytes "FOUND") sweeps ++ lines_for names point
report_of Stopped sweeps names point = count_line (bytes "STOP") sweeps ++ lines_for names point

-- a solve's lines, likewise
abbrev pub report_of_solve : Result Solved Refusal → List ℕ → List ℤ → List ℕ
report_of_solve (Ok s) names point = report_of s.answer s.sweeps names point
report_of_solve (Err g) names point = refused_line (refusal_number g) 0

-- the judgement and the outcome of a search, the first of whose quantities have these names, with what the point buffer came with
abbrev pub report_by : Judged → Outcome → List ℕ → List ℤ → List ℕ
report_by j o names point =
    report_of_solve (result_of j desk_budget o) names (take (length names / 8) (unless j (point_of o point) point))

-- the solve of these lists, the quantities that have names leading
unfoldable pub report_on : List ℤ → List ℤ → List ℤ → List ℤ → List ℕ → List ℕ
report_on rs ps ns ls names =
    let point = replicate (length rs / 2) (pos 0) in
    report_by (judged rs ps ns ls (pos (length names / 8)) (pos desk_budget) point desk_work) (search_of (problem_of rs ps ns ls) desk_budget) names point

-- lists that fit the desk's buffers
pub record Fronts (rs : List ℤ) (names : List ℕ) : Type 0 where
  pub few : length rs / 2 ≤ 128
  pub named : length names / 8 ≤ length rs / 2
