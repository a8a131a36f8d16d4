-- What the code writes of a solve is the answer's lines: the lists read back as the sheet's problem, and names that are letters are written without their padding.
use mathlib.Core.Path.{◌≡◌, refl, sym, ap, ◌∙◌}
use mathlib.Core.List.{List, ◌∷◌, ◌++◌}
use Prim.Native.Nat.{ℕ, zero, suc, ◌*◌, ◌/◌, ◌≤◌}
use native.Mathlib.Omega.{arith}
use lib.IntN.{ℤ, pos}
use lib.ListN.{length, take, drop, replicate, length-append, length-take, length-replicate}
use lib.Seq.{take-append-le, length-take-le}
use Rattle.whole.specs.Lists.{AllOf}
use Rattle.problem.specs.Problem.{Problem}
use Rattle.problem.specs.Grounds.{refusal_number}
use Rattle.problem.specs.declared.Refusal.{Refusal}
use Rattle.std.specs.Prelude.{Result, Ok, Err}
use Rattle.search.specs.Search.{search_of}
use Rattle.search.specs.Solve.{Judged, judged, result_of, unless, point_of, Solves}
use Rattle.search.specs.declared.Answer.{Answer}
use Rattle.search.specs.declared.Answer.TheVariants.{None, Found, Stopped}
use Rattle.search.specs.declared.Solved.{Solved}
use Rattle.meaning.specs.Lists.{range_list, primitive_list, length_list, literals_in, literal_list, name_bytes}
use Rattle.meaning.specs.Draft.{Draft, quantities_in, problem_in}
use Rattle.meaning.specs.Grounds.{read, outcome_of}
use Rattle.meaning.proofs.FlatLists.{ranges_length, names_length}
use Rattle.meaning.proofs.Fits.{fits, read_back}
use Rattle.sheet.specs.Text.{bytes}
use Rattle.answer.specs.Output.{refused_line, count_line, answer_lines, solve_lines, desk_budget, desk_work, desk_point, solved_of}
use Rattle.answer.specs.inner.Writing.{lines_for}
use Rattle.answer.specs.inner.Reporting.{report_of, report_of_solve, report_by, report_on, Fronts}
use Rattle.answer.proofs.Names.{Lettered, names_lettered}
use Rattle.answer.proofs.Letters.{lines_are}

-- ---- one answer
module _ (a : Answer) (k : ℕ) (names : List ℕ) (point : List ℤ) where
  pub report_none : a ≡ None → count_line (bytes "NONE") k ≡ report_of a k names point
  report_none e = ap (λ (x : Answer). report_of x k names point) (sym e)

  pub report_found : a ≡ Found → count_line (bytes "FOUND") k ++ lines_for names point ≡ report_of a k names point
  report_found e = ap (λ (x : Answer). report_of x k names point) (sym e)

  pub report_stopped : a ≡ Stopped → count_line (bytes "STOP") k ++ lines_for names point ≡ report_of a k names point
  report_stopped e = ap (λ (x : Answer). report_of x k names point) (sym e)

-- ---- a solve's answer or refusal
module _ (r : Result Solved Refusal) (names : List ℕ) (point : List ℤ) where
  pub report_answered : (s : Solved) → r ≡ Ok s → report_of s.answer s.sweeps names point ≡ report_of_solve r names point
  report_answered s e = ap (λ (x : Result Solved Refusal). report_of_solve x names point) (sym e)

  pub report_refused : (g : Refusal) (n : ℕ) → r ≡ Err g → n ≡ refusal_number g → refused_line n 0 ≡ report_of_solve r names point
  report_refused g n e f = ap (λ (m : ℕ). refused_line m 0) f ∙ ap (λ (x : Result Solved Refusal). report_of_solve x names point) (sym e)

-- ---- one solve, with the point buffer in front of a longer one of zeros
pub zeros : (n m : ℕ) → n ≤ m → take n (replicate m (pos 0)) ≡ replicate n (pos 0)
zeros zero m h = refl
zeros (suc n) zero h = absurd (omega arith)
zeros (suc n) (suc m) h = ap (λ (l : List ℤ). pos 0 ∷ l) (zeros n m (omega arith))

pub zeros_length : (n m : ℕ) → n ≤ m → n ≡ length (take n (replicate m (pos 0)))
zeros_length n m h = sym (length-take-le n (replicate m (pos 0)) (simp length-replicate (omega arith)))

pub report_on_lem : (rs ps ns ls : List ℤ) (names : List ℕ) (lead : ℤ) (point work p w rest : List ℤ) (r : Result Solved Refusal) → Solves rs ps ns ls lead (pos desk_budget) point work p w r → lead ≡ pos (length names / 8) → point ≡ replicate (length rs / 2) (pos 0) → work ≡ desk_work → length names / 8 ≤ length p → report_of_solve r names (take (length names / 8) (p ++ rest)) ≡ report_on rs ps ns ls names
unfolding report_on
report_on_lem rs ps ns ls names lead point work p w rest r h d e f l =
    rw (take-append-le (length names / 8) p rest l, h.result, h.point, d, e, f)

-- the desk's buffers: just n zeros of its point buffer, and its whole workspace
pub solve_reported : (rs ps ns ls : List ℤ) (names : List ℕ) (lead : ℤ) (p w : List ℤ) (r : Result Solved Refusal) → Fronts rs names → lead ≡ pos (length names / 8) → length p ≡ length (take (length rs / 2) (replicate 128 (pos 0))) → Solves rs ps ns ls lead (pos desk_budget) (take (length rs / 2) (replicate 128 (pos 0))) desk_work p w r → report_of_solve r names (take (length names / 8) (p ++ drop (length rs / 2) (replicate 128 (pos 0)))) ≡ report_on rs ps ns ls names
solve_reported rs ps ns ls names lead p w r f e l s =
    report_on_lem rs ps ns ls names lead _ _ p w (drop (length rs / 2) (replicate 128 (pos 0))) r s e (zeros (length rs / 2) 128 f.few) refl (omega (arith, l, zeros_length (length rs / 2) 128 f.few, f.named))

-- ---- one sheet
report_is : (a : Answer) (k : ℕ) (ns : List ℕ) (zs : List ℤ) → AllOf Lettered ns → report_of a k (name_bytes ns) (take (length ns) zs) ≡ answer_lines a k ns zs
report_is None k ns zs h = refl
report_is Found k ns zs h = ap (λ (l : List ℕ). count_line (bytes "FOUND") k ++ l) (lines_are ns zs h)
report_is Stopped k ns zs h = ap (λ (l : List ℕ). count_line (bytes "STOP") k ++ l) (lines_are ns zs h)

reports_is : (r : Result Solved Refusal) (ns : List ℕ) (zs : List ℤ) → AllOf Lettered ns → report_of_solve r (name_bytes ns) (take (length ns) zs) ≡ solve_lines r ns zs
reports_is (Ok s) ns zs h = report_is s.answer s.sweeps ns zs h
reports_is (Err g) ns zs h = refl

pub report_sheet : (t : List ℕ) (s : Draft) → outcome_of t ≡ read s → report_on (range_list (s.declared ++ s.made.ranges)) (primitive_list s.made.primitives) (length_list s.made.clauses) (literal_list (literals_in s.made.clauses)) (name_bytes s.names) ≡ solved_of s
unfolding report_on solved_of
report_sheet t s e =
    let rs = s.declared ++ s.made.ranges in
    let j : ℕ → List ℤ → Judged = λ lead point. judged (range_list rs) (primitive_list s.made.primitives) (length_list s.made.clauses) (literal_list (literals_in s.made.clauses)) (pos lead) (pos desk_budget) point desk_work in
    let o = search_of (problem_in s) desk_budget in
    let n : length (range_list rs) / 2 ≡ quantities_in s = omega (arith, ranges_length rs, length-append s.declared s.made.ranges) in
    let d : length (name_bytes s.names) / 8 ≡ length s.names = omega (arith, names_length s.names) in
    let lead = length s.declared in
    let r = result_of (j lead (desk_point s)) desk_budget o in
    let zs = unless (j lead (desk_point s)) (point_of o (desk_point s)) (desk_point s) in
    ap (λ (p : Problem). report_by (j (length (name_bytes s.names) / 8) (replicate (length (range_list rs) / 2) (pos 0))) (search_of p desk_budget) (name_bytes s.names) (replicate (length (range_list rs) / 2) (pos 0))) (read_back s)
    ∙ ap (λ (k : ℕ). report_by (j k (replicate (length (range_list rs) / 2) (pos 0))) o (name_bytes s.names) (replicate (length (range_list rs) / 2) (pos 0))) (d ∙ (fits t s e).many)
    ∙ ap (λ (k : ℕ). report_by (j lead (replicate k (pos 0))) o (name_bytes s.names) (replicate k (pos 0))) n
    ∙ ap (λ (k : ℕ). report_of_solve r (name_bytes s.names) (take k zs)) d
    ∙ reports_is r s.names zs (names_lettered t s e)
