-- An answer to the translated lists holds for the sheet as written: demand 2 for the problem, demand 3 from the problem to the sheet.
use mathlib.Core.Path.{◌≡◌, refl}
use mathlib.Core.List.{List}
use Prim.Native.Nat.{ℕ}
use native.Mathlib.Omega.{arith}
use lib.IntN.{ℤ}
use Rattle.search.specs.Demand2.{Right, NoneBefore, point_at}
use Rattle.search.specs.declared.Solved.{Solved}
use Rattle.search.proofs.Answered.{sound_right}
use Rattle.sheet.specs.Grammar.{Line}
use Rattle.meaning.specs.Draft.{Draft, problem_in}
use Rattle.meaning.specs.Grounds.{top_in, outcome_of, read}
use Rattle.meaning.specs.Demand3.{Faithful}
use Rattle.meaning.proofs.Demand3 as demand3
use Rattle.meaning.proofs.Fits.{fits, read_back}
use Rattle.answer.specs.Promises.{SheetAnswer}
use Rattle.answer.specs.Sheets.{Means, in_order, NoneObeysBefore}

module _ (t : List ℕ) (s : Draft) (e : outcome_of t ≡ read s) (ls : List Line) (f : Faithful (top_in t) ls s.names (problem_in s)) where
  module _ {budget : ℕ} {r : Solved} {p : List ℤ} (right : Right (problem_in s) budget r.answer r.sweeps p) where
    unless_before : NoneBefore (problem_in s) (point_at p) → NoneObeysBefore (top_in t) ls s.names p
    unless_before none v o =
        demand3.least (top_in t) ls s.names (problem_in s) f (omega (arith, (fits t s e).within, demand3.counted s)) (point_at p) none v o (in_order s.names v) (λ q l. refl)

    pub means : Means (top_in t) ls s.names r.answer p
    means =
        record {
          none = λ h. demand3.none (top_in t) ls s.names (problem_in s) f (right.none h);
          found = λ h. demand3.found (top_in t) ls s.names (problem_in s) f (fits t s e).distinct (point_at p) (right.found h).satisfies;
          smallest = λ h. unless_before (right.found h).first;
          floor = λ h. unless_before (right.floor h);
        }

pub sheet_answered : SheetAnswer
sheet_answered t s e lead budget p₀ w₀ p w r solves sound =
    let d = demand3.demand3 t s e in
    let a = sound_right solves sound in
    (a.0, a.1, d.0, d.1, means t s e d.0 d.3 (rw (read_back s) at a.2))
