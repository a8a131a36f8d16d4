-- What an answer means for the sheet as written: the statement that ties demands 2 and 3 together.
use Rattle.std.specs.Prelude.{◌≡◌, List, ℕ, ℤ, length, get_or}
use Rattle.whole.specs.Ranges.{Point}
use Rattle.problem.specs.Order.{Before}
use Rattle.search.specs.Demand2.{point_at}
use Rattle.search.specs.declared.Answer.{Answer}
use Rattle.search.specs.declared.Answer.TheVariants.{None, Found, Stopped}
use Rattle.sheet.specs.Grammar.{Line}
use Rattle.sheet.specs.Meaning.{Assignment, Obeys}
use Rattle.meaning.specs.Plain.{place_of}

-- the values that an assignment gives the declared names, in order of declaration
abbrev pub in_order : List ℕ → Assignment → Point
in_order names v q = v (get_or names q 0)

-- the assignment that the point buffer gives the declared names
abbrev pub by_point : List ℕ → List ℤ → Assignment
by_point names point n = point_at point (place_of names n)

-- no assignment that obeys the sheet comes before these values, the declared names compared in order
abbrev pub NoneObeysBefore : ℕ → List Line → List ℕ → List ℤ → Type 0
NoneObeysBefore top ls names point = (v : Assignment) → Obeys top v ls → Before (length names) (in_order names v) (point_at point) → ⊥

pub record Means (top : ℕ) (ls : List Line) (names : List ℕ) (a : Answer) (point : List ℤ) : Type 0 where
  -- none: no assignment obeys the sheet
  pub none : a ≡ None → (v : Assignment) → Obeys top v ls → ⊥
  -- found: the values obey it, and no obeying assignment comes before them
  pub found : a ≡ Found → Obeys top (by_point names point) ls
  pub smallest : a ≡ Found → NoneObeysBefore top ls names point
  -- stopped: no obeying assignment comes before the floor
  pub floor : a ≡ Stopped → NoneObeysBefore top ls names point
