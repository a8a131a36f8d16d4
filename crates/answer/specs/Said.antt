-- What the desk's output means for the sheet as written: one sentence for each of the four words that it begins with.
use Rattle.std.specs.Prelude.{◌≡◌, ◌⊎◌, List, ◌++◌, ℕ, ◌<◌, ℤ, length}
use Prim.Native.String.{String}
use Rattle.search.specs.Depth.{room_of}
use Rattle.sheet.specs.Text.{bytes}
use Rattle.sheet.specs.Grammar.{Line}
use Rattle.sheet.specs.Meaning.{Assignment, Obeys}
use Rattle.meaning.specs.Draft.{draft_of, declared_in, problem_in}
use Rattle.meaning.specs.Grounds.{top_in}
use Rattle.meaning.specs.Refused.{RefusedAt}
use Rattle.meaning.specs.Demand3.{Spells}
use Rattle.answer.specs.Output.{count_line, value_lines, refused_line}
use Rattle.answer.specs.Sheets.{by_point, NoneObeysBefore}

-- the output begins with this word
abbrev pub Begins : String → List ℕ → Type 0
Begins w out = (rest : List ℕ) × (out ≡ bytes w ++ rest)

-- a text that none of grounds 20 to 30 refuses, and the trees that its lines spell
pub record Sheet (t : List ℕ) (trees : List Line) : Type 0 where
  pub spelt : Spells t trees
  pub unrefused : (g k : ℕ) → RefusedAt t g k → ⊥

-- the word and the sweep count, then a line for each of these names with its value
pub record Prints (w : String) (names : List ℕ) (values : List ℤ) (out : List ℕ) : Type 0 where
  pub sweeps : ℕ
  pub each : length values ≡ length names
  pub whole : out ≡ count_line (bytes w) sweeps ++ value_lines names values

-- NONE: no assignment obeys the sheet
pub record SaysNone (t out : List ℕ) : Type 0 where
  pub trees : List Line
  pub sheet : Sheet t trees
  pub sweeps : ℕ
  pub whole : out ≡ count_line (bytes "NONE") sweeps
  pub none : (v : Assignment) → Obeys (top_in t) v trees → ⊥

-- FOUND: the values printed obey it, and no assignment that obeys it comes before them, names compared in order of declaration
pub record SaysFound (t out : List ℕ) : Type 0 where
  pub trees : List Line
  pub sheet : Sheet t trees
  pub values : List ℤ
  pub printed : Prints "FOUND" (declared_in trees) values out
  pub obey : Obeys (top_in t) (by_point (declared_in trees) values) trees
  pub first : NoneObeysBefore (top_in t) trees (declared_in trees) values

-- STOP: none that obeys it comes before the values printed
pub record SaysStop (t out : List ℕ) : Type 0 where
  pub trees : List Line
  pub sheet : Sheet t trees
  pub values : List ℤ
  pub printed : Prints "STOP" (declared_in trees) values out
  pub floor : NoneObeysBefore (top_in t) trees (declared_in trees) values

-- 7 at line 0: a sheet whose solve, with D over the declared quantities, needs more than the workspace of 8,192 numbers
pub record TooWide (t : List ℕ) (g k : ℕ) : Type 0 where
  pub ground : g ≡ 7
  pub line : k ≡ 0
  pub trees : List Line
  pub sheet : Sheet t trees
  pub room : 8_192 < room_of (length (declared_in trees)) (problem_in (draft_of (top_in t) trees)).ranges

-- REFUSED: that ground at that line
pub record SaysRefused (t out : List ℕ) : Type 0 where
  pub ground : ℕ
  pub line : ℕ
  pub whole : out ≡ refused_line ground line
  pub met : RefusedAt t ground line ⊎ TooWide t ground line

-- what the output for a text says
pub record Said (t out : List ℕ) : Type 0 where
  pub word : Begins "NONE" out ⊎ (Begins "FOUND" out ⊎ (Begins "STOP" out ⊎ Begins "REFUSED" out))
  pub none : Begins "NONE" out → SaysNone t out
  pub found : Begins "FOUND" out → SaysFound t out
  pub stop : Begins "STOP" out → SaysStop t out
  pub refused : Begins "REFUSED" out → SaysRefused t out
