-- Demand 3: what the translated problem means for the sheet as written.
use Rattle.std.specs.Prelude.{◌≡◌, List, map, ℕ, ◌<◌, length, get_or}
use Rattle.whole.specs.Ranges.{Point}
use Rattle.problem.specs.Problem.{Problem, quantities, Satisfies}
use Rattle.problem.specs.Order.{Alike}
use Rattle.sheet.specs.Lines.{lines_of}
use Rattle.sheet.specs.Tokens.{tokens_of}
use Rattle.sheet.specs.Grammar.{Line, spell_line}
use Rattle.sheet.specs.Meaning.{Assignment, Obeys}
use Rattle.meaning.specs.Grounds.{behind_first}

-- the text's lines behind the first spell these trees
abbrev pub Spells : List ℕ → List Line → Type 0
Spells t ls = map tokens_of (behind_first (lines_of t)) ≡ map spell_line ls

-- a point gives each declared quantity the value of its name
abbrev pub Extends : List ℕ → Assignment → Point → Type 0
Extends names v p = (q : ℕ) → q < length names → p q ≡ v (get_or names q 0)

-- a sheet, as trees with these declared names, and a problem say the same
pub record Faithful (top : ℕ) (ls : List Line) (names : List ℕ) (b : Problem) : Type 0 where
  -- each assignment that obeys the sheet extends to a satisfying point
  pub there : (v : Assignment) → Obeys top v ls → (p : Point) × Extends names v p × Satisfies b p
  -- and to one only
  pub one : (p p' : Point) → Satisfies b p → Satisfies b p' → Alike (length names) p p' → Alike (quantities b.ranges) p p'
  -- each satisfying point comes from one: there is an assignment that it extends and that obeys the sheet
  pub back : (p : Point) → Satisfies b p → (v : Assignment) × Extends names v p × Obeys top v ls
  -- and so does every assignment that it extends
  pub every : (v : Assignment) (p : Point) → Extends names v p → Satisfies b p → Obeys top v ls
