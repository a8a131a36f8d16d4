-- On which ground a text is refused, and at which line: document 01's table of a sheet's refusals, said of lines and of the trees they spell.
use Rattle.std.specs.Prelude.{◌≡◌, true, false, List, [], ◌∷◌, ◌++◌, ℕ, ◌+◌, length, Some, None}
use Rattle.problem.specs.Grounds.{FirstMet}
use Rattle.sheet.specs.Lines.{lines_of, line_of}
use Rattle.sheet.specs.Tokens.{tokens_of}
use Rattle.sheet.specs.Depth.{too_deep}
use Rattle.sheet.specs.Grammar.{Line, spell_line}
use Rattle.meaning.specs.Draft.{Draft, blank, after, draft_of, declared_in}
use Rattle.meaning.specs.Grounds.{bad_text, first_line, other_version, top_of, behind_first}
use Rattle.meaning.specs.Grounds.{late_range, bad_names, bad_order, many_demands, helper_beyond, many_quantities}

-- the grounds of a line behind lines that made the draft s, by document 01's number
pub data LineGround (top : ℕ) (s : Draft) (l : List ℕ) : ℕ → Type 0 where
  -- more than 16 brackets open at some token
  brackets : too_deep (tokens_of l) ≡ true → LineGround top s l 23
  -- line not of the forms
  formless : ((x : Line) → tokens_of l ≡ spell_line x → ⊥) → LineGround top s l 24
  -- or a range line after a rule
  late : (x : Line) → tokens_of l ≡ spell_line x → late_range s x ≡ true → LineGround top s l 24
  -- name declared twice, or used undeclared
  names : (x : Line) → tokens_of l ≡ spell_line x → bad_names s x ≡ true → LineGround top s l 25
  -- range line with low above high
  order : (x : Line) → tokens_of l ≡ spell_line x → bad_order x ≡ true → LineGround top s l 26
  -- more than one equality demand in a rule
  demands : (x : Line) → tokens_of l ≡ spell_line x → many_demands s x ≡ true → LineGround top s l 27
  -- a helper's range leaves plus or minus M
  beyond : (x : Line) → tokens_of l ≡ spell_line x → helper_beyond s x ≡ true → LineGround top s l 28
  -- more than 128 quantities
  many : (x : Line) → tokens_of l ≡ spell_line x → many_quantities top s x ≡ true → LineGround top s l 29

-- these lines spell these trees, and none has a fault behind those before it
abbrev pub FaultFree : ℕ → Draft → List (List ℕ) → List Line → Type 0
FaultFree top s [] [] = Unit {0}
FaultFree top s [] (x ∷ xs) = ⊥
FaultFree top s (l ∷ ls) [] = ⊥
FaultFree top s (l ∷ ls) (x ∷ xs) =
    (tokens_of l ≡ spell_line x) × ((g : ℕ) → LineGround top s l g → ⊥) × FaultFree top (after top s x) ls xs

-- the first line with a fault, of lines numbered from k on: the lowest number within it
pub record FirstFault (top k : ℕ) (ls : List (List ℕ)) (g j : ℕ) : Type 0 where
  pub before : List (List ℕ)
  pub line : List ℕ
  pub behind : List (List ℕ)
  pub split : ls ≡ before ++ (line ∷ behind)
  pub trees : List Line
  pub fine : FaultFree top blank before trees
  pub fault : FirstMet (LineGround top (draft_of top trees) line) g
  pub number : j ≡ k + length before

-- the whole text: the number of the ground, and the line given
pub data RefusedAt (t : List ℕ) : ℕ → ℕ → Type 0 where
  -- empty, over 4,096 bytes, a byte other than LF and 32 to 126, or no LF at the end
  text : bad_text t ≡ true → RefusedAt t 20 0
  -- line 1 malformed
  first : bad_text t ≡ false → first_line (line_of t 1) ≡ None → RefusedAt t 21 1
  -- a version other than 1 or 2
  version : {v : ℕ} → bad_text t ≡ false → first_line (line_of t 1) ≡ Some v → other_version v ≡ true → RefusedAt t 22 1
  -- after 22, the first line with a fault decides
  at_line :
      {v g j : ℕ} → bad_text t ≡ false → first_line (line_of t 1) ≡ Some v → other_version v ≡ false
      → FirstFault (top_of v) 2 (behind_first (lines_of t)) g j → RefusedAt t g j
  -- no quantity declared, only where no line has a fault
  undeclared :
      {v : ℕ} (trees : List Line) → bad_text t ≡ false → first_line (line_of t 1) ≡ Some v → other_version v ≡ false
      → FaultFree (top_of v) blank (behind_first (lines_of t)) trees → declared_in trees ≡ [] → RefusedAt t 30 0
