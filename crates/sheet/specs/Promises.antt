-- What this crate promises, one statement each: the lines of a text, the tokens of a line, the trees that lines spell, and worked lines.
use Rattle.std.specs.Prelude.{◌≡◌, true, List, ◌↔◌, ℕ, ◌<◌}
use Rattle.std.proofs.Math.Option.{none, some}
use Rattle.std.specs.Borrow.{Bor}
use Rattle.whole.specs.Lists.{AllOf}
use Rattle.sheet.specs.Text.{bytes, Byte}
use Rattle.sheet.specs.Lines.{span_of, IsLineOf}
use Rattle.sheet.specs.Tokens.{text_of, IsName, token_of, tokens_of}
use Rattle.sheet.specs.Grammar.{Line, spell_line}
use Rattle.sheet.specs.Reading.{read_line}
use Rattle.sheet.specs.Depth.{too_deep, depth_line}
use Rattle.sheet.specs.Worked.{Passes, cases}
use Rattle.sheet.specs.declared.Mark.{Mark}
use Rattle.sheet.specs.declared.Stretch.{Stretch}
use Rattle.sheet.specs.declared.Token.TheVariants.{Name, Fixed}

-- ---- lines

-- the contract of `line_span` determines its result
abbrev pub LineSpanOnce : Type 0
LineSpanOnce = (text : List ℕ) (k : ℕ) (r r' : Stretch) → r ≡ span_of text k → r' ≡ span_of text k → r ≡ r'

-- the contract of `line_at` determines the place of the part that it hands back, and what stands there
abbrev pub LineAtOnce : Type 0
LineAtOnce = (text : Bor (List ℕ)) (k : ℕ) (r r' : Bor (List ℕ)) → IsLineOf text k r → IsLineOf text k r' → (r.ref_ptr ≡ r'.ref_ptr) × (r.now ≡ r'.now)

-- ---- tokens

-- a piece without the byte 0 is a mark exactly if it is the mark's text
abbrev pub MarkExactly : Type 0
MarkExactly = (w : List ℕ) → AllOf Byte w → (m : Mark) → (token_of w ≡ Fixed m) ↔ (w ≡ bytes (text_of m))

-- a piece is a name exactly if it is 1 to 8 lower-case letters, none of the marks
abbrev pub NameExactly : Type 0
NameExactly = (w : List ℕ) → ((n : ℕ) × (token_of w ≡ Name n)) ↔ IsName w

-- a name's number stands for its letters: two pieces that are names with the same number are the same bytes
abbrev pub NameOnce : Type 0
NameOnce = (w w' : List ℕ) (n : ℕ) → token_of w ≡ Name n → token_of w' ≡ Name n → w ≡ w'

-- ---- trees

-- a line is read as a tree exactly if it is the tree's spelling
abbrev pub ReadsExactly : Type 0
ReadsExactly = (l : List ℕ) (x : Line) → (read_line (tokens_of l) ≡ some x) ↔ (tokens_of l ≡ spell_line x)

-- no tokens spell two trees
abbrev pub SpellsOne : Type 0
SpellsOne = (x y : Line) → spell_line x ≡ spell_line y → x ≡ y

-- a line that is not read is the spelling of no tree
abbrev pub NotRead : Type 0
NotRead = (l : List ℕ) → read_line (tokens_of l) ≡ none → (x : Line) → tokens_of l ≡ spell_line x → ⊥

-- 23: a line that spells a tree has more than 16 brackets open at some token exactly if the tree's brackets nest deeper than 16
abbrev pub DeepExactly : Type 0
DeepExactly = (l : List ℕ) (x : Line) → tokens_of l ≡ spell_line x → (too_deep (tokens_of l) ≡ true) ↔ (16 < depth_line x)

-- ---- worked lines

-- each compares the numbers and is obeyed as said, or spells no tree
abbrev pub Worked : Type 0
Worked = AllOf Passes cases
