-- The lines of a text: document 01, "Sheets", and the call that hands back the stretch of a line.
use Rattle.std.specs.Prelude.{◌≡◌, Bool, cond, ◌||◌, List, [], ◌∷◌, ℕ, zero, suc, ◌+◌, eqb, ltb, length, get_or}
use Rattle.std.specs.Borrow.{Bor}
use Rattle.sheet.specs.Text.{word}
use Rattle.sheet.specs.declared.Stretch.{Stretch}

-- a byte before the first line
abbrev pub with_first : ℕ → List (List ℕ) → List (List ℕ)
with_first b [] = (b ∷ []) ∷ []
with_first b (l ∷ ls) = (b ∷ l) ∷ ls

-- the lines, without their LF; an unended last stretch, if not empty, is a line
unfoldable pub lines_of : List ℕ → List (List ℕ)
lines_of [] = []
lines_of (b ∷ bs) = cond (eqb b (word "\n")) ([] ∷ lines_of bs) (with_first b (lines_of bs))

-- where line k starts, line 1 at 0: behind the lines before it and their LFs
unfoldable pub start_of : List (List ℕ) → ℕ → ℕ
start_of ls zero = 0
start_of ls (suc zero) = 0
start_of [] (suc (suc k)) = 0
start_of (l ∷ ls) (suc (suc k)) = length l + 1 + start_of ls (suc k)

-- line 0 or a missing line
abbrev pub no_line : List ℕ → ℕ → Bool
no_line text k = eqb k 0 || ltb (length (lines_of text)) k

-- line k, line 1 the first; for line 0 or a missing line the empty stretch
unfoldable pub line_of : List ℕ → ℕ → List ℕ
line_of text zero = []
line_of text (suc k) = get_or (lines_of text) k []

-- from where to where line k stands; for line 0 or a missing line the empty stretch at the text's end
unfoldable pub span_of : List ℕ → ℕ → Stretch
span_of text k =
    cond (no_line text k)
    (record { start = length text; end = length text })
    (record { start = start_of (lines_of text) k; end = start_of (lines_of text) k + length (line_of text k) })

-- a part of a lent text starts at this place of it
abbrev pub StartsAt : Bor (List ℕ) → ℕ → Bor (List ℕ) → Type 0
StartsAt text place part = (part.ref_ptr.0 ≡ text.ref_ptr.0) × (part.ref_ptr.1 ≡ text.ref_ptr.1 + place)

-- a part of a lent text is line k of it: the line's bytes, at the place where they stand
abbrev pub IsLineOf : Bor (List ℕ) → ℕ → Bor (List ℕ) → Type 0
IsLineOf text k part = (part.now ≡ line_of text.now k) × StartsAt text (span_of text.now k).start part
