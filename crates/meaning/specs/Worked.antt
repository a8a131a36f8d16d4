-- First lines and default ranges worked by hand from the documents' sentences: texts with what becomes of them, and one theorem: all pass.
use Rattle.std.specs.Prelude.{◌≡◌, refl, List, [], ◌∷◌, ℕ, ℤ}
use Prim.Native.String.{String}
use Rattle.whole.specs.Lists.{AllOf}
use Rattle.whole.specs.Numbers.{min_z, max_z}
use Rattle.whole.specs.Quoted.{numbers}
use Rattle.sheet.specs.Lines.{lines_of, line_of}
use Rattle.sheet.specs.Text.{bytes}
use Rattle.sheet.specs.Tokens as tokens
use Rattle.sheet.specs.Reading as reading
use Rattle.sheet.specs.Depth.{deep_from}
use Rattle.meaning.specs.Plain as plain
use Rattle.meaning.specs.Translation as translation
use Rattle.meaning.specs.Lists.{range_list}
use Rattle.meaning.specs.Draft.{after}
use Rattle.meaning.specs.Grounds as grounds

-- ---- cases
pub data Case : Type 0 where
  -- a text is refused: the number of the ground, and the line
  refuses : String → ℕ → ℕ → Case
  -- a text is read: the ranges of the declared quantities
  declares : String → List ℤ → Case

-- the number of a refusal, and its line; 0 and 0 where there is none
abbrev pub refusal_in : grounds.Outcome → ℕ × ℕ
refusal_in (grounds.refused g k) = (grounds.refusal_number g, k)
refusal_in (grounds.read s) = (0, 0)

-- the declared ranges; none in a refused text
abbrev pub declared_ranges : grounds.Outcome → List ℤ
declared_ranges (grounds.refused g k) = []
declared_ranges (grounds.read s) = range_list s.declared

abbrev pub Passes : Case → Type 0
Passes (refuses t g k) = refusal_in (grounds.outcome_of (bytes t)) ≡ (g, k)
Passes (declares t rs) = declared_ranges (grounds.outcome_of (bytes t)) ≡ rs

abbrev pub worked : List Case
worked =
    -- 22: a version other than 1 or 2, at line 1, before every fault of a later line
    refuses "RUL 0\nrange w\n" 22 1
    ∷ refuses "RUL 3\nrange w\n" 22 1
    ∷ refuses "RUL 65535\nrange w\n" 22 1
    ∷ refuses "RUL 3\nrange w 5 4\n" 22 1
    ∷ refuses "RUL 3\n" 22 1
    -- 21 goes before: above 65,535, and a leading zero
    ∷ refuses "RUL 65536\nrange w\n" 21 1
    ∷ refuses "RUL 02\nrange w\n" 21 1
    -- the default ends at 1,000,000 in version 1, at 200,000 in version 2; an end that is written stays
    ∷ declares "RUL 1\nrange w\n" (numbers "0 1000000")
    ∷ declares "RUL 2\nrange w\n" (numbers "0 200000")
    ∷ declares "RUL 2\nrange w\nrange h 0 1000000\nrange d\n" (numbers "0 200000  0 1000000  0 200000")
    -- w * h * s goes up to 4 * 10^12 in version 1, and up to 1.6 * 10^11 in version 2
    ∷ refuses "RUL 1\nrange w\nrange h\nrange s 1 4\nmust w * h * s <= 5\n" 28 5
    ∷ declares "RUL 2\nrange w\nrange h\nrange s 1 4\nmust w * h * s <= 5\n" (numbers "0 200000  0 200000  1 4")
    ∷ []

-- what the outcome computes with
unfoldable opened : Unit {0}
unfolding min_z max_z lines_of line_of deep_from tokens.pieces_of tokens.suffix_of tokens.digits_of tokens.digit_first tokens.number_of tokens.key_of
    tokens.all_lower
    tokens.mark_of tokens.minus_first tokens.token_of tokens.tokens_of reading.expr_f reading.comparison_f reading.more_f reading.all_f
    reading.read_range reading.read_line
opened = tt

unfoldable made : Unit {0}
unfolding plain.place_of plain.is_in plain.plain_e plain.named_e plain.asks_of range_list after translation.span_for translation.range_of translation.size_of
    translation.place_in translation.equation translation.piece_of translation.half_of translation.literals_for translation.equal translation.equalities
    translation.gaps translation.clause_of translation.one_or_two translation.rule_of
made = tt

unfoldable judged : Unit {0}
unfolding grounds.any_bad_byte grounds.version_from grounds.version_of grounds.first_line grounds.named_all grounds.any_beyond grounds.tree_fault
    grounds.one_line
    grounds.read_lines grounds.outcome_of
judged = tt

pub worked_hold : AllOf Passes worked
unfolding opened made judged
worked_hold = (refl, (refl, (refl, (refl, (refl, (refl, (refl, (refl, (refl, (refl, (refl, (refl, tt))))))))))))
