-- Document 01's examples P1 to P12, as one list of cases with a computed test, and one theorem: all pass. P1 to P5 start from the sheet's text.
-- In the same way an example of document 02's L3.
use Rattle.std.specs.Prelude.{◌≡◌, refl, Bool, true, false, ◌&&◌, List, [], ◌∷◌, ◌++◌, ℕ, eqb, ℤ, pos, take, length}
use Prim.Native.String.{String}
use Rattle.whole.specs.Numbers.{M, min_z, max_z, floor_q, ceil_q, root_in, root_down, root_up, least_from, least_power}
use Rattle.whole.specs.Quoted.{numbers, rows}
use Rattle.problem.specs.Problem.{Box, quantities}
use Rattle.problem.specs.Lists.{primitives_of}
use Rattle.problem.specs.Leading.{made, defined_from}
use Rattle.problem.specs.Grounds.{any_negative, total, bad_ranges, bad_primitives, bad_literals, judge_of}
use Rattle.problem.specs.declared.Primitive.{Primitive}
use Rattle.problem.specs.declared.Primitive.TheVariants.{Product, Square}
use Rattle.narrow.specs.Cuts.{Swept, empty, changed, unchanged, steps, cut_to, cut_of}
use Rattle.narrow.specs.Narrowing.{primitive_steps, open_of}
use Rattle.narrow.specs.Sweep.{all_steps, sweep_of}
use Rattle.narrow.specs.Worked.{same_list, same_swept}
use Rattle.search.specs.Search.{Outcome, lower_part, upper_part, search_of, step, run, open_from}
use Rattle.search.specs.Depth.{depth, room_of}
use Rattle.search.specs.Solve.{answered, point_of, lows, judged}
use Rattle.search.specs.declared.Answer.{Answer}
use Rattle.search.specs.declared.Answer.TheVariants as answer
use Rattle.sheet.specs.Lines.{lines_of, line_of}
use Rattle.sheet.specs.Tokens as tokens
use Rattle.sheet.specs.Reading as reading
use Rattle.sheet.specs.Depth.{deep_from}
use Rattle.meaning.specs.Plain as plain
use Rattle.meaning.specs.Translation as translation
use Rattle.meaning.specs.Lists as lists
use Rattle.meaning.specs.Draft.{Draft, problem_in, after}
use Rattle.meaning.specs.Grounds as grounds
use Rattle.sheet.specs.Text.{bytes, word}
use Rattle.answer.specs.Output.{digits, value_lines, solved_of, output_of}

-- ---- tests
abbrev pub same_bytes : List ℕ → List ℕ → Bool
same_bytes [] [] = true
same_bytes [] (b ∷ bs) = false
same_bytes (a ∷ xs) [] = false
same_bytes (a ∷ xs) (b ∷ bs) = eqb a b && same_bytes xs bs

abbrev pub rank : Answer → ℕ
rank answer.None = 0
rank answer.Found = 1
rank answer.Stopped = 2

abbrev pub same_answer : Answer → Answer → Bool
same_answer a b = eqb (rank a) (rank b)

-- ---- cases
-- the text of these lines, each with its LF
abbrev pub text : List String → List ℕ
text [] = []
text (l ∷ ls) = bytes l ++ (word "\n" ∷ text ls)

pub data Case : Type 0 where
  -- a primitive narrows a box to this
  narrows : Primitive → Box → Swept → Case
  -- a box is split at a quantity into these two
  splits : Box → ℕ → Box → Box → Case
  -- a sheet with a budget: the answer, the sweeps, and the values of the declared quantities
  answers : List String → ℕ → Answer → ℕ → List ℤ → Case
  -- a sheet and what the desk prints, whole
  prints : List String → List String → Case
  -- a sheet and its whole translation: range list, primitive list, clause lengths, literal list
  makes : List String → List ℤ → List ℤ → List ℤ → List ℤ → Case
  -- a sheet with a number of leading quantities: n, D and workspace
  needs : List String → ℕ → ℕ → ℕ → ℕ → Case

abbrev pub sheet_passes : (Draft → Bool) → grounds.Outcome → Bool
sheet_passes f (grounds.refused g k) = false
sheet_passes f (grounds.read s) = f s

abbrev pub solved_to : Answer → ℕ → List ℤ → ℕ → ℕ → Outcome → Bool
solved_to a k values declared budget o =
    let r = answered budget o in
    same_answer r.answer a && (eqb r.sweeps k && same_list (take declared (point_of o [])) values)

abbrev pub passes : Case → Bool
passes (narrows p b r) = same_swept (steps (unchanged b) (primitive_steps p)) r
passes (splits b q lower upper) = same_list (lower_part b q) lower && same_list (upper_part b q) upper
passes (answers t budget a k values) =
    sheet_passes (λ s. solved_to a k values (length s.names) budget (search_of (problem_in s) budget)) (grounds.outcome_of (text t))
passes (prints t out) = same_bytes (output_of (text t)) (text out)
passes (makes t rs ps ns ls) =
    sheet_passes
    (λ s.
    same_list (lists.range_list (s.declared ++ s.made.ranges)) rs
    && (same_list (lists.primitive_list s.made.primitives) ps
    && (same_list (lists.length_list s.made.clauses) ns
    && same_list (lists.literal_list (lists.literals_in s.made.clauses)) ls)))
    (grounds.outcome_of (text t))
passes (needs t lead n d room) =
    sheet_passes
    (λ s.
    eqb (quantities (problem_in s).ranges) n && (eqb (depth lead (problem_in s).ranges) d && eqb (room_of lead (problem_in s).ranges) room))
    (grounds.outcome_of (text t))

abbrev pub all_pass : List Case → Bool
all_pass [] = true
all_pass (c ∷ cs) = passes c && all_pass cs

-- ---- document 01's examples; quantities of a primitive's box: z, x, y
abbrev pub first_sheet : List String
first_sheet = "RUL 1" ∷ "range w 1 10" ∷ "range h 1 10" ∷ "must w * h = 35" ∷ "must w < h" ∷ []

abbrev pub second_sheet : List String
second_sheet = "RUL 1" ∷ "range x 0 3" ∷ "must x ^2 = 2" ∷ []

abbrev pub third_sheet : List String
third_sheet = "RUL 1" ∷ "range x 0 3" ∷ "range y 0 3" ∷ "must x + y = 3" ∷ []

-- every sign in both parts of an `if`, every operation, both kinds of equality demand
abbrev pub every_sign : List String
every_sign =
    "RUL 1"
    ∷ "range a -3 4"
    ∷ "range b 0 5"
    ∷ "if a <= b and a < 2 and a >= b and a > 0 and a = 1 and a != 3 then a + b <= 2 or a - b < 3 or a * b >= 4 or a ^2 > b or ( a + 1 ) * 2 != b"
    ∷ "if a = b then a * a - b = 6"
    ∷ []

abbrev pub examples : List Case
examples =
    -- P1, with its declared quantities leading, and with all
    needs first_sheet 2 6 8 108
    ∷ needs first_sheet 6 6 27 336
    ∷ answers first_sheet 100_000 answer.Found 6 (numbers "5 7")
    ∷ prints first_sheet ("FOUND 6" ∷ "w 5" ∷ "h 7" ∷ [])
    -- its quantities: w, h, w * h, 35, their difference, w - h
    ∷ makes first_sheet
    (numbers "1 10  1 10  1 100  35 35  -34 65  -9 9")
    (numbers "2 2 0 1   1 2 4 3   1 0 5 1")
    (numbers "1 1 1")
    (numbers "4 0 0   4 1 0   5 0 -1")
    -- P2
    ∷ prints second_sheet ("NONE 3" ∷ [])
    ∷ answers second_sheet 100_000 answer.None 3 []
    -- P3, P4, P5
    ∷ answers third_sheet 100_000 answer.Found 7 (numbers "0 3")
    ∷ answers third_sheet 5 answer.Stopped 5 (numbers "0 2")
    ∷ answers third_sheet 0 answer.Stopped 0 (numbers "0 0")
    -- P6, P7, P8
    ∷ narrows (Product 0 1 2) (numbers "7 9  -100 100  2 2") (changed (numbers "7 9  4 4  2 2"))
    ∷ narrows (Product 0 1 2) (numbers "-9 -7  -100 100  2 2") (changed (numbers "-9 -7  -4 -4  2 2"))
    ∷ narrows (Product 0 1 2) (numbers "7 7  -100 100  2 2") empty
    -- P9, P10
    ∷ narrows (Square 0 1) (numbers "5 30  0 10") (changed (numbers "5 30  3 5"))
    ∷ narrows (Square 0 1) (numbers "5 30  -10 10") (changed (numbers "5 30  -5 5"))
    -- P11
    ∷ narrows (Product 0 1 2) (pos 0 ∷ M ∷ M ∷ M ∷ M ∷ M ∷ []) empty
    -- P12
    ∷ splits (numbers "-1 0") 0 (numbers "-1 -1") (numbers "0 0")
    -- a whole translation with every sign and operation
    ∷ makes every_sign
    -- its ranges: a, b
    (rows
    ("-3 4  0 5"
    -- a <= b; a < 2; a >= b; a > 0; a = 1; a != 3: the number if there is one, then the difference
    ∷ "-8 4"
    ∷ "2 2  -5 2"
    ∷ "-8 4"
    ∷ "0 0  -3 4"
    ∷ "1 1  -4 3"
    ∷ "3 3  -6 1"
    -- a + b, 2, the difference; a - b, 3, the difference; a * b, 4, the difference
    ∷ "-3 9  2 2  -5 7"
    ∷ "-8 4  3 3  -11 1"
    ∷ "-15 20  4 4  -19 16"
    -- a ^2, the difference; 1, a + 1, 2, the product, the difference
    ∷ "0 16  -5 16"
    ∷ "1 1  -2 5  2 2  -4 10  -9 10"
    -- a = b; a * a, less b, 6, the difference
    ∷ "-8 4"
    ∷ "-12 16  -17 16  6 6  -23 10"
    ∷ []))
    -- its primitives: kind, z, x, y; d = a - b is a = d + b
    (rows
    ("1 0 2 1   1 0 4 3   1 0 5 1   1 0 7 6   1 0 9 8   1 0 11 10"
    ∷ "1 12 0 1   1 12 14 13"
    ∷ "1 0 15 1   1 15 17 16"
    ∷ "2 18 0 1   1 18 20 19"
    ∷ "3 21 0 0   1 21 22 1"
    ∷ "1 24 0 23   2 26 24 25   1 26 27 1"
    ∷ "1 0 28 1"
    ∷ "2 29 0 0   1 29 30 1   1 30 32 31"
    ∷ []))
    -- two clauses for each rule, as each has an equality demand
    (numbers "13 13 3 3")
    -- its literals: quantity, sense, bound; a != 3 after `if` is at most 0 in the first clause, at least 0 in the second
    (rows
    ("2 1 1   4 1 0   5 0 -1   7 0 0   9 0 -1   9 1 1   11 0 0"
    ∷ "14 0 0   17 0 -1   20 1 0   22 1 1   27 0 -1   27 1 1"
    ∷ "2 1 1   4 1 0   5 0 -1   7 0 0   9 0 -1   9 1 1   11 1 0"
    ∷ "14 0 0   17 0 -1   20 1 0   22 1 1   27 0 -1   27 1 1"
    -- the second rule's, whose demand stands last
    ∷ "28 0 -1   28 1 1   32 0 0"
    ∷ "28 0 -1   28 1 1   32 1 0"
    ∷ []))
    ∷ []

-- ---- document 02, L3: a zero at the end of a factor's range
abbrev pub zero_sheet : List String
zero_sheet = "RUL 1" ∷ "range s 0 8" ∷ "range w 0 9" ∷ "must s * w = 12" ∷ []

-- p = s * w is [0,72] and d = p - 12 is [-12,60], visited as p = d + 12. Sweep by sweep, what changes:
--  1. p holds 0, so nothing is trimmed, and s and w hold 0, so both stay; d by the two clauses to [0,0]
--  2. p by d + 12 to [12,12]
--  3. p holds no 0: w is trimmed to [1,9], and s to 12/9 up, 2, and at most 8; then w by s to 12/8 up, 2, and 12/2: [2,6]
--  4. s by w to 12/6 and 12/2: [2,6]
--  5. nothing: 12/6 and 12/2, both ways; m = 4: s [2,4], and [5,6] waits
--  6. w to 12/4 and 12/2: [3,6]
--  7. nothing: s is within 12/6 and 12/3; m = 3: s [2,3], and [4,4] waits
--  8. w to 12/3 and 12/2: [4,6]
--  9. nothing: s is 12/6 to 12/4; m = 2: s [2,2], and [3,3] waits
-- 10. w to 12/2: [6,6]
-- 11. nothing, and every range is one value
abbrev pub examples_l3 : List Case
examples_l3 =
    answers zero_sheet 100_000 answer.Found 11 (numbers "2 6")
    ∷ prints zero_sheet ("FOUND 11" ∷ "s 2" ∷ "w 6" ∷ [])
    -- before sweep 3 and behind it
    ∷ answers zero_sheet 2 answer.Stopped 2 (numbers "0 0")
    ∷ answers zero_sheet 3 answer.Stopped 3 (numbers "2 2")
    -- it decides in sweep 11, and not before
    ∷ answers zero_sheet 11 answer.Found 11 (numbers "2 6")
    ∷ answers zero_sheet 10 answer.Stopped 10 (numbers "2 6")
    ∷ []

-- what the test computes with
unfoldable opened : Unit {0}
unfolding min_z max_z floor_q ceil_q root_in root_down root_up least_from least_power cut_to cut_of open_of all_steps sweep_of step run open_from depth lows
opened = tt

unfoldable tokens_open : Unit {0}
unfolding tokens.pieces_of tokens.suffix_of tokens.digits_of tokens.digit_first tokens.number_of tokens.key_of tokens.all_lower tokens.mark_of
    tokens.minus_first
tokens_open = tt

unfoldable read_open : Unit {0}
unfolding lines_of line_of tokens.token_of tokens.tokens_of reading.expr_f reading.comparison_f reading.more_f reading.all_f reading.read_range
    reading.read_line deep_from
read_open = tt

unfoldable plain_open : Unit {0}
unfolding plain.place_of plain.is_in plain.plain_e plain.named_e plain.asks_of lists.range_list after
plain_open = tt

unfoldable made_open : Unit {0}
unfolding translation.span_for translation.range_of translation.size_of translation.place_in translation.equation translation.piece_of translation.half_of
made_open = tt

unfoldable clauses_open : Unit {0}
unfolding translation.literals_for translation.equal translation.equalities translation.gaps translation.clause_of translation.one_or_two translation.rule_of
clauses_open = tt

unfoldable grounds_open : Unit {0}
unfolding grounds.any_bad_byte grounds.version_from grounds.version_of grounds.first_line grounds.named_all grounds.any_beyond grounds.tree_fault
    grounds.one_line
grounds_open = tt

unfoldable outcome_open : Unit {0}
unfolding grounds.read_lines grounds.outcome_of judged judge_of any_negative total bad_ranges bad_primitives bad_literals primitives_of made defined_from
outcome_open = tt

unfoldable printed_open : Unit {0}
unfolding digits value_lines solved_of output_of lists.letters_of lists.primitive_list lists.length_list lists.literal_list lists.literals_in
printed_open = tt

pub all_hold : all_pass examples ≡ true
unfolding opened tokens_open read_open plain_open made_open clauses_open grounds_open outcome_open printed_open
all_hold = refl

pub all_hold_l3 : all_pass examples_l3 ≡ true
unfolding opened tokens_open read_open plain_open made_open clauses_open grounds_open outcome_open printed_open
all_hold_l3 = refl
