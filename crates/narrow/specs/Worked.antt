-- Narrowings worked by hand from the sentences of document 01, and of document 02's L3, as one list of cases with a computed test, and one theorem: all pass.
use Rattle.std.specs.Prelude.{◌≡◌, refl, Bool, true, false, not, ◌&&◌, List, [], ◌∷◌, ◌++◌, ℕ, ℤ, pos}
use Rattle.whole.specs.Numbers.{min_z, max_z, floor_q, ceil_q, root_in, root_down, root_up}
use Rattle.whole.specs.Quoted.{numbers}
use Rattle.problem.specs.Problem.{Box}
use Rattle.problem.specs.Grounds.{differ}
use Rattle.problem.specs.declared.Primitive.{Primitive}
use Rattle.problem.specs.declared.Primitive.TheVariants.{Sum, Product, Square}
use Rattle.problem.specs.declared.Literal.{Literal}
use Rattle.problem.specs.declared.Literal.TheVariants.{AtMost, AtLeast}
use Rattle.narrow.specs.Cuts.{Swept, empty, changed, unchanged, steps, cut_to, cut_of}
use Rattle.narrow.specs.Narrowing.{trim_step, primitive_steps, clause_step, open_of}
use Rattle.narrow.specs.Sweep.{all_steps, sweep_of}

-- ---- tests
abbrev pub same_list : List ℤ → List ℤ → Bool
same_list [] [] = true
same_list [] (b ∷ bs) = false
same_list (a ∷ xs) [] = false
same_list (a ∷ xs) (b ∷ bs) = not (differ a b) && same_list xs bs

abbrev pub same_swept : Swept → Swept → Bool
same_swept empty empty = true
same_swept empty (changed b) = false
same_swept empty (unchanged b) = false
same_swept (changed a) empty = false
same_swept (changed a) (changed b) = same_list a b
same_swept (changed a) (unchanged b) = false
same_swept (unchanged a) empty = false
same_swept (unchanged a) (changed b) = false
same_swept (unchanged a) (unchanged b) = same_list a b

-- ---- cases
pub data Case : Type 0 where
  -- what a box becomes before z, the second quantity, is divided by the first
  trim : ℕ → ℕ → Box → Swept → Case
  -- what one primitive makes of a box
  primitive : Primitive → Box → Swept → Case
  -- what one clause makes of a box
  clause : List Literal → Box → Swept → Case
  -- what a sweep makes of a box
  sweep : List Primitive → List (List Literal) → Box → Swept → Case

abbrev pub passes : Case → Bool
passes (trim y z b r) = same_swept (steps (unchanged b) (trim_step y z ∷ [])) r
passes (primitive p b r) = same_swept (steps (unchanged b) (primitive_steps p)) r
passes (clause ls b r) = same_swept (steps (unchanged b) (clause_step ls ∷ [])) r
passes (sweep ps cs b r) = same_swept (sweep_of ps cs b) r

abbrev pub all_pass : List Case → Bool
all_pass [] = true
all_pass (c ∷ cs) = passes c && all_pass cs

-- ---- Sum: cut z to [xl+yl, xh+yh]; x to [zl-yh, zh-yl]; y to [zl-xh, zh-xl]. Boxes: z, x, y, or the quantities that there are
abbrev pub sums : List Case
sums =
    -- z to [1+2, 4+3]; x to [3-3, 7-2] and y to [3-4, 7-1] take nothing off
    primitive (Sum 0 1 2) (numbers "0 100  1 4  2 3") (changed (numbers "3 7  1 4  2 3"))
    -- and again: nothing to take off
    ∷ primitive (Sum 0 1 2) (numbers "3 7  1 4  2 3") (unchanged (numbers "3 7  1 4  2 3"))
    -- below 0: z to [-3-6, 4-2]; x to [-9+2, 2+6] and y to [-9-4, 2+3] take nothing off
    ∷ primitive (Sum 0 1 2) (numbers "-100 100  -3 4  -6 -2") (changed (numbers "-9 2  -3 4  -6 -2"))
    -- the low ends: x to [9-5, 10-0], y to [9-6, 10-4]
    ∷ primitive (Sum 0 1 2) (numbers "9 10  0 6  0 5") (changed (numbers "9 10  4 6  3 5"))
    -- the high ends: z to [1+2, ..], x to [3-8, 4-2], y to [3-2, 4-1]
    ∷ primitive (Sum 0 1 2) (numbers "0 4  1 9  2 8") (changed (numbers "3 4  1 2  2 3"))
    -- a range with low above high is empty: z to [0+0, 5+5], and 20 is above 10
    ∷ primitive (Sum 0 1 2) (numbers "20 30  0 5  0 5") empty
    -- the same quantity in several places, z = x + x: z to [3+3, ..], x to [6-8, 7-3], then x as y to [6-4, 7-3]
    ∷ primitive (Sum 0 1 1) (numbers "0 7  3 8") (changed (numbers "6 7  3 4"))
    -- x = x + y: x as z to [0+3, ..], x to [3-6, 10-3], then y by the x just cut, to [3-7, 7-3]
    ∷ primitive (Sum 0 0 1) (numbers "0 10  3 6") (changed (numbers "3 7  3 4"))
    -- y = x + y: y as z to [0+3, ..], x to [3-10, 10-3], and only then y, to [3-6, 10-3]
    ∷ primitive (Sum 0 1 0) (numbers "0 10  3 6") (changed (numbers "3 7  3 6"))
    ∷ []

-- ---- before each division, where z's range holds no 0: a divisor's range with low 0 and high above 0 gets low 1, one with high 0 and low below 0
-- gets high -1, and [0,0] is empty. Boxes: z, the divisor
abbrev pub trims : List Case
trims =
    -- low 0, high above 0
    trim 1 0 (numbers "12 12  0 8") (changed (numbers "12 12  1 8"))
    ∷ trim 1 0 (numbers "12 12  0 1") (changed (numbers "12 12  1 1"))
    -- high 0, low below 0
    ∷ trim 1 0 (numbers "12 12  -8 0") (changed (numbers "12 12  -8 -1"))
    ∷ trim 1 0 (numbers "12 12  -1 0") (changed (numbers "12 12  -1 -1"))
    -- 0 alone
    ∷ trim 1 0 (numbers "12 12  0 0") empty
    -- a 0 strictly inside stays, as do ranges that hold none
    ∷ trim 1 0 (numbers "12 12  -3 5") (unchanged (numbers "12 12  -3 5"))
    ∷ trim 1 0 (numbers "12 12  1 8") (unchanged (numbers "12 12  1 8"))
    ∷ trim 1 0 (numbers "12 12  -8 -1") (unchanged (numbers "12 12  -8 -1"))
    -- z's range holds no 0, just above it and just below
    ∷ trim 1 0 (numbers "1 9  0 8") (changed (numbers "1 9  1 8"))
    ∷ trim 1 0 (numbers "-9 -1  0 8") (changed (numbers "-9 -1  1 8"))
    -- it holds 0, inside, at its low end, at its high end, alone
    ∷ trim 1 0 (numbers "-1 1  0 8") (unchanged (numbers "-1 1  0 8"))
    ∷ trim 1 0 (numbers "0 9  0 8") (unchanged (numbers "0 9  0 8"))
    ∷ trim 1 0 (numbers "-9 0  -8 0") (unchanged (numbers "-9 0  -8 0"))
    ∷ trim 1 0 (numbers "0 0  0 0") (unchanged (numbers "0 0  0 0"))
    ∷ []

-- ---- Product: cut z to the least and greatest of the four end products. If y's range holds no 0, cut x to the least and greatest of the
-- four exact quotients of z's ends by y's ends, rounded up to the lower end and down to the upper end; otherwise x stays. Then y likewise by x.
-- Before each division the divisor is trimmed
abbrev pub products : List Case
products =
    -- the four end products 15, -6, -20, 8; x and y hold 0, so both stay
    primitive (Product 0 1 2) (numbers "-100 100  -3 4  -5 2") (changed (numbers "-20 15  -3 4  -5 2"))
    -- rounded up and down, by a divisor above 0: -7/2 up is -3, 9/2 down is 4; x holds 0, so y stays
    ∷ primitive (Product 0 1 2) (numbers "-7 9  -100 100  2 2") (changed (numbers "-7 9  -3 4  2 2"))
    -- by a divisor below 0: 7/-2 up is -3, -9/-2 down is 4
    ∷ primitive (Product 0 1 2) (numbers "-9 7  -100 100  -2 -2") (changed (numbers "-9 7  -3 4  -2 -2"))
    -- 9/-2 up and 7/-2 down are both -4; then y by x: 9/-4 up and 7/-4 down are both -2
    ∷ primitive (Product 0 1 2) (numbers "7 9  -100 100  -2 -2") (changed (numbers "7 9  -4 -4  -2 -2"))
    -- 7/-2 up is -3 and down is -4: empty
    ∷ primitive (Product 0 1 2) (numbers "7 7  -100 100  -2 -2") empty
    -- quotients without a rest: 8/-2 is -4, then 8/-4 is -2
    ∷ primitive (Product 0 1 2) (numbers "8 8  -100 100  -2 -2") (changed (numbers "8 8  -4 -4  -2 -2"))
    -- four quotients by ends below 0: -20/-5, -20/-2, 12/-5, 12/-2, of which 12/-2 is the least and -20/-2 the greatest
    ∷ primitive (Product 0 1 2) (numbers "-20 12  -100 100  -5 -2") (changed (numbers "-20 12  -6 10  -5 -2"))
    -- y to [1, 3]; x to 6/3 and 8/1; then y by x: 6/8 up, 1, and 8/2 take nothing off
    ∷ primitive (Product 0 1 2) (numbers "6 8  2 10  0 3") (changed (numbers "6 8  2 8  1 3"))
    -- y to [1, 8]; x to 12/8 up, 2, and 12/1; then y by the x just cut, to 12/9 up, 2, and 12/2
    ∷ primitive (Product 0 1 2) (numbers "12 12  1 9  0 8") (changed (numbers "12 12  2 9  2 6"))
    -- y to [-8, -1]; x to -6/-8 up, 1, and -8/-1; then y by x: -8/1 and -6/8 down, -1, take nothing off
    ∷ primitive (Product 0 1 2) (numbers "-8 -6  1 100  -8 0") (changed (numbers "-8 -6  1 8  -8 -1"))
    -- a 0 strictly inside y still stops division, so x stays; x to [1, 8], then y to 6/8 up, 1, and 8/1
    ∷ primitive (Product 0 1 2) (numbers "6 8  0 8  -3 5") (changed (numbers "6 8  1 8  1 5"))
    -- likewise x to [-8, -1], then y to 8/-1 and 6/-8 down, -1
    ∷ primitive (Product 0 1 2) (numbers "6 8  -8 0  -3 5") (changed (numbers "6 8  -8 -1  -3 -1"))
    -- strictly inside both: both stay
    ∷ primitive (Product 0 1 2) (numbers "6 8  -4 9  -3 5") (unchanged (numbers "6 8  -4 9  -3 5"))
    -- 0 at the end of both ranges: y to [1, 7], x to 6/7 up, 1, and 8/1; then y by x: 6/8 up, 1, and 8/1 take nothing off
    ∷ primitive (Product 0 1 2) (numbers "6 8  0 9  0 7") (changed (numbers "6 8  1 8  1 7"))
    -- y to [-3, -1], x to 8/-1 and 6/-3; then y by x: 8/-2 and 6/-8 down, -1, take nothing off
    ∷ primitive (Product 0 1 2) (numbers "6 8  -10 0  -3 0") (changed (numbers "6 8  -8 -2  -3 -1"))
    -- y to [1, 4] is the only change: x to 2/4 up, 1, and 8/1, and y to 2/2 and 8/1, take nothing off
    ∷ primitive (Product 0 1 2) (numbers "2 8  1 2  0 4") (changed (numbers "2 8  1 2  1 4"))
    -- z's range holds 0, at its low end or its high end: nothing is trimmed, so both stay
    ∷ primitive (Product 0 1 2) (numbers "0 8  0 4  0 2") (unchanged (numbers "0 8  0 4  0 2"))
    ∷ primitive (Product 0 1 2) (numbers "-8 0  -4 0  0 2") (unchanged (numbers "-8 0  -4 0  0 2"))
    -- z as it then is, [0, 8]
    ∷ primitive (Product 0 1 2) (numbers "-2 9  0 4  0 2") (changed (numbers "0 8  0 4  0 2"))
    -- z to [6, 15], y to [1, 5], x to 6/5 up, 2, and 15/1, then y to 6/3 and 15/2 down, 7
    ∷ primitive (Product 0 1 2) (numbers "6 100  0 3  0 5") (changed (numbers "6 15  2 3  2 5"))
    -- y is 0 alone: so are the end products
    ∷ primitive (Product 0 1 2) (numbers "6 8  -3 4  0 0") empty
    -- y by the x just cut: x to 7/3 up, 3, and 7/1; then y to 7/7 and 7/3 down, 2 (by the x before it would stay [1, 3])
    ∷ primitive (Product 0 1 2) (numbers "7 7  1 7  1 3") (changed (numbers "7 7  3 7  1 2"))
    -- both ends of a cut by the ranges before it, z = x * x: x to 10/4 up, 3, and 10/1; then to 10/4 up, 3, and 10/3 down, 3
    ∷ primitive (Product 0 1 1) (numbers "10 10  1 4") (changed (numbers "10 10  3 3"))
    -- z = x * x with x from 0: x as y to [1, 4], x to 10/4 up, 3, and 16/1; then 10/4 up, 3, and 16/3 down, 5, take nothing off
    ∷ primitive (Product 0 1 1) (numbers "10 16  0 4") (changed (numbers "10 16  3 4"))
    -- with x up to 0: x as y to [-3, -1], x to 9/-1 and 9/-3; then 9/-3 takes nothing off
    ∷ primitive (Product 0 1 1) (numbers "9 9  -3 0") (changed (numbers "9 9  -3 -3"))
    -- z = x * x knows of no square: the four end products 9, -6, -6, 4
    ∷ primitive (Product 0 1 1) (numbers "-100 100  -3 2") (changed (numbers "-6 9  -3 2"))
    -- x = x * y: -8, -12, 18, 27 take nothing off; x to -4/2 and 9/2 down, 4; x holds 0, so y stays
    ∷ primitive (Product 0 0 1) (numbers "-4 9  2 3") (changed (numbers "-2 4  2 3"))
    -- x = x * y: x as z to [4*2, ..], x to [.., 20/2], then y to 8/10 up, 1, and 10/8 down, 1: empty
    ∷ primitive (Product 0 0 1) (numbers "4 20  2 3") empty
    -- x = x * y: 0 to 45 takes nothing off; y to [1, 5]; x to 2/5 up, 1, and 9/1 takes nothing off; then y to 2/9 up, 1, and 9/2 down, 4
    ∷ primitive (Product 0 0 1) (numbers "2 9  0 5") (changed (numbers "2 9  1 4"))
    -- y = x * y: 0 to 60 takes nothing off; the 0 of y is z's, so y is not trimmed and x stays; then y to 0/3 and 20/2
    ∷ primitive (Product 0 1 0) (numbers "0 20  2 3") (changed (numbers "0 10  2 3"))
    -- y = x * y: y as z to [2*4, ..], x to 8/20 up, 1, and 20/8 down, 2, then y to 8/2 and 20/2
    ∷ primitive (Product 0 1 0) (numbers "4 20  2 3") (changed (numbers "8 10  2 2"))
    -- end products pass 64 bits: 4294967296 squared is 18446744073709551616, above z's high end, and not 0
    ∷ primitive (Product 0 1 2) (numbers "0 1000000000000  4294967296 4294967296  4294967296 4294967296") empty
    -- the end products plus or minus 10^24 take nothing off
    ∷ primitive (Product 0 1 2) (numbers "-1000000000000 1000000000000  -1000000000000 1000000000000  -1000000000000 1000000000000")
    (unchanged (numbers "-1000000000000 1000000000000  -1000000000000 1000000000000  -1000000000000 1000000000000"))
    -- and -10^24 is below z's low end
    ∷ primitive (Product 0 1 2) (numbers "-1000000000000 0  -1000000000000 -1000000000000  1000000000000 1000000000000") empty
    ∷ []

-- ---- Square: cut z to the exact range of squares (least is 0 if x's range holds 0). Cut x to [-r, r], r the whole root of zh rounded down.
-- Then with s the root of zl rounded up: if xl >= 0 raise xl to at least s; and if xh <= 0 lower xh to at most -s
abbrev pub squares : List Case
squares =
    -- x holds 0: z to [0, 9]; r and s, 3 and 0, take nothing off
    primitive (Square 0 1) (numbers "-100 100  -3 2") (changed (numbers "0 9  -3 2"))
    -- x holds no 0: z to [4, 36]; r and s, 6 and 2, take nothing off
    ∷ primitive (Square 0 1) (numbers "0 100  -6 -2") (changed (numbers "4 36  -6 -2"))
    -- no square below 0: z to [0, 9]
    ∷ primitive (Square 0 1) (numbers "-9 -1  -3 3") empty
    -- raised: the root of 50 down is 7, that of 10 up is 4
    ∷ primitive (Square 0 1) (numbers "10 50  2 9") (changed (numbers "10 50  4 7"))
    -- roots of squares need no rounding: 4 and 3
    ∷ primitive (Square 0 1) (numbers "9 16  0 10") (changed (numbers "9 16  3 4"))
    -- lowered: the root of 30 down is 5, that of 5 up is 3
    ∷ primitive (Square 0 1) (numbers "5 30  -10 -1") (changed (numbers "5 30  -5 -3"))
    -- lowered where xh is 0: 3 and 2
    ∷ primitive (Square 0 1) (numbers "4 9  -10 0") (changed (numbers "4 9  -3 -2"))
    -- x round 0: [-5, 5] by r, and nothing by s, 3
    ∷ primitive (Square 0 1) (numbers "5 30  -1 10") (changed (numbers "5 30  -1 5"))
    -- z without a square in it: x to [-2, 2], then to at least 3
    ∷ primitive (Square 0 1) (numbers "5 8  0 10") empty
    -- round 0 that does not show
    ∷ primitive (Square 0 1) (numbers "5 8  -10 10") (changed (numbers "5 8  -2 2"))
    -- x is 0 alone: z to [0, 0]
    ∷ primitive (Square 0 1) (numbers "1 4  0 0") empty
    -- the squares 10^24 take nothing off z; the root of 10^12 is 10^6
    ∷ primitive (Square 0 1) (numbers "0 1000000000000  -1000000000000 1000000000000") (changed (numbers "0 1000000000000  -1000000 1000000"))
    -- x = x squared: x as z to [0, 25], x to at most the root of 5 down, 2
    ∷ primitive (Square 0 0) (numbers "-5 5") (changed (numbers "0 2"))
    -- x as z to [4, 81], then x to [-3, 3]
    ∷ primitive (Square 0 0) (numbers "2 9") empty
    ∷ []

-- ---- Clause: a literal is false if no value of the range meets it. All false: empty. Exactly one position not false: cut by it. Otherwise nothing
abbrev pub clauses : List Case
clauses =
    -- an empty clause is false
    clause [] (numbers "0 10") empty
    -- one position, not false: cut by it, at most and at least
    ∷ clause (AtMost 0 (pos 3) ∷ []) (numbers "0 10") (changed (numbers "0 3"))
    ∷ clause (AtLeast 0 (pos 7) ∷ []) (numbers "0 10") (changed (numbers "7 10"))
    -- one value of the range still meets each
    ∷ clause (AtMost 0 (pos 0) ∷ []) (numbers "0 10") (changed (numbers "0 0"))
    ∷ clause (AtLeast 0 (pos 10) ∷ []) (numbers "0 10") (changed (numbers "10 10"))
    -- no value does
    ∷ clause (AtMost 0 (pos 4) ∷ []) (numbers "5 8") empty
    ∷ clause (AtLeast 0 (pos 9) ∷ []) (numbers "5 8") empty
    -- true alone: the cut takes nothing off
    ∷ clause (AtLeast 0 (pos 5) ∷ []) (numbers "5 8") (unchanged (numbers "5 8"))
    -- two, all false
    ∷ clause (AtMost 1 (pos 4) ∷ AtLeast 0 (pos 11) ∷ []) (numbers "0 10  5 8") empty
    -- two, the first not false; the second not false
    ∷ clause (AtMost 0 (pos 6) ∷ AtMost 1 (pos 4) ∷ []) (numbers "0 10  5 8") (changed (numbers "0 6  5 8"))
    ∷ clause (AtMost 1 (pos 4) ∷ AtLeast 0 (pos 6) ∷ []) (numbers "0 10  5 8") (changed (numbers "6 10  5 8"))
    -- three, one not false: the first, the second, the third
    ∷ clause (AtLeast 0 (pos 3) ∷ AtMost 1 (pos 4) ∷ AtLeast 2 (pos 4) ∷ []) (numbers "0 10  5 8  3 3") (changed (numbers "3 10  5 8  3 3"))
    ∷ clause (AtMost 1 (pos 4) ∷ AtLeast 0 (pos 3) ∷ AtLeast 2 (pos 4) ∷ []) (numbers "0 10  5 8  3 3") (changed (numbers "3 10  5 8  3 3"))
    ∷ clause (AtMost 1 (pos 4) ∷ AtLeast 2 (pos 4) ∷ AtLeast 0 (pos 3) ∷ []) (numbers "0 10  5 8  3 3") (changed (numbers "3 10  5 8  3 3"))
    -- three, all false
    ∷ clause (AtMost 1 (pos 4) ∷ AtLeast 2 (pos 4) ∷ AtLeast 0 (pos 11) ∷ []) (numbers "0 10  5 8  3 3") empty
    -- two not false: nothing, though both are undecided; and so behind a false one, and round one
    ∷ clause (AtMost 0 (pos 6) ∷ AtMost 1 (pos 6) ∷ []) (numbers "0 10  5 8") (unchanged (numbers "0 10  5 8"))
    ∷ clause (AtLeast 2 (pos 4) ∷ AtMost 0 (pos 6) ∷ AtMost 1 (pos 6) ∷ []) (numbers "0 10  5 8  3 3") (unchanged (numbers "0 10  5 8  3 3"))
    ∷ clause (AtMost 0 (pos 6) ∷ AtLeast 2 (pos 4) ∷ AtMost 1 (pos 6) ∷ []) (numbers "0 10  5 8  3 3") (unchanged (numbers "0 10  5 8  3 3"))
    -- a true one is not false either: beside an undecided one, nothing, whichever stands first
    ∷ clause (AtMost 1 (pos 8) ∷ AtMost 0 (pos 6) ∷ []) (numbers "0 10  5 8") (unchanged (numbers "0 10  5 8"))
    ∷ clause (AtMost 0 (pos 6) ∷ AtMost 1 (pos 8) ∷ []) (numbers "0 10  5 8") (unchanged (numbers "0 10  5 8"))
    -- beside a false one it is the one position, and the cut takes nothing off
    ∷ clause (AtLeast 1 (pos 5) ∷ AtMost 1 (pos 4) ∷ []) (numbers "0 10  5 8") (unchanged (numbers "0 10  5 8"))
    -- the same literal twice is two positions
    ∷ clause (AtMost 0 (pos 6) ∷ AtMost 0 (pos 6) ∷ []) (numbers "0 10") (unchanged (numbers "0 10"))
    -- at most 3 or at least 7: both not false in [0, 10], the second alone in [4, 10], none in [4, 6]
    ∷ clause (AtMost 0 (pos 3) ∷ AtLeast 0 (pos 7) ∷ []) (numbers "0 10") (unchanged (numbers "0 10"))
    ∷ clause (AtMost 0 (pos 3) ∷ AtLeast 0 (pos 7) ∷ []) (numbers "4 10") (changed (numbers "7 10"))
    ∷ clause (AtMost 0 (pos 3) ∷ AtLeast 0 (pos 7) ∷ []) (numbers "4 6") empty
    ∷ []

-- ---- a sweep visits primitives in order, then clauses in order; an empty range ends the sweep at once
abbrev pub sweeps : List Case
sweeps =
    -- no constraint: nothing
    sweep [] [] (numbers "0 10") (unchanged (numbers "0 10"))
    -- the next primitive sees the new range: quantity 2 to [1+3, 2+4], then quantity 3 to [4+1, 6+2]
    ∷ sweep (Sum 2 0 1 ∷ Sum 3 2 0 ∷ []) [] (numbers "1 2  3 4  0 100  0 100") (changed (numbers "1 2  3 4  4 6  5 8"))
    -- the other order: quantity 3 to [0+1, ..], quantity 2 to [.., 100-1], and only then quantity 2 to [4, 6]
    ∷ sweep (Sum 3 2 0 ∷ Sum 2 0 1 ∷ []) [] (numbers "1 2  3 4  0 100  0 100") (changed (numbers "1 2  3 4  4 6  1 100"))
    -- empty in the second primitive: quantity 2 to [4, 6], then quantity 0 to [4+4, 6+6]
    ∷ sweep (Sum 2 0 1 ∷ Sum 0 2 2 ∷ []) [] (numbers "1 2  3 4  0 100") empty
    -- clauses after primitives: quantity 2 to [4, 6] makes "at least 7" false, so quantity 0 is cut to at most 1
    ∷ sweep (Sum 2 0 1 ∷ []) ((AtLeast 2 (pos 7) ∷ AtMost 0 (pos 1) ∷ []) ∷ []) (numbers "1 2  3 4  0 100") (changed (numbers "1 1  3 4  4 6"))
    -- the next clause sees the new range: at most 3 makes "at least 5" false, so quantity 1 is cut to at most 0
    ∷ sweep [] ((AtMost 0 (pos 3) ∷ []) ∷ (AtLeast 0 (pos 5) ∷ AtMost 1 (pos 0) ∷ []) ∷ []) (numbers "0 10  0 9") (changed (numbers "0 3  0 0"))
    -- the other order: both not false, and then at most 3
    ∷ sweep [] ((AtLeast 0 (pos 5) ∷ AtMost 1 (pos 0) ∷ []) ∷ (AtMost 0 (pos 3) ∷ []) ∷ []) (numbers "0 10  0 9") (changed (numbers "0 3  0 9"))
    -- empty in the second clause: at most 3 makes "at least 5" false
    ∷ sweep [] ((AtMost 0 (pos 3) ∷ []) ∷ (AtLeast 0 (pos 5) ∷ []) ∷ []) (numbers "0 10") empty
    -- a range changed, though the last constraint takes nothing off
    ∷ sweep (Sum 0 1 2 ∷ []) ((AtMost 0 (pos 7) ∷ []) ∷ []) (numbers "0 100  1 4  2 3") (changed (numbers "3 7  1 4  2 3"))
    -- and swept again: nothing
    ∷ sweep (Sum 0 1 2 ∷ []) ((AtMost 0 (pos 7) ∷ []) ∷ []) (numbers "3 7  1 4  2 3") (unchanged (numbers "3 7  1 4  2 3"))
    ∷ []

abbrev pub worked : List Case
worked = sums ++ (trims ++ (products ++ (squares ++ (clauses ++ sweeps))))

-- what the test computes with
unfoldable opened : Unit {0}
unfolding min_z max_z floor_q ceil_q root_in root_down root_up cut_to cut_of open_of all_steps sweep_of
opened = tt

pub worked_hold : all_pass worked ≡ true
unfolding opened
worked_hold = refl
