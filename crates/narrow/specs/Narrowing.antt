-- The cuts of each constraint, in order: document 01, "Narrowing one constraint", and document 02, L3. Quantities are z, x, y, and Z, X, Y their
-- ranges; a step names the quantity that it cuts, then those that it is cut by.
use Rattle.std.specs.Prelude.{Bool, cond, List, [], ◌∷◌, ℕ, pos, negsuc, neg_ℤ}
use Rattle.std.specs.Int.Signed.{lt_z, le_z}
use Rattle.whole.specs.Numbers.{min4, max4, floor_q, ceil_q, root_down, root_up}
use Rattle.whole.specs.Ranges.{range, holds_zero, sum_span, difference_span, product_span, square_span}
use Rattle.whole.specs.declared.Range.{Range}
use Rattle.problem.specs.Grounds.{differ}
use Rattle.problem.specs.Problem.{Box, low_at, high_at, range_at}
use Rattle.problem.specs.declared.Primitive.{Primitive}
use Rattle.problem.specs.declared.Primitive.TheVariants.{Sum, Product, Square}
use Rattle.problem.specs.declared.Literal.{Literal}
use Rattle.problem.specs.declared.Literal.TheVariants.{AtMost, AtLeast}
use Rattle.narrow.specs.Cuts.{Cut, stay, void, to, Step}

-- ---- Sum: cut z to [xl+yl, xh+yh]; x to [zl-yh, zh-yl]; y to [zl-xh, zh-xl]
abbrev pub sum_step : ℕ → ℕ → ℕ → Step
sum_step z x y b = to z (sum_span (range_at b x) (range_at b y))

abbrev pub difference_step : ℕ → ℕ → ℕ → Step
difference_step x z y b = to x (difference_span (range_at b z) (range_at b y))

abbrev pub sum_steps : ℕ → ℕ → ℕ → List Step
sum_steps z x y = sum_step z x y ∷ difference_step x z y ∷ difference_step y z x ∷ []

-- ---- Product: cut z to the least and greatest of the four end products
abbrev pub product_step : ℕ → ℕ → ℕ → Step
product_step z x y b = to z (product_span (range_at b x) (range_at b y))

-- the least and greatest of the four exact quotients of z's ends by y's ends, rounded up to the lower end and down to the upper end
abbrev pub quotient_span : Range → Range → Range
quotient_span Z Y =
    range
    (min4 (ceil_q Z.low Y.low) (ceil_q Z.low Y.high) (ceil_q Z.high Y.low) (ceil_q Z.high Y.high))
    (max4 (floor_q Z.low Y.low) (floor_q Z.low Y.high) (floor_q Z.high Y.low) (floor_q Z.high Y.high))

-- if y's range holds no 0, cut x to these; otherwise x stays
abbrev pub quotient_cut : ℕ → Range → Range → Cut
quotient_cut x Z Y = cond (holds_zero Y) stay (to x (quotient_span Z Y))

abbrev pub quotient_step : ℕ → ℕ → ℕ → Step
quotient_step x z y b = quotient_cut x (range_at b z) (range_at b y)

-- before each division, where z's range holds no 0: a divisor's range with low 0 and high above 0 gets low 1, one with high 0 and low below 0 gets
-- high -1, and [0,0] is empty (document 02, L3)
abbrev pub end_zero_cut : ℕ → Range → Cut
end_zero_cut y Y =
    cond (differ Y.low (pos 0))
    (cond (differ Y.high (pos 0)) stay (to y (range Y.low (negsuc 0))))
    (cond (differ Y.high (pos 0)) (to y (range (pos 1) Y.high)) void)

abbrev pub trim_cut : ℕ → Range → Range → Cut
trim_cut y Y Z = cond (holds_zero Z) stay (end_zero_cut y Y)

abbrev pub trim_step : ℕ → ℕ → Step
trim_step y z b = trim_cut y (range_at b y) (range_at b z)

-- cut z; then x by y, with y as divisor trimmed before; then y likewise by x
abbrev pub product_steps : ℕ → ℕ → ℕ → List Step
product_steps z x y = product_step z x y ∷ trim_step y z ∷ quotient_step x z y ∷ trim_step x z ∷ quotient_step y z x ∷ []

-- ---- Square: cut z to the exact range of squares
abbrev pub square_step : ℕ → ℕ → Step
square_step z x b = to z (square_span (range_at b x))

-- cut x to [-r, r], r the whole root of zh rounded down
abbrev pub root_span : Range → Range
root_span Z = range (neg_ℤ (root_down Z.high)) (root_down Z.high)

abbrev pub root_step : ℕ → ℕ → Step
root_step x z b = to x (root_span (range_at b z))

-- with s the root of zl rounded up: if xl >= 0 raise xl to at least s
abbrev pub raise_cut : ℕ → Range → Range → Cut
raise_cut x X Z = cond (le_z (pos 0) X.low) (to x (range (root_up Z.low) X.high)) stay

abbrev pub raise_step : ℕ → ℕ → Step
raise_step x z b = raise_cut x (range_at b x) (range_at b z)

-- and if xh <= 0 lower xh to at most -s
abbrev pub lower_cut : ℕ → Range → Range → Cut
lower_cut x X Z = cond (le_z X.high (pos 0)) (to x (range X.low (neg_ℤ (root_up Z.low)))) stay

abbrev pub lower_step : ℕ → ℕ → Step
lower_step x z b = lower_cut x (range_at b x) (range_at b z)

abbrev pub square_steps : ℕ → ℕ → List Step
square_steps z x = square_step z x ∷ root_step x z ∷ raise_step x z ∷ lower_step x z ∷ []

abbrev pub primitive_steps : Primitive → List Step
primitive_steps (Sum z x y) = sum_steps z x y
primitive_steps (Product z x y) = product_steps z x y
primitive_steps (Square z x) = square_steps z x

-- ---- Clause: a literal is false if no value of the range meets it
abbrev pub is_false : Box → Literal → Bool
is_false b (AtMost q c) = lt_z c (low_at b q)
is_false b (AtLeast q c) = lt_z (high_at b q) c

-- the positions that are not false
unfoldable pub open_of : Box → List Literal → List Literal
open_of b [] = []
open_of b (l ∷ ls) = cond (is_false b l) (open_of b ls) (l ∷ open_of b ls)

-- cut by a literal
abbrev pub literal_cut : Box → Literal → Cut
literal_cut b (AtMost q c) = to q (range (low_at b q) c)
literal_cut b (AtLeast q c) = to q (range c (high_at b q))

-- all false: empty. Exactly one position not false: cut by it. Otherwise nothing
abbrev pub unit_cut : Box → List Literal → Cut
unit_cut b [] = void
unit_cut b (l ∷ []) = literal_cut b l
unit_cut b (l ∷ (m ∷ ls)) = stay

abbrev pub clause_step : List Literal → Step
clause_step ls b = unit_cut b (open_of b ls)
