-- Lists of numbers as they are quoted: rows of decimal numbers with spaces between them, and `-` directly before one below 0.
use Rattle.std.specs.Prelude.{cond, List, ℕ, ◌+◌, ◌-◌, ◌*◌, eqb, ℤ, pos, neg_ℤ}
use mathlib.Core.List as list
use Prim.Native.Char.{code}
use Prim.Native.String.{String, [], ◌∷◌}

-- the number in hand: none yet, one of these digits, or one of these digits below 0
pub data Hand : Type 0 where
  empty : Hand
  above : ℕ → Hand
  below : ℕ → Hand

-- one digit more
abbrev pub digit : Hand → ℕ → Hand
digit empty d = above d
digit (above n) d = above (n * 10 + d)
digit (below n) d = below (n * 10 + d)

-- the number in hand stands before the others
abbrev pub ended : Hand → List ℤ → List ℤ
ended empty l = l
ended (above n) l = list.◌∷◌ (pos n) l
ended (below n) l = list.◌∷◌ (neg_ℤ (pos n)) l

-- the numbers of a row: 32 is the space, 45 is `-`, 48 is `0`
abbrev pub numbers_from : Hand → String → List ℤ
numbers_from h [] = ended h list.[]
numbers_from h (c ∷ s) =
    cond (eqb (code c) 32) (ended h (numbers_from empty s))
    (cond (eqb (code c) 45) (numbers_from (below 0) s) (numbers_from (digit h (code c - 48)) s))

abbrev pub numbers : String → List ℤ
numbers s = numbers_from empty s

-- the numbers of rows
abbrev pub rows : List String → List ℤ
rows list.[] = list.[]
rows (list.◌∷◌ s l) = list.◌++◌ (numbers s) (rows l)
