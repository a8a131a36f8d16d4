-- The number of helpers of what is asked; and one name for the definitions that a translation computes by: `unfolding opened` opens them all.
use mathlib.Core.List.{List, [], ◌∷◌}
use Prim.Native.Nat.{ℕ, ◌+◌}
use Rattle.meaning.specs.Plain.{Asked}
use Rattle.meaning.specs.Translation.{range_of, size_of, place_in, equation, piece_of, gap_of, half_of, literals_for, equal, equalities, gaps, clause_of, one_or_two, rule_of}

unfoldable pub sizes : List Asked → ℕ
sizes [] = 0
sizes (a ∷ more) = size_of (gap_of a) + sizes more

unfoldable pub opened : Unit {0}
unfolding range_of size_of place_in equation piece_of half_of literals_for equal equalities sizes gaps clause_of one_or_two rule_of
opened = tt
