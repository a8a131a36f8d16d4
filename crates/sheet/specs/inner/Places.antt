-- For the code: the place of the next byte of a kind.
use Rattle.std.specs.Prelude.{cond, List, [], ◌∷◌, ℕ, ◌+◌, eqb, length, drop}

-- what stands before the first byte m
unfoldable pub up_to : ℕ → List ℕ → List ℕ
up_to m [] = []
up_to m (b ∷ bs) = cond (eqb b m) [] (b ∷ up_to m bs)

-- the first place from `at` on where the byte m stands, or the end
abbrev pub place_of : ℕ → List ℕ → ℕ → ℕ
place_of m l at = at + length (up_to m (drop at l))
