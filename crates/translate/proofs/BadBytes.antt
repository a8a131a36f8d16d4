-- The bytes of a text: the definition asks each in turn, as the library's test of a list does.
use mathlib.Core.Path.{◌≡◌, refl, ap}
use mathlib.Core.Bool.{◌||◌, Bool}
use mathlib.Core.List.{List, [], ◌∷◌}
use Prim.Native.Nat.{ℕ}
use Rattle.std.specs.List.{list_any}
use Rattle.meaning.specs.Grounds.{bad_byte, any_bad_byte}

pub any_tested : (l : List ℕ) → list_any bad_byte l ≡ any_bad_byte l
unfolding any_bad_byte
any_tested [] = refl
any_tested (b ∷ bs) = ap (λ (t : Bool). bad_byte b || t) (any_tested bs)
