-- What is said of the elements of a list.
use Rattle.std.specs.Prelude.{List, [], ◌∷◌, ◌⊎◌}

-- every element has it
abbrev pub AllOf : {A : Type 0} → (A → Type 0) → List A → Type 0
AllOf Q [] = Unit {0}
AllOf Q (x ∷ xs) = Q x × AllOf Q xs

-- some element has it
abbrev pub OneOf : {A : Type 0} → (A → Type 0) → List A → Type 0
OneOf Q [] = ⊥
OneOf Q (x ∷ xs) = Q x ⊎ OneOf Q xs
