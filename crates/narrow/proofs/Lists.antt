-- What all elements of two lists have, all elements of the two joined have, and the other way round: by the cases of the first list.
use mathlib.Core.List.{List, [], ◌∷◌, ◌++◌}
use Rattle.whole.specs.Lists.{AllOf}

pub both : {A : Type 0} (Q : A → Type 0) (xs ys : List A) → AllOf Q xs → AllOf Q ys → AllOf Q (xs ++ ys)
both Q [] ys h k = k
both Q (x ∷ xs) ys h k = (h.0, both Q xs ys h.1 k)

pub left : {A : Type 0} (Q : A → Type 0) (xs ys : List A) → AllOf Q (xs ++ ys) → AllOf Q xs
left Q [] ys h = tt
left Q (x ∷ xs) ys h = (h.0, left Q xs ys h.1)

pub right : {A : Type 0} (Q : A → Type 0) (xs ys : List A) → AllOf Q (xs ++ ys) → AllOf Q ys
right Q [] ys h = h
right Q (x ∷ xs) ys h = right Q xs ys h.1
