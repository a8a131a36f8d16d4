-- What is said of every element, of some element, and of every element with its number, over two lists in a row: each list is walked once.
use mathlib.Core.Path.{◌≡◌, subst}
use mathlib.Core.List.{List, [], ◌∷◌, ◌++◌}
use mathlib.Core.Logic.{◌⊎◌, inl, inr}
use Prim.Native.Nat.{ℕ, zero, suc, ◌+◌, ◌<◌, ◌≤◌}
use native.Mathlib.Omega.{arith}
use lib.ListN.{length, get_or}
use Rattle.whole.specs.Lists.{AllOf, OneOf}

-- every element has it together with its number, the first one's being k
abbrev pub Each : {A : Type 0} → (ℕ → A → Type 0) → ℕ → List A → Type 0
Each P k [] = Unit {0}
Each P k (x ∷ xs) = P k x × Each P (suc k) xs

module _ {A : Type 0} (P : A → Type 0) where
  pub all_join : (xs ys : List A) → AllOf P xs → AllOf P ys → AllOf P (xs ++ ys)
  all_join [] ys h k = k
  all_join (x ∷ xs) ys h k = (h.0, all_join xs ys h.1 k)

  pub all_left : (xs ys : List A) → AllOf P (xs ++ ys) → AllOf P xs
  all_left [] ys h = tt
  all_left (x ∷ xs) ys h = (h.0, all_left xs ys h.1)

  pub all_right : (xs ys : List A) → AllOf P (xs ++ ys) → AllOf P ys
  all_right [] ys h = h
  all_right (x ∷ xs) ys h = all_right xs ys h.1

  pub all_at : (xs : List A) (d : A) (i : ℕ) → i < length xs → AllOf P xs → P (get_or xs i d)
  all_at [] d i l h = absurd (omega arith)
  all_at (x ∷ xs) d zero l h = h.0
  all_at (x ∷ xs) d (suc i) l h = all_at xs d i (omega arith) h.1

  pub one_left : (xs ys : List A) → OneOf P xs → OneOf P (xs ++ ys)
  one_left [] ys h = elim h [ ]
  one_left (x ∷ xs) ys (inl h) = inl h
  one_left (x ∷ xs) ys (inr h) = inr (one_left xs ys h)

  pub one_right : (xs ys : List A) → OneOf P ys → OneOf P (xs ++ ys)
  one_right [] ys h = h
  one_right (x ∷ xs) ys h = inr (one_right xs ys h)

  pub one_split : (xs ys : List A) → OneOf P (xs ++ ys) → OneOf P xs ⊎ OneOf P ys
  one_split [] ys h = inr h
  one_split (x ∷ xs) ys (inl h) = inl (inl h)
  one_split (x ∷ xs) ys (inr h) = more (one_split xs ys h)
    where
      more : OneOf P xs ⊎ OneOf P ys → OneOf P (x ∷ xs) ⊎ OneOf P ys
      more (inl k) = inl (inr k)
      more (inr k) = inr k

pub all_map : {A : Type 0} (P Q : A → Type 0) (xs : List A) → ((x : A) → P x → Q x) → AllOf P xs → AllOf Q xs
all_map P Q [] f h = tt
all_map P Q (x ∷ xs) f h = (f x h.0, all_map P Q xs f h.1)

module _ {A : Type 0} (P : ℕ → A → Type 0) where
  pub each_join : (xs ys : List A) (k m : ℕ) → k + length xs ≡ m → Each P k xs → Each P m ys → Each P k (xs ++ ys)
  each_join [] ys k m e h i = subst (λ (j : ℕ). Each P j ys) (omega arith) i
  each_join (x ∷ xs) ys k m e h i = (h.0, each_join xs ys (suc k) m (omega arith) h.1 i)

  pub each_left : (xs ys : List A) (k : ℕ) → Each P k (xs ++ ys) → Each P k xs
  each_left [] ys k h = tt
  each_left (x ∷ xs) ys k h = (h.0, each_left xs ys (suc k) h.1)

  pub each_right : (xs ys : List A) (k m : ℕ) → k + length xs ≡ m → Each P k (xs ++ ys) → Each P m ys
  each_right [] ys k m e h = subst (λ (j : ℕ). Each P j ys) (omega arith) h
  each_right (x ∷ xs) ys k m e h = each_right xs ys (suc k) m (omega arith) h.1

  pub each_at : (xs : List A) (d : A) (k i : ℕ) → i < length xs → Each P k xs → P (k + i) (get_or xs i d)
  each_at [] d k i l h = absurd (omega arith)
  each_at (x ∷ xs) d k zero l h = subst (λ (j : ℕ). P j x) (omega arith) h.0
  each_at (x ∷ xs) d k (suc i) l h = subst (λ (j : ℕ). P j (get_or xs i d)) (omega arith) (each_at xs d (suc k) i (omega arith) h.1)

  pub each_from : (xs : List A) (d : A) (k : ℕ) → ((i : ℕ) → i < length xs → P (k + i) (get_or xs i d)) → Each P k xs
  each_from [] d k f = tt
  each_from (x ∷ xs) d k f = (
    subst (λ (j : ℕ). P j x) (omega arith) (f 0 (omega arith)),
    each_from xs d (suc k) (λ i l. subst (λ (j : ℕ). P j (get_or xs i d)) (omega arith) (f (suc i) (omega arith))),
  )

pub each_map : {A : Type 0} (P Q : ℕ → A → Type 0) (xs : List A) (k m : ℕ) → k + length xs ≤ m → ((i : ℕ) (x : A) → i < m → P i x → Q i x) → Each P k xs → Each Q k xs
each_map P Q [] k m e f h = tt
each_map P Q (x ∷ xs) k m e f h = (f k x (omega arith) h.0, each_map P Q xs (suc k) m (omega arith) f h.1)
