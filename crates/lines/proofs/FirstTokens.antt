-- The readings at each kind of first token.
use mathlib.Core.Path.{◌≡◌, refl, sym, ◌∙◌, ap}
use mathlib.Core.Logic.{◌⊎◌, inl, inr}
use mathlib.Core.List.{List, [], ◌∷◌}
use mathlib.Core.Option.{none}
use Prim.Native.Nat.{ℕ, suc, ◌≤◌, ◌<◌}
use native.Mathlib.Omega.{arith}
use lib.ListN.{length}
use borrow.Author.Tests.{ne_eqb}
use Rattle.sheet.specs.Reading.{token_no, payload, head_of, rest_of, head_no, and_then, closed, expr_f, atom_f}
use Rattle.sheet.specs.inner.Steps.{tokens_from}
use Rattle.sheet.specs.inner.Contents.{Proper}
use Rattle.sheet.specs.declared.Mark.{Mark}
use Rattle.sheet.specs.declared.Mark.TheVariants.{Open, Plus, Minus}
use Rattle.sheet.specs.declared.Token.{Token}
use Rattle.sheet.specs.declared.Token.TheVariants.{Number, Name, Fixed}
use Rattle.sheet.proofs.Contents.{proper_from, proper_head}
use Rattle.sheet.proofs.Heads.{not_mark, is_number, is_name}

-- where a token stands, the tokens are one more than the rest
pub longer : (ts : List Token) → 0 < head_no ts → length ts ≡ suc (length (rest_of ts))
longer [] h = absurd (omega arith)
longer (t ∷ ts) h = refl

-- ---- the first token, from the step's token
module _ (ts : List Token) (t : Token) (e : t ≡ head_of ts) where
  pub head_is : (u : Token) → t ≡ u → head_no ts ≡ token_no u
  head_is u f = ap token_no (sym e ∙ f)

  pub head_not : (m : Mark) → (t ≡ Fixed m → ⊥) → head_no ts ≡ token_no (Fixed m) → ⊥
  head_not m f = not_mark (head_of ts) m (λ d. f (e ∙ d))

  not_number : ((n : ℕ) → t ≡ Number n → ⊥) → head_no ts ≡ 1 → ⊥
  not_number f d = f (payload (head_of ts)) (e ∙ is_number (head_of ts) d)

  not_name : ((n : ℕ) → t ≡ Name n → ⊥) → head_no ts ≡ 2 → ⊥
  not_name f d = f (payload (head_of ts)) (e ∙ is_name (head_of ts) d)

  -- a token that starts no atom
  pub no_atom : ((n : ℕ) → t ≡ Number n → ⊥) → ((n : ℕ) → t ≡ Name n → ⊥) → (t ≡ Fixed Open → ⊥) → (k : ℕ) → atom_f (suc k) ts ≡ none
  unfolding expr_f
  no_atom f g h k = rw (ne_eqb (head_no ts) 1 (not_number f), ne_eqb (head_no ts) 2 (not_name g), ne_eqb (head_no ts) 4 (head_not Open h))

-- `+` or `-`
pub sum_mark : (m : Mark) → (m ≡ Plus) ⊎ (m ≡ Minus) → (6 ≤ token_no (Fixed m)) × (token_no (Fixed m) ≤ 7)
sum_mark m (inl e) = rw e (omega arith, omega arith)
sum_mark m (inr e) = rw e (omega arith, omega arith)

-- ---- the readings at each kind of head
module _ (k : ℕ) (ts : List Token) where
  pub atom_open : head_no ts ≡ 4 → atom_f (suc k) ts ≡ and_then (expr_f k (rest_of ts)) closed
  unfolding expr_f
  atom_open d = rw d

-- ---- a number is at most M
pub number_small : (l : List ℕ) (at n : ℕ) (t : Token) → t ≡ head_of (tokens_from l at) → t ≡ Number n → n ≤ 1_000_000_000_000
number_small l at n t e f =
    let p : Proper (head_of (tokens_from l at)) = proper_head (tokens_from l at) (proper_from l at) in
    rw (sym e ∙ f) at p
