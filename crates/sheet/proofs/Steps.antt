-- The tokens from a place on: where the place lies in the line they are the token of the piece there and the tokens behind its space, and past
-- the line's end there are none. So a step from place to place goes through the tokens.
use mathlib.Core.Path.{◌≡◌, refl, sym, ◌∙◌, ap}
use mathlib.Core.Bool.{Bool, true, false, cond}
use mathlib.Core.List.{List, [], ◌∷◌, map}
use Prim.Native.Nat.{ℕ, suc, ◌+◌, ◌≤◌, ◌<◌}
use native.Mathlib.Nat.{add-suc}
use native.Mathlib.Numerals.{add-one}
use native.Mathlib.Omega.{arith}
use lib.Dec.{leb, ltb, eqb, leb-suc-suc}
use lib.ListN.{length, drop, length-drop}
use lib.Seq.{drop-drop}
use borrow.Author.Tests.{lt-leb, le-leb, lt-ltb, le-ltb, leb-true, leb-false}
use Rattle.sheet.specs.Lines.{with_first}
use Rattle.sheet.specs.Tokens.{pieces_of, token_of, tokens_of}
use Rattle.sheet.specs.Reading.{head_of, rest_of}
use Rattle.sheet.specs.inner.Places.{up_to, place_of}
use Rattle.sheet.specs.inner.Steps.{front, tokens_from, step_at}
use Rattle.sheet.specs.declared.Token.{Token}
use Rattle.sheet.specs.declared.Token.TheVariants.{Bad}

-- the pieces behind the first space
later : List ℕ → List (List ℕ)
later l = cond (ltb (length (front l)) (length l)) (pieces_of (drop (suc (length (front l))) l)) []

pieces_front : (l : List ℕ) → pieces_of l ≡ front l ∷ later l
unfolding pieces_of up_to later
pieces_front [] = refl
pieces_front (b ∷ bs) = by (eqb b 32) (pieces_front bs)
  where
    by : (t : Bool) → pieces_of bs ≡ front bs ∷ later bs →
        cond t ([] ∷ pieces_of bs) (with_first b (pieces_of bs)) ≡ cond t [] (b ∷ front bs) ∷ cond (ltb (length (cond t [] (b ∷ front bs))) (suc (length bs))) (pieces_of (drop (suc (length (cond t [] (b ∷ front bs)))) (b ∷ bs))) []
    by true h = rw (lt-ltb 0 (suc (length bs)) (omega arith))
    by false h = rw (h, leb-suc-suc (suc (length (front bs))) (length bs))

module _ (l : List ℕ) (at : ℕ) where
  pub step_past : length l < at → step_at l at ≡ record { token = Bad; next = at }
  unfolding step_at
  step_past h = rw (lt-leb at (length l) h)

  pub step_in : at ≤ length l → step_at l at ≡ record { token = token_of (front (drop at l)); next = place_of 32 l at + 1 }
  unfolding step_at
  step_in h = rw (le-leb at (length l) h)

  -- past the line's end there is no token
  pub none_at : length l < at → tokens_from l at ≡ []
  unfolding tokens_from
  none_at h = rw (lt-leb at (length l) h)

  some_at : at ≤ length l → tokens_from l at ≡ map token_of (pieces_of (drop at l))
  unfolding tokens_from tokens_of
  some_at h = rw (le-leb at (length l) h)

cons_at : (l : List ℕ) (at : ℕ) → at ≤ length l → tokens_from l at ≡ token_of (front (drop at l)) ∷ tokens_from l (place_of 32 l at + 1)
unfolding later
cons_at l at h =
    some_at l at h ∙ ap (map token_of) (pieces_front (drop at l))
    ∙ ap (λ (ts : List Token). token_of (front (drop at l)) ∷ ts) (rest (leb n (length l)) refl)
  where
    n : ℕ
    n = place_of 32 l at + 1

    rest : (t : Bool) → leb n (length l) ≡ t → map token_of (later (drop at l)) ≡ tokens_from l n
    rest true e =
        let le : n ≤ length l = leb-true n (length l) e in
        rw (lt-ltb (length (front (drop at l))) (length (drop at l)) (omega (arith, length-drop at l)), drop-drop (suc (length (front (drop at l)))) at l, add-suc at (length (front (drop at l))), ← add-one (at + length (front (drop at l)))) (sym (some_at l n le))
    rest false e =
        let gt : length l < n = leb-false n (length l) e in
        rw (le-ltb (length (front (drop at l))) (length (drop at l)) (omega (arith, length-drop at l))) (sym (none_at l n gt))

-- a step gives the first token, and the place of the others
pub next_head : (l : List ℕ) (at : ℕ) → (step_at l at).token ≡ head_of (tokens_from l at)
next_head l at = by (leb at (length l)) refl
  where
    by : (t : Bool) → leb at (length l) ≡ t → (step_at l at).token ≡ head_of (tokens_from l at)
    by true e = let h = leb-true at (length l) e in rw (step_in l at h, cons_at l at h)
    by false e = let h = leb-false at (length l) e in rw (step_past l at h, none_at l at h)

pub next_rest : (l : List ℕ) (at : ℕ) → tokens_from l (step_at l at).next ≡ rest_of (tokens_from l at)
next_rest l at = by (leb at (length l)) refl
  where
    by : (t : Bool) → leb at (length l) ≡ t → tokens_from l (step_at l at).next ≡ rest_of (tokens_from l at)
    by true e = let h = leb-true at (length l) e in rw (step_in l at h, cons_at l at h)
    by false e = let h = leb-false at (length l) e in rw (step_past l at h, none_at l at h)

-- a step in the line: its token first, then the tokens from the next place on, which lies in the line or one past it
pub step_cons : (l : List ℕ) (at : ℕ) → at ≤ length l → tokens_from l at ≡ (step_at l at).token ∷ tokens_from l (step_at l at).next
step_cons l at h = rw (step_in l at h) (cons_at l at h)

-- so in the line some token is left
pub some_left : (l : List ℕ) (at : ℕ) → at ≤ length l → 0 < length (tokens_from l at)
some_left l at h = rw (step_cons l at h) (omega arith)

-- the tokens from the start on are those of the line
pub from_start : (l : List ℕ) → tokens_from l 0 ≡ tokens_of l
unfolding tokens_from
from_start l = rw (le-leb 0 (length l) (omega arith))
