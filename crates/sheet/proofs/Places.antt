-- What the byte at a place says of the bytes up to the next m: the definition goes by the first byte, and the code by the place.
use Rattle.std.specs.Prelude.{Option, Some, None, unwrap_or, position}
use Rattle.std.specs.List.{position_or_len}
use Rattle.std.proofs.lemmas.List.Recursion.{is_position_or_len}
use mathlib.Core.Path.{◌≡◌, refl, ap}
use mathlib.Core.Bool.{Bool, true, false, cond}
use mathlib.Core.List.{List, [], ◌∷◌}
use Prim.Native.Nat.{ℕ, suc, ◌+◌, ◌≤◌, ◌<◌}
use native.Mathlib.Nat.{le_refl}
use native.Mathlib.Numerals.{add-one}
use native.Mathlib.Omega.{arith}
use lib.Dec.{eqb, ltb}
use lib.ListN.{length, get_or, take, drop, drop_of_length-le, length-drop}
use lib.Seq.{drop-cons}
use borrow.Author.Tests.{ltb-false}
use Rattle.sheet.specs.inner.Places.{up_to, place_of}

module _ (l : List ℕ) (i : ℕ) where
  -- a place in the list: its byte, and the rest
  pub drop_at : i < length l → drop i l ≡ get_or l i 0 ∷ drop (i + 1) l
  drop_at h = rw (add-one, drop-cons l i 0)

  -- past the end nothing stands
  pub drop_end : length l ≤ i → drop i l ≡ []
  drop_end h = drop_of_length-le l h

  pub up_to_none : (m : ℕ) → length l ≤ i → up_to m (drop i l) ≡ []
  unfolding up_to
  up_to_none m h = rw (drop_end h)

-- it is no longer than the list, and the list begins with it
pub up_to_short : (m : ℕ) (l : List ℕ) → length (up_to m l) ≤ length l
unfolding up_to
up_to_short m [] = le_refl 0
up_to_short m (b ∷ bs) = by (eqb b m) (up_to_short m bs)
  where
    by : (t : Bool) → length (up_to m bs) ≤ length bs → length (cond t [] (b ∷ up_to m bs)) ≤ suc (length bs)
    by true h = omega arith
    by false h = omega arith

pub up_to_take : (m : ℕ) (l : List ℕ) → take (length (up_to m l)) l ≡ up_to m l
unfolding up_to
up_to_take m [] = refl
up_to_take m (b ∷ bs) = by (eqb b m) (up_to_take m bs)
  where
    by : (t : Bool) → take (length (up_to m bs)) bs ≡ up_to m bs → take (length (cond t [] (b ∷ up_to m bs))) (b ∷ bs) ≡ cond t [] (b ∷ up_to m bs)
    by true h = refl
    by false h = ap (λ (xs : List ℕ). b ∷ xs) h

-- the next place lies in the list
pub place_fits : (m : ℕ) (l : List ℕ) (at : ℕ) → at ≤ length l → place_of m l at ≤ length l
place_fits m l at h = omega (arith, up_to_short m (drop at l), length-drop at l)

-- how many bytes stand before the first m is the place of it, and without one their number
before_first : (m : ℕ) (l : List ℕ) → length (up_to m l) ≡ position_or_len (λ b. eqb b m) l
unfolding up_to
before_first m = is_position_or_len (λ l. length (up_to m l)) (λ b. eqb b m) refl (λ b bs. by b bs (eqb b m))
  where
    by : (b : ℕ) (bs : List ℕ) (t : Bool) → length (cond t [] (b ∷ up_to m bs)) ≡ cond t 0 (1 + length (up_to m bs))
    by b bs true = refl
    by b bs false = omega arith

pub found_or_end : (m : ℕ) (l : List ℕ) (o : Option ℕ) → o ≡ position (λ b. eqb b m) l → unwrap_or o (length l) ≡ length (up_to m l)
found_or_end m l o e = rw (e, ← before_first m l) (by (ltb (length (up_to m l)) (length l)) refl)
  where
    by : (t : Bool) → ltb (length (up_to m l)) (length l) ≡ t → unwrap_or (cond t (Some (length (up_to m l))) None) (length l) ≡ length (up_to m l)
    by true f = refl
    by false f = omega (arith, ltb-false (length (up_to m l)) (length l) f, up_to_short m l)
