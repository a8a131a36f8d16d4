-- Bytes are put one at a time, so two runs of them in a row are one run; where all have a place they stand in the buffer as they are.
use mathlib.Core.Path.{◌≡◌, refl, sym, ap, ◌∙◌}
use mathlib.Core.List.{List, [], ◌∷◌, ◌++◌}
use Prim.Native.Nat.{ℕ, suc, ◌+◌, ◌-◌, ◌*◌, ◌≤◌, ◌<◌}
use native.Mathlib.Numerals.{add-one}
use native.Mathlib.Omega.{arith}
use lib.IntN.{ℤ, pos}
use lib.ListN.{length, get_or, set, take, drop, length-set, drop_of_length-le}
use lib.Seq.{drop-cons, drop-drop, sets, sets-eq}
use borrow.Author.Tests.{lt-ltb, le-ltb, eq-eqb, ne_eqb}
use Rattle.answer.specs.inner.Writing.{Written, written, put_byte, put_bytes, Puts, unpadded, line_for, lines_for}

bytes_then : (w : Written) (a b : List ℕ) → put_bytes w (a ++ b) ≡ put_bytes (put_bytes w a) b
unfolding put_bytes
bytes_then w [] b = refl
bytes_then w (x ∷ a) b = bytes_then (put_byte w x) a b

module _ (l : List ℕ) (i : ℕ) where
  pub puts_one : (b : ℕ) → i < length l → Puts (b ∷ []) l i (set l i b) (i + 1)
  unfolding put_bytes put_byte
  puts_one b h = record { is = rw (lt-ltb i (length l) h) }

  pub puts_past : (b : ℕ) → length l ≤ i → Puts (b ∷ []) l i l i
  unfolding put_bytes put_byte
  puts_past b h = record { is = rw (le-ltb i (length l) h) }

  pub puts_as : {a b l' : List ℕ} {i' : ℕ} → a ≡ b → Puts a l i l' i' → Puts b l i l' i'
  puts_as e f = record { is = f.is ∙ ap (put_bytes (written l i)) e }

  pub puts_then : {a b l' l'' : List ℕ} {i' i'' : ℕ} → Puts a l i l' i' → Puts b l' i' l'' i'' → Puts (a ++ b) l i l'' i''
  puts_then {a} {b} f g = record { is = g.is ∙ ap (λ (w : Written). put_bytes w b) f.is ∙ sym (bytes_then (written l i) a b) }

-- what is left to put, behind a buffer and a place, comes to the same as all of it from the start
pub record Left (bs l : List ℕ) (i : ℕ) (rest l' : List ℕ) (i' : ℕ) : Type 0 where
  pub same : put_bytes (written l' i') rest ≡ put_bytes (written l i) bs

pub left_start : (bs l : List ℕ) (i : ℕ) → Left bs l i bs l i
left_start bs l i = record { same = refl }

module _ {bs l : List ℕ} {i : ℕ} {l' : List ℕ} {i' : ℕ} where
  -- the first of what is left is put
  pub left_more : {b more l'' : List ℕ} {i'' : ℕ} (rest : List ℕ) → rest ≡ b ++ more → Left bs l i rest l' i' → Puts b l' i' l'' i'' → Left bs l i more l'' i''
  left_more {b} {more} rest e f g =
      record { same = ap (λ (w : Written). put_bytes w more) g.is ∙ sym (bytes_then (written l' i') b more) ∙ ap (put_bytes (written l' i')) (sym e) ∙ f.same }

  pub left_none : (rest : List ℕ) → rest ≡ [] → Left bs l i rest l' i' → Puts bs l i l' i'
  unfolding put_bytes
  left_none rest e f = record { is = ap (put_bytes (written l' i')) (sym e) ∙ f.same }

-- all of them have a place
placed : (bs l : List ℕ) (i : ℕ) → i + length bs ≤ length l → put_bytes (written l i) bs ≡ written (sets l i bs) (i + length bs)
unfolding put_bytes put_byte
placed [] l i h = let e : i + 0 ≡ i = omega arith in rw e
placed (b ∷ bs) l i h =
    let e : i + 1 + length bs ≡ i + suc (length bs) = omega arith in
    let s : i + 1 ≡ suc i = omega arith in
    rw (lt-ltb i (length l) (omega arith)) (placed bs (set l i b) (i + 1) (simp length-set (omega arith)) ∙ rw (e, s))

-- from the start of the buffer: they stand at its front, and the rest is as it came
pub puts_front : {bs l l' : List ℕ} {r : ℕ} → Puts bs l 0 l' r → length bs ≤ length l → (r ≡ length bs) × (l' ≡ bs ++ drop (length bs) l)
puts_front {bs} {l} {l'} {r} f h =
    let e : written l' r ≡ written (sets l 0 bs) (0 + length bs) = f.is ∙ placed bs l 0 (omega arith) in
    let z : 0 + length bs ≡ length bs = omega arith in
    (ap (λ (w : Written). w.place) e ∙ z, ap (λ (w : Written). w.buffer) e ∙ rw z at (sets-eq bs l 0 (omega arith)))

-- ---- the bytes of a slice from a place on
module _ (w : List ℕ) (i : ℕ) where
  pub past_end : length w ≤ i → drop i w ≡ []
  past_end h = drop_of_length-le w h

  pub from_here : i < length w → drop i w ≡ get_or w i 0 ∷ drop (i + 1) w
  from_here h = rw (add-one, drop-cons w i 0)

  pub unpadded_end : i < length w → get_or w i 0 ≡ 32 → unpadded (drop i w) ≡ []
  unfolding unpadded
  unpadded_end h e = rw (from_here h, eq-eqb (get_or w i 0) 32 e)

  pub unpadded_more : i < length w → (get_or w i 0 ≡ 32 → ⊥) → unpadded (drop i w) ≡ get_or w i 0 ∷ unpadded (drop (i + 1) w)
  unfolding unpadded
  unpadded_more h e = rw (from_here h, ne_eqb (get_or w i 0) 32 e)

  pub unpadded_none : length w ≤ i → unpadded (drop i w) ≡ []
  unfolding unpadded
  unpadded_none h = rw (past_end h)

-- ---- a line for each value
module _ (names : List ℕ) (point : List ℤ) (q : ℕ) where
  pub lines_more : q < length point → lines_for (drop (8 * q) names) (drop q point) ≡ line_for (take (8 * q + 8 - 8 * q) (drop (8 * q) names)) (get_or point q (pos 0)) ++ lines_for (drop (8 * (q + 1)) names) (drop (q + 1) point)
  unfolding lines_for
  lines_more h =
      let e : 8 * q + 8 - 8 * q ≡ 8 = omega arith in
      let f : 8 * (q + 1) ≡ 8 * q + 8 = omega arith in
      rw (f, e, add-one, drop-cons point q (pos 0), drop-drop 8 (8 * q) names)

  pub lines_none : length point ≤ q → lines_for (drop (8 * q) names) (drop q point) ≡ []
  unfolding lines_for
  lines_none h = rw (drop_of_length-le point h)
