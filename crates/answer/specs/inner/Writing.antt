-- For the code: bytes written into a buffer, one behind the other. Everything is total: a byte that has no place is not written.
-- proofs/Writing.antt says what is written where all of them have one.
use Rattle.std.specs.Prelude.{◌≡◌, cond, List, [], ◌∷◌, ◌++◌, ℕ, ◌+◌, eqb, ltb, ℤ, length, set, take, drop}
use Rattle.sheet.specs.Text.{word}
use Rattle.answer.specs.Output.{signed_decimal}

-- a buffer, and the place of the next byte
pub record Written : Type 0 where
  pub buffer : List ℕ
  pub place : ℕ

abbrev pub written : List ℕ → ℕ → Written
written l i = record { buffer = l; place = i }

-- a byte at its place, if there is one
unfoldable pub put_byte : Written → ℕ → Written
put_byte w b = cond (ltb w.place (length w.buffer)) (written (set w.buffer w.place b) (w.place + 1)) w

unfoldable pub put_bytes : Written → List ℕ → Written
put_bytes w [] = w
put_bytes w (b ∷ bs) = put_bytes (put_byte w b) bs

-- what a call that writes these bytes makes of a buffer and a place: the buffer it leaves, and the next place
pub record Puts (bs l : List ℕ) (i : ℕ) (l' : List ℕ) (i' : ℕ) : Type 0 where
  pub is : written l' i' ≡ put_bytes (written l i) bs

-- the bytes before the first space
unfoldable pub unpadded : List ℕ → List ℕ
unpadded [] = []
unpadded (b ∷ bs) = cond (eqb b (word " ")) [] (b ∷ unpadded bs)

-- a name, without padding, a space, its value, LF
abbrev pub line_for : List ℕ → ℤ → List ℕ
line_for name z = unpadded name ++ (word " " ∷ (signed_decimal z ++ (word "\n" ∷ [])))

-- such a line for each value; names take 8 bytes each
unfoldable pub lines_for : List ℕ → List ℤ → List ℕ
lines_for names [] = []
lines_for names (z ∷ zs) = line_for (take 8 names) z ++ lines_for (drop 8 names) zs
