-- What the contracts of the readers of data files cite.
use Rattle.std.specs.Prelude.{◌≡◌, ℕ, zero, suc, ℤ, pos, negsuc, ◌+◌, ◌-◌, ◌*◌, ◌%◌, ◌^◌, ◌≤◌, Bool, true, eqb, List, [], ◌∷◌, cond, length, take}
use Rattle.std.specs.Char.{is_ascii_digit}

-- the front of so many bytes lies in the buffer and has so many bytes; the second part follows from the first
abbrev pub IsPrefixLen : ℕ → List ℕ → Type 0
IsPrefixLen n buffer = (n ≤ length buffer) × (n ≡ length (take n buffer))

-- the count that the digits at the front of some bytes make, behind those of an earlier count: wrapped to 64 bits, and 48 is '0'
unfoldable pub count_on : ℕ → List ℕ → ℕ
count_on n [] = n
count_on n (b ∷ bs) = cond (is_ascii_digit b) (count_on ((n * 10 % 2 ^ 64 + (b - 48)) % 2 ^ 64) bs) n

-- the number that a count says, and the one as far below 0; a count past 63 bits starts at 0 again
unfoldable pub above : ℕ → ℤ
above n = pos (n % 2 ^ 63)

unfoldable pub below : ℕ → ℤ
below zero = pos 0
below (suc n) = negsuc (n % 2 ^ 63)

-- the number that digits at the front of some bytes make, with `-`, which is 45, before them for one below 0
unfoldable pub number_of : List ℕ → ℤ
number_of [] = pos 0
number_of (b ∷ bs) = cond (eqb b 45) (below (count_on 0 bs)) (above (count_on 0 (b ∷ bs)))

-- a line is at its end: LF is next, or nothing
abbrev pub is_line_end : List ℕ → Bool
is_line_end [] = true
is_line_end (b ∷ bs) = eqb b 10
