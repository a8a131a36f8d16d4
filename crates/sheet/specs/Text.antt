-- Quoted texts: their bytes, and a short one as a number, its bytes to the base 256; that of a single byte is the byte.
use Rattle.std.specs.Prelude.{List, ℕ, ◌+◌, ◌*◌, ◌<◌}
use mathlib.Core.List as list
use Prim.Native.Char.{code}
use Prim.Native.String.{String, [], ◌∷◌}

abbrev pub bytes : String → List ℕ
bytes [] = list.[]
bytes (c ∷ s) = list.◌∷◌ (code c) (bytes s)

abbrev pub word_from : ℕ → String → ℕ
word_from k [] = k
word_from k (c ∷ s) = word_from (k * 256 + code c) s

abbrev pub word : String → ℕ
word s = word_from 0 s

-- a byte other than 0
abbrev pub Byte : ℕ → Type 0
Byte b = (0 < b) × (b < 256)
