-- For the code: what a token can hold.
use Rattle.std.specs.Prelude.{◌≡◌, true, List, ℕ, ◌≤◌, ◌<◌, length}
use Rattle.sheet.specs.Tokens.{key_of, all_lower}
use Rattle.sheet.specs.declared.Token.{Token}
use Rattle.sheet.specs.declared.Token.TheVariants.{Number, Negative, Name, Fixed, Bad}

-- n is the number of a name: 1 to 8 lower-case letters
pub record Letters (n : ℕ) : Type 0 where
  pub word : List ℕ
  pub some : 0 < length word
  pub short : length word ≤ 8
  pub lower : all_lower word ≡ true
  pub key : n ≡ key_of 0 word

-- a value of at most M, which below 0 is not 0; the letters of a name
abbrev pub Proper : Token → Type 0
Proper (Number v) = v ≤ 1_000_000_000_000
Proper (Negative v) = (0 < v) × (v ≤ 1_000_000_000_000)
Proper (Name n) = Letters n
Proper (Fixed m) = Unit {0}
Proper Bad = Unit {0}
