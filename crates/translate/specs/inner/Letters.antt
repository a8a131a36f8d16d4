-- For the code: the letters of a name at the front of a slot.
use Rattle.std.specs.Prelude.{◌≡◌, List, ℕ, length}
use Rattle.meaning.specs.Lists.{letters_of}
use Rattle.translate.specs.Translate.{filled}

pub record Letters (k most : ℕ) (old new : List ℕ) (n : ℕ) : Type 0 where
  pub count : n ≡ length (letters_of most k)
  pub slot : new ≡ filled (letters_of most k) old
