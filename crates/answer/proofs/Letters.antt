-- No letter of a name is a space, so its letters end where the padding begins.
use mathlib.Core.Path.{◌≡◌, refl, ap}
use mathlib.Core.Bool.{true}
use mathlib.Core.List.{List, [], ◌∷◌, ◌++◌}
use Prim.Native.Nat.{ℕ, zero, suc, ◌-◌}
use native.Mathlib.Omega.{arith}
use lib.IntN.{ℤ}
use lib.ListN.{length, take, replicate}
use lib.Seq.{take_at, drop_at}
use borrow.Author.Tests.{ne_eqb}
use Rattle.whole.specs.Lists.{AllOf}
use Rattle.sheet.specs.Tokens.{all_lower}
use Rattle.meaning.specs.Lists.{letters_of, padded, name_bytes}
use Rattle.meaning.proofs.FlatLists.{padded_length}
use Rattle.meaning.proofs.NameLetters.{lower_first, letters_are}
use Rattle.answer.specs.Output.{value_lines}
use Rattle.answer.specs.inner.Writing.{unpadded, lines_for}
use Rattle.answer.proofs.Names.{Lettered}

-- ---- where the letters end
all_padding : (m : ℕ) → unpadded (replicate m 32) ≡ []
unfolding unpadded
all_padding zero = refl
all_padding (suc m) = refl

padding_off : (w : List ℕ) (m : ℕ) → all_lower w ≡ true → unpadded (w ++ replicate m 32) ≡ w
unfolding unpadded
padding_off [] m e = all_padding m
padding_off (b ∷ bs) m e =
    let h = lower_first b bs e in
    rw (ne_eqb b 32 (λ f. omega arith)) (ap (λ (l : List ℕ). b ∷ l) (padding_off bs m h.2))

name_bare : (n : ℕ) → Lettered n → unpadded (padded n) ≡ letters_of 8 n
name_bare n h = rw (letters_are h.word n h.letters) (padding_off h.word (8 - length h.word) h.letters.lower)

-- ---- the lines of names that are letters
pub lines_are : (ns : List ℕ) (zs : List ℤ) → AllOf Lettered ns → lines_for (name_bytes ns) (take (length ns) zs) ≡ value_lines ns zs
unfolding lines_for name_bytes value_lines
lines_are [] zs h = refl
lines_are (n ∷ ns) [] h = refl
lines_are (n ∷ ns) (z ∷ zs) h =
    rw (take_at (padded n) (name_bytes ns) 8 (padded_length n), drop_at (padded n) (name_bytes ns) 8 (padded_length n), name_bare n h.0, lines_are ns zs h.1)
