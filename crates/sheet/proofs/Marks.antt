-- Each number in `mark_of` is the bytes of its mark, and each mark's text is read as the mark, by computing both.
use mathlib.Core.Path.{◌≡◌, refl}
use mathlib.Core.Bool.{cond}
use mathlib.Core.List.{List, [], ◌∷◌}
use Prim.Native.Nat.{ℕ}
use lib.Dec.{eqb}
use Rattle.sheet.specs.Text.{bytes}
use Rattle.sheet.specs.Tokens.{digit_first, key_of, all_lower, text_of, mark_of, minus_first, token_of}
use Rattle.sheet.specs.declared.Mark.{Mark}
use Rattle.sheet.specs.declared.Mark.TheVariants.{Open, Close, Plus, Minus, Times, Square, AtMost, Below, AtLeast, Above, Equal, Differ, Range, Must, If, Then, And, Or}
use Rattle.sheet.specs.declared.Token.{Token}
use Rattle.sheet.specs.declared.Token.TheVariants.{Fixed, Bad}

-- the number that a mark's bytes make
abbrev pub mark_key : Mark → ℕ
mark_key m = key_of 0 (bytes (text_of m))

-- the marks, in the order of document 01
abbrev pub marks : List Mark
marks =
    Open ∷ Close ∷ Plus ∷ Minus ∷ Times ∷ Square ∷ AtMost ∷ Below ∷ AtLeast ∷ Above ∷ Equal ∷ Differ
    ∷ Range ∷ Must ∷ If ∷ Then ∷ And ∷ Or ∷ []

-- the mark whose bytes make k
unfoldable pub among : ℕ → List Mark → Token
among k [] = Bad
among k (m ∷ ms) = cond (eqb k (mark_key m)) (Fixed m) (among k ms)

pub mark_table : (k : ℕ) → mark_of k ≡ among k marks
unfolding key_of mark_of among
mark_table k = refl

-- each mark's text is read as the mark
pub mark_read : (m : Mark) → token_of (bytes (text_of m)) ≡ Fixed m
unfolding token_of digit_first minus_first key_of all_lower mark_of
mark_read Open = refl
mark_read Close = refl
mark_read Plus = refl
mark_read Minus = refl
mark_read Times = refl
mark_read Square = refl
mark_read AtMost = refl
mark_read Below = refl
mark_read AtLeast = refl
mark_read Above = refl
mark_read Equal = refl
mark_read Differ = refl
mark_read Range = refl
mark_read Must = refl
mark_read If = refl
mark_read Then = refl
mark_read And = refl
mark_read Or = refl
