-- A name's number has its letters back: dividing takes off the one that was put on last, and no letter is 0; and a token is a name only if its piece is letters.
use Rattle.std.specs.Prelude.{Some, None}
use mathlib.Core.Path.{◌≡◌, refl, sym, ap, subst, ◌∙◌}
use mathlib.Core.Bool.{Bool, true, false, cond, ◌&&◌}
use mathlib.Core.List.{List, [], ◌∷◌, ◌++◌, append_assoc, append-nil}
use Prim.Native.Nat.{ℕ, zero, suc, ◌+◌, ◌-◌, ◌*◌, ◌/◌, ◌%◌, ◌≤◌, ◌<◌}
use native.Mathlib.Omega.{arith}
use lib.Dec.{leb, ltb}
use lib.ListN.{length, replicate}
use borrow.Author.Tests.{leb-true, ltb-true, ne_eqb}
use Rattle.sheet.specs.Tokens.{Value, digit_first, number_of, as_number, as_negative, key_of, all_lower, mark_of, or_else, as_name, word_of, minus_first, behind, token_of}
use Rattle.sheet.specs.declared.Mark.{Mark}
use Rattle.sheet.specs.declared.Token.{Token}
use Rattle.sheet.specs.declared.Token.TheVariants.{Number, Negative, Name, Fixed, Bad}
use Rattle.meaning.specs.Lists.{letters_of, padded}
use Rattle.meaning.proofs.Tests.{both_on}

-- ---- the letters of a number
letter_last : (f k b : ℕ) → 0 < b → b < 256 → letters_of (suc f) (k * 256 + b) ≡ letters_of f k ++ (b ∷ [])
unfolding letters_of
letter_last f k b h l =
    let q : (k * 256 + b) / 256 ≡ k = omega arith in
    let r : (k * 256 + b) % 256 ≡ b = omega arith in
    rw (ne_eqb (k * 256 + b) 0 (λ e. omega arith), q, r)

pub lower_first : (b : ℕ) (bs : List ℕ) → all_lower (b ∷ bs) ≡ true → (97 ≤ b) × (b ≤ 122) × (all_lower bs ≡ true)
unfolding all_lower
lower_first b bs e =
    let h = both_on (leb 97 b) (leb b 122 && all_lower bs) e in
    let k = both_on (leb b 122) (all_lower bs) h.1 in
    (leb-true 97 b h.0, leb-true b 122 k.0, k.1)

letters_behind : (w : List ℕ) (f k : ℕ) → all_lower w ≡ true → letters_of (f + length w) (key_of k w) ≡ letters_of f k ++ w
unfolding key_of
letters_behind [] f k e = let z : f + 0 ≡ f = omega arith in rw (z, append-nil)
letters_behind (b ∷ bs) f k e =
    let h = lower_first b bs e in
    let z : f + suc (length bs) ≡ suc f + length bs = omega arith in
    rw z (letters_behind bs (suc f) (k * 256 + b) h.2) ∙ ap (λ (l : List ℕ). l ++ bs) (letter_last f k b (omega arith) (omega arith)) ∙ append_assoc (letters_of f k) (b ∷ []) bs

no_letters : (f : ℕ) → letters_of f 0 ≡ []
unfolding letters_of
no_letters zero = refl
no_letters (suc f) = refl

-- a piece of 1 to 8 lower-case letters, and its number
pub record Lettered (w : List ℕ) (n : ℕ) : Type 0 where
  pub is : n ≡ key_of 0 w
  pub some : 0 < length w
  pub short : length w ≤ 8
  pub lower : all_lower w ≡ true

pub letters_are : (w : List ℕ) (n : ℕ) → Lettered w n → letters_of 8 n ≡ w
letters_are w n h =
    let z : 8 - length w + length w ≡ 8 = omega (arith, h.short) in
    ap (letters_of 8) h.is ∙ ap (λ (f : ℕ). letters_of f (key_of 0 w)) (sym z) ∙ letters_behind w (8 - length w) 0 h.lower ∙ ap (λ (l : List ℕ). l ++ w) (no_letters (8 - length w))

-- ---- tokens
abbrev Spelt : List ℕ → Token → Type 0
Spelt w (Number v) = Unit {0}
Spelt w (Negative v) = Unit {0}
Spelt w (Name n) = Lettered w n
Spelt w (Fixed m) = Unit {0}
Spelt w Bad = Unit {0}

module _ (w : List ℕ) where
  either_spelt : (b : Bool) (t u : Token) → Spelt w t → Spelt w u → Spelt w (cond b t u)
  either_spelt true t u h k = h
  either_spelt false t u h k = k

  or_mark : (b : Bool) (m : Mark) (t : Token) → Spelt w t → Spelt w (cond b (Fixed m) t)
  or_mark b m t h = either_spelt b (Fixed m) t tt h

  else_spelt : (t u : Token) → Spelt w t → Spelt w u → Spelt w (or_else t u)
  else_spelt (Number n) u h k = h
  else_spelt (Negative n) u h k = h
  else_spelt (Name n) u h k = h
  else_spelt (Fixed m) u h k = h
  else_spelt Bad u h k = k

  bad_spelt : Spelt w Bad
  bad_spelt = tt

  marks_spelt : (k : ℕ) → Spelt w (mark_of k)
  unfolding mark_of
  marks_spelt k = search (or_mark, bad_spelt) depth 20

  number_spelt : (v : Value) → Spelt w (as_number v)
  number_spelt (Some v) = tt
  number_spelt None = tt

  negative_spelt : (v : Value) → Spelt w (as_negative v)
  negative_spelt (Some zero) = tt
  negative_spelt (Some (suc v)) = tt
  negative_spelt None = tt

  word_spelt : Spelt w (word_of w)
  word_spelt = few (leb (length w) 8) refl
    where
      letters : (b : Bool) → (ltb 0 (length w) && all_lower w) ≡ b → length w ≤ 8 → Spelt w (cond b (Name (key_of 0 w)) Bad)
      letters true e h =
          let t = both_on (ltb 0 (length w)) (all_lower w) e in record { is = refl; some = ltb-true 0 (length w) t.0; short = h; lower = t.1 }
      letters false e h = tt

      few : (b : Bool) → leb (length w) 8 ≡ b → Spelt w (cond b (or_else (mark_of (key_of 0 w)) (as_name w)) Bad)
      few true e = else_spelt (mark_of (key_of 0 w)) (as_name w) (marks_spelt (key_of 0 w)) (letters (ltb 0 (length w) && all_lower w) refl (leb-true (length w) 8 e))
      few false e = tt

  token_spelt : Spelt w (token_of w)
  unfolding token_of
  token_spelt =
      either_spelt (digit_first w) _ _ (number_spelt (number_of w)) (either_spelt (minus_first w) _ _ (negative_spelt (number_of (behind w))) word_spelt)

  -- a piece that is a name
  pub name_lettered : (n : ℕ) → token_of w ≡ Name n → Lettered w n
  name_lettered n e = subst (Spelt w) e token_spelt

  pub name_padded : (n : ℕ) → token_of w ≡ Name n → padded n ≡ w ++ replicate (8 - length w) 32
  name_padded n e = rw (letters_are w n (name_lettered n e))
