-- Marks and names: what the byte at a place adds to a key, and that a key of at most eight bytes fits 64 bits.
use Rattle.std.specs.Char.{is_ascii_lowercase}
use Rattle.std.specs.List.{list_all}
use mathlib.Core.Path.{◌≡◌, refl}
use mathlib.Core.Bool.{Bool, true, false, ◌&&◌}
use mathlib.Core.List.{List, [], ◌∷◌}
use Prim.Native.Nat.{ℕ, ◌+◌, ◌*◌, ◌^◌, ◌≤◌, ◌<◌}
use native.Mathlib.Nat.{pow-le-pow_right, pow-suc, pos_of_ne-zero}
use native.Mathlib.Numerals.{add-one}
use native.Mathlib.Omega.{arith}
use lib.Dec.{leb, lit<}
use lib.ListN.{length, get_or, drop}
use borrow.Author.Tests.{le-leb, lt-ltb}
use Rattle.sheet.specs.Tokens.{digit_first, number_of, as_number, as_negative, key_of, all_lower, mark_of, or_else, word_of, minus_first, behind, token_of}
use Rattle.sheet.specs.declared.Token.{Token}
use Rattle.sheet.specs.declared.Token.TheVariants.{Number, Negative, Name, Fixed, Bad}
use Rattle.sheet.proofs.Places.{drop_at, drop_end}

module _ (l : List ℕ) (i : ℕ) where
  pub key_more : (k : ℕ) → i < length l → key_of k (drop i l) ≡ key_of (k * 256 + get_or l i 0) (drop (i + 1) l)
  unfolding key_of
  key_more k h = rw (drop_at l i h)

  pub key_none : (k : ℕ) → length l ≤ i → key_of k (drop i l) ≡ k
  unfolding key_of
  key_none k h = rw (drop_end l i h)

-- all bytes are letters, one by one
pub lower_all : (w : List ℕ) → all_lower w ≡ list_all is_ascii_lowercase w
unfolding all_lower
lower_all [] = refl
lower_all (b ∷ bs) = rw (lower_all bs) (by (leb 97 b) (leb b 122) (list_all is_ascii_lowercase bs))
  where
    by : (p q r : Bool) → (p && (q && r)) ≡ ((p && q) && r)
    by true q r = refl
    by false q r = refl

-- one more byte, and room for eight
pub room : (k i b : ℕ) → k < 256 ^ i → b < 256 → k * 256 + b < 256 ^ (i + 1)
room k i b h g = rw (add-one, pow-suc) (omega arith)

pub room_top : (i : ℕ) → i < 8 → 256 ^ (i + 1) ≤ 2 ^ 64
room_top i h = pow-le-pow_right {n = 256} (lit< tt) {i = i + 1} {j = 8} (omega arith)

-- ---- a mark, or else a name
pub not_bad : (t u : Token) → (t ≡ Bad → ⊥) → or_else t u ≡ t
not_bad (Number n) u h = refl
not_bad (Negative n) u h = refl
not_bad (Name n) u h = refl
not_bad (Fixed m) u h = refl
not_bad Bad u h = absurd (h refl)

-- no mark, and letters alone
pub word_letters : (w : List ℕ) → length w ≤ 8 → mark_of (key_of 0 w) ≡ Bad → (length w ≡ 0 → ⊥) → all_lower w ≡ true → word_of w ≡ Name (key_of 0 w)
word_letters w h e n a = rw (le-leb (length w) 8 h, e, lt-ltb 0 (length w) (pos_of_ne-zero n), a)

-- ---- the token that a piece is
module _ (w : List ℕ) where
  pub token_number : digit_first w ≡ true → token_of w ≡ as_number (number_of w)
  unfolding token_of
  token_number e = rw e

  pub token_negative : digit_first w ≡ false → minus_first w ≡ true → token_of w ≡ as_negative (number_of (behind w))
  unfolding token_of
  token_negative e m = rw (e, m)

  pub token_word : digit_first w ≡ false → minus_first w ≡ false → token_of w ≡ word_of w
  unfolding token_of
  token_word e m = rw (e, m)

pub behind_drop : (w : List ℕ) → behind w ≡ drop 1 w
behind_drop [] = refl
behind_drop (b ∷ bs) = refl

pub minus_some : (w : List ℕ) → minus_first w ≡ true → 1 ≤ length w
unfolding minus_first
minus_some [] e = let z : ◌≡◌ {A = ℕ} 0 1 = cc in omega arith
minus_some (b ∷ bs) e = omega arith
