-- The bytes of a piece as one number, to the base 256: read from the end, the last byte is the remainder and the bytes before it the quotient. So
-- pieces without the byte 0 that have the same number are the same; hence a mark is its text, and a name its letters.
use mathlib.Core.Path.{◌≡◌, refl, sym, ◌∙◌, ap, ap₂, subst}
use mathlib.Core.Bool.{Bool, true, false, ◌&&◌, true≢false}
use mathlib.Core.List.{List, [], ◌∷◌, reverse, reverse_aux}
use mathlib.Core.Logic.{◌↔◌}
use Prim.Native.Nat.{ℕ, ◌+◌, ◌*◌}
use native.Mathlib.Omega.{arith}
use lib.Dec.{leb, lit<}
use borrow.Author.Tests.{leb-true, le-leb, lt-leb, ne_eqb}
use Rattle.whole.specs.Lists.{AllOf}
use Rattle.sheet.specs.Text.{bytes, Byte}
use Rattle.sheet.specs.Tokens.{digit_first, key_of, all_lower, text_of, minus_first, token_of, IsName}
use Rattle.sheet.specs.declared.Mark.{Mark}
use Rattle.sheet.specs.declared.Mark.TheVariants.{Open, Close, Plus, Minus, Times, Square, AtMost, Below, AtLeast, Above, Equal, Differ, Range, Must, If, Then, And, Or}
use Rattle.sheet.specs.declared.Token.{Token}
use Rattle.sheet.specs.declared.Token.TheVariants.{Name, Fixed, Bad}
use Rattle.sheet.proofs.Marks.{mark_key, marks, among, mark_table, mark_read}
use Rattle.sheet.proofs.Words.{token_word, word_letters}
use Rattle.sheet.proofs.Contents.{Named, Told, told}

-- ---- bytes
both : (p q : Bool) → (p && q) ≡ true → (p ≡ true) × (q ≡ true)
both true q h = (refl, h)
both false q h = absurd (true≢false (sym h))

-- letters are bytes other than 0
letters : (w : List ℕ) → all_lower w ≡ true → AllOf Byte w
unfolding all_lower
letters [] e = tt
letters (b ∷ bs) e =
    let f = both (leb 97 b) (leb b 122 && all_lower bs) e in
    let g = both (leb b 122) (all_lower bs) f.1 in
    ((omega (arith, leb-true 97 b f.0), omega (arith, leb-true b 122 g.0)), letters bs g.1)

-- and so are the texts of marks
mark_bytes : (m : Mark) → AllOf Byte (bytes (text_of m))
mark_bytes Open = ((lit< tt, lit< tt), tt)
mark_bytes Close = ((lit< tt, lit< tt), tt)
mark_bytes Plus = ((lit< tt, lit< tt), tt)
mark_bytes Minus = ((lit< tt, lit< tt), tt)
mark_bytes Times = ((lit< tt, lit< tt), tt)
mark_bytes Square = ((lit< tt, lit< tt), ((lit< tt, lit< tt), tt))
mark_bytes AtMost = ((lit< tt, lit< tt), ((lit< tt, lit< tt), tt))
mark_bytes Below = ((lit< tt, lit< tt), tt)
mark_bytes AtLeast = ((lit< tt, lit< tt), ((lit< tt, lit< tt), tt))
mark_bytes Above = ((lit< tt, lit< tt), tt)
mark_bytes Equal = ((lit< tt, lit< tt), tt)
mark_bytes Differ = ((lit< tt, lit< tt), ((lit< tt, lit< tt), tt))
mark_bytes Range = ((lit< tt, lit< tt), ((lit< tt, lit< tt), ((lit< tt, lit< tt), ((lit< tt, lit< tt), ((lit< tt, lit< tt), tt)))))
mark_bytes Must = ((lit< tt, lit< tt), ((lit< tt, lit< tt), ((lit< tt, lit< tt), ((lit< tt, lit< tt), tt))))
mark_bytes If = ((lit< tt, lit< tt), ((lit< tt, lit< tt), tt))
mark_bytes Then = ((lit< tt, lit< tt), ((lit< tt, lit< tt), ((lit< tt, lit< tt), ((lit< tt, lit< tt), tt))))
mark_bytes And = ((lit< tt, lit< tt), ((lit< tt, lit< tt), ((lit< tt, lit< tt), tt)))
mark_bytes Or = ((lit< tt, lit< tt), ((lit< tt, lit< tt), tt))

-- ---- the number of a piece determines its bytes
-- the number of the bytes, the last one first
back : List ℕ → ℕ
back [] = 0
back (b ∷ r) = back r * 256 + b

key_back : (w r : List ℕ) → key_of (back r) w ≡ back (reverse_aux w r)
unfolding key_of back
key_back [] r = refl
key_back (b ∷ bs) r = key_back bs (b ∷ r)

back_once : (r s : List ℕ) → AllOf Byte r → AllOf Byte s → back r ≡ back s → r ≡ s
unfolding back
back_once [] [] a b e = refl
back_once [] (y ∷ s) a b e = absurd (omega (arith, b.0.0))
back_once (x ∷ r) [] a b e = absurd (omega (arith, a.0.0))
back_once (x ∷ r) (y ∷ s) a b e =
    let last : x ≡ y = omega (arith, a.0.1, b.0.1) in
    let rest : back r ≡ back s = omega (arith, a.0.1, b.0.1) in
    ap₂ (λ (z : ℕ) (zs : List ℕ). z ∷ zs) last (back_once r s a.1 b.1 rest)

turned : (w r : List ℕ) → AllOf Byte w → AllOf Byte r → AllOf Byte (reverse_aux w r)
turned [] r a b = b
turned (x ∷ w) r a b = turned w (x ∷ r) a.1 (a.0, b)

-- turned round twice
twice : (w r : List ℕ) → reverse (reverse_aux w r) ≡ reverse_aux r w
twice [] r = refl
twice (x ∷ w) r = twice w (x ∷ r)

key_once : (w w' : List ℕ) → AllOf Byte w → AllOf Byte w' → key_of 0 w ≡ key_of 0 w' → w ≡ w'
unfolding back
key_once w w' a b e =
    let r = back_once (reverse w) (reverse w') (turned w [] a tt) (turned w' [] b tt) (sym (key_back w []) ∙ e ∙ key_back w' []) in
    sym (twice w []) ∙ ap reverse r ∙ twice w' []

-- ---- marks and names
is_told : (w : List ℕ) (t : Token) → token_of w ≡ t → Told w t
is_told w t e = subst (Told w) e (told w)

-- a piece is a mark exactly if it is the mark's text
pub mark_exactly : (w : List ℕ) → AllOf Byte w → (m : Mark) → (token_of w ≡ Fixed m) ↔ (w ≡ bytes (text_of m))
mark_exactly w a m = ((λ e. key_once w (bytes (text_of m)) a (mark_bytes m) (is_told w (Fixed m) e)), (λ e. ap token_of e ∙ mark_read m))

-- two pieces that are names with one number are the same
pub name_once : (w w' : List ℕ) (n : ℕ) → token_of w ≡ Name n → token_of w' ≡ Name n → w ≡ w'
name_once w w' n e f =
    let h : Named w n = is_told w (Name n) e in
    let k : Named w' n = is_told w' (Name n) f in
    key_once w w' (letters w h.lower) (letters w' k.lower) (sym h.key ∙ k.key)

-- no number, no negative number and no mark begins with a letter or has the number of these bytes
letter_first : (w : List ℕ) → all_lower w ≡ true → (digit_first w ≡ false) × (minus_first w ≡ false)
unfolding all_lower digit_first minus_first
letter_first [] e = (refl, refl)
letter_first (b ∷ bs) e =
    let low = leb-true 97 b (both (leb 97 b) (leb b 122 && all_lower bs) e).0 in
    (rw (le-leb 48 b (omega arith), lt-leb b 57 (omega arith)), rw (ne_eqb b 45 (λ z. omega arith)))

no_mark : (k : ℕ) (ms : List Mark) → ((m : Mark) → k ≡ mark_key m → ⊥) → among k ms ≡ Bad
unfolding among
no_mark k [] h = refl
no_mark k (m ∷ ms) h = rw (ne_eqb k (mark_key m) (h m)) (no_mark k ms h)

name_read : (w : List ℕ) → IsName w → token_of w ≡ Name (key_of 0 w)
name_read w h =
    let f = letter_first w h.lower in
    let bad = mark_table (key_of 0 w) ∙ no_mark (key_of 0 w) marks (λ m e. h.unmarked m (key_once w (bytes (text_of m)) (letters w h.lower) (mark_bytes m) e)) in
    token_word w f.0 f.1 ∙ word_letters w h.short bad (λ z. omega (arith, h.some)) h.lower

name_is : (w : List ℕ) (n : ℕ) → token_of w ≡ Name n → IsName w
name_is w n e =
    let h : Named w n = is_told w (Name n) e in
    record {
      some = h.some;
      short = h.short;
      lower = h.lower;
      unmarked = λ m f. let g : Fixed m ≡ Name n = sym (mark_read m) ∙ sym (ap token_of f) ∙ e in let z : ◌≡◌ {A = ℕ} 0 1 = cc in omega arith;
    }

-- a piece is a name exactly if it is 1 to 8 lower-case letters and no mark's text
pub name_exactly : (w : List ℕ) → ((n : ℕ) × (token_of w ≡ Name n)) ↔ IsName w
name_exactly w = ((λ p. name_is w p.0 p.1), (λ h. (key_of 0 w, name_read w h)))
