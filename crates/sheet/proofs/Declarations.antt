-- What stands behind `range`, token by token: a name, and nothing or two signed numbers and nothing.
use mathlib.Core.Path.{◌≡◌, refl, sym, ◌∙◌, ap}
use mathlib.Core.Bool.{Bool, true, false, ◌&&◌}
use mathlib.Core.List.{List, [], ◌∷◌}
use mathlib.Core.Option.{none, some}
use Rattle.std.specs.Prelude.{Some, None}
use Prim.Native.Nat.{ℕ, ◌^◌, ◌<◌}
use native.Mathlib.Omega.{arith}
use lib.Dec.{eqb}
use lib.IntN.{ℤ}
use lib.ListN.{length}
use borrow.Author.Tests.{ne_eqb}
use lib.Signed.{mag}
use Rattle.sheet.proofs.Heads.{mark_above}
use Rattle.sheet.specs.Grammar.{ranged, default}
use Rattle.sheet.specs.Reading.{token_no, head_of, rest_of, head_no, signed_of, is_signed, read_range}
use Rattle.sheet.specs.inner.Contents.{Proper}
use Rattle.sheet.specs.inner.Forms.{declaration_of}
use Rattle.sheet.specs.declared.Declaration.TheVariants.{Plain, Ranged}
use Rattle.sheet.specs.declared.Token.{Token}
use Rattle.sheet.specs.declared.Token.TheVariants.{Number, Negative, Name, Fixed, Bad}

-- a token that is no name
pub not_name : (t : Token) → ((n : ℕ) → t ≡ Name n → ⊥) → eqb (token_no t) 2 ≡ false
not_name (Number n) h = refl
not_name (Negative n) h = refl
not_name (Name n) h = absurd (h n refl)
not_name (Fixed m) h = ne_eqb (token_no (Fixed m)) 2 (λ e. let a = mark_above m in omega arith)
not_name Bad h = refl

both_false : (a b : Bool) → b ≡ false → (a && b) ≡ false
both_false true b e = e
both_false false b e = refl

pub no_name : (ts : List Token) → eqb (head_no ts) 2 ≡ false → read_range ts ≡ none
unfolding read_range
no_name [] e = refl
no_name (n ∷ []) e = rw e
no_name (n ∷ (l ∷ [])) e = refl
no_name (n ∷ (l ∷ (h ∷ []))) e = rw e
no_name (n ∷ (l ∷ (h ∷ (t ∷ ts)))) e = refl

pub name_alone : (ts : List Token) (n : ℕ) → head_of ts ≡ Name n → rest_of ts ≡ [] → read_range ts ≡ some (default n)
unfolding read_range
name_alone [] n e f = let z : ◌≡◌ {A = ℕ} 0 1 = cc in absurd (omega arith)
name_alone (t ∷ []) n e f = rw e
name_alone (t ∷ (u ∷ us)) n e f = let z : ◌≡◌ {A = ℕ} 0 1 = cc in absurd (omega arith)

pub no_low : (ts : List Token) → 0 < length (rest_of ts) → is_signed (head_of (rest_of ts)) ≡ false → read_range ts ≡ none
unfolding read_range
no_low [] h e = refl
no_low (n ∷ []) h e = absurd (omega arith)
no_low (n ∷ (l ∷ [])) h e = refl
no_low (n ∷ (l ∷ (h ∷ []))) z e = rw (e, both_false (eqb (token_no n) 2) false refl)
no_low (n ∷ (l ∷ (h ∷ (t ∷ ts)))) z e = refl

pub no_high : (ts : List Token) → 0 < length (rest_of ts) → is_signed (head_of (rest_of (rest_of ts))) ≡ false → read_range ts ≡ none
unfolding read_range
no_high [] h e = refl
no_high (n ∷ []) h e = absurd (omega arith)
no_high (n ∷ (l ∷ [])) h e = refl
no_high (n ∷ (l ∷ (h ∷ []))) z e = rw (e, both_false (is_signed l) false refl, both_false (eqb (token_no n) 2) false refl)
no_high (n ∷ (l ∷ (h ∷ (t ∷ ts)))) z e = refl

pub more_left : (ts : List Token) → 0 < length (rest_of (rest_of (rest_of ts))) → read_range ts ≡ none
unfolding read_range
more_left [] h = refl
more_left (n ∷ []) h = absurd (omega arith)
more_left (n ∷ (l ∷ [])) h = refl
more_left (n ∷ (l ∷ (h ∷ []))) z = absurd (omega arith)
more_left (n ∷ (l ∷ (h ∷ (t ∷ ts)))) z = refl

pub name_range : (ts : List Token) (n : ℕ) → head_of ts ≡ Name n → is_signed (head_of (rest_of ts)) ≡ true → is_signed (head_of (rest_of (rest_of ts))) ≡ true → rest_of (rest_of (rest_of ts)) ≡ [] → read_range ts ≡ some (ranged n (signed_of (head_of (rest_of ts))) (signed_of (head_of (rest_of (rest_of ts)))))
unfolding read_range
name_range [] n e f g h = let z : ◌≡◌ {A = ℕ} 0 1 = cc in absurd (omega arith)
name_range (t ∷ []) n e f g h = let z : ◌≡◌ {A = ℕ} 0 1 = cc in absurd (omega arith)
name_range (t ∷ (u ∷ [])) n e f g h = let z : ◌≡◌ {A = ℕ} 0 1 = cc in absurd (omega arith)
name_range (t ∷ (u ∷ (v ∷ []))) n e f g h = rw (e, f, g)
name_range (t ∷ (u ∷ (v ∷ (w ∷ ws)))) n e f g h = let z : ◌≡◌ {A = ℕ} 0 1 = cc in absurd (omega arith)

-- ---- the same by steps: us, vs and ws are what is left behind the first, the second and the third token
pub declares_none : (ts : List Token) (t : Token) → t ≡ head_of ts → eqb (token_no t) 2 ≡ false → None ≡ declaration_of (read_range ts)
declares_none ts t e h = sym (ap declaration_of (no_name ts (rw e at h)))

pub declares_plain : (ts us : List Token) (t : Token) (n : ℕ) → t ≡ head_of ts → t ≡ Name n → us ≡ rest_of ts → us ≡ [] → Some (Plain n) ≡ declaration_of (read_range ts)
declares_plain ts us t n e f q h = sym (ap declaration_of (name_alone ts n (sym e ∙ f) (sym q ∙ h)))

pub declares_low : (ts us : List Token) (low : Token) → us ≡ rest_of ts → low ≡ head_of us → 0 < length us → is_signed low ≡ false → None ≡ declaration_of (read_range ts)
declares_low ts us low q e h f = sym (ap declaration_of (no_low ts (rw q at h) (rw (e, q) at f)))

pub declares_high : (ts us vs : List Token) (high : Token) → us ≡ rest_of ts → vs ≡ rest_of us → high ≡ head_of vs → 0 < length us → is_signed high ≡ false → None ≡ declaration_of (read_range ts)
declares_high ts us vs high q r e h f = sym (ap declaration_of (no_high ts (rw q at h) (rw (e, r, q) at f)))

pub declares_more : (ts us vs ws : List Token) → us ≡ rest_of ts → vs ≡ rest_of us → ws ≡ rest_of vs → 0 < length ws → None ≡ declaration_of (read_range ts)
declares_more ts us vs ws q r s h = sym (ap declaration_of (more_left ts (rw (s, r, q) at h)))

pub declares_range : (ts us vs ws : List Token) (t low high : Token) (n : ℕ) (a b : ℤ) → t ≡ head_of ts → t ≡ Name n → us ≡ rest_of ts → low ≡ head_of us → vs ≡ rest_of us → high ≡ head_of vs → ws ≡ rest_of vs → ws ≡ [] → is_signed low ≡ true → is_signed high ≡ true → a ≡ signed_of low → b ≡ signed_of high → Some (Ranged n a b) ≡ declaration_of (read_range ts)
declares_range ts us vs ws t low high n a b e f q el r eh s z fl fh g k =
    let read = name_range ts n (sym e ∙ f) (rw (el, q) at fl) (rw (eh, r, q) at fh) (rw (s, r, q) at z) in
    sym (ap declaration_of read ∙ sym (rw (g, k, el, eh, r, q)))

-- ---- a number with its sign fits 64 bits
pub signed_fits : (t : Token) → Proper t → mag (signed_of t) < 2 ^ 63
signed_fits (Number n) h = omega arith
signed_fits (Negative n) h = omega arith
signed_fits (Name n) h = omega arith
signed_fits (Fixed m) h = omega arith
signed_fits Bad h = omega arith
