-- What a token tells of its piece: a value is tested against M last of all, `-` wants a value that is not 0, a mark has the number of its bytes,
-- and a name is made of its letters alone.
use Rattle.std.specs.Prelude.{Some, None}
use mathlib.Core.Path.{◌≡◌, refl, sym, subst}
use mathlib.Core.Bool.{Bool, true, false, cond, ◌&&◌}
use mathlib.Core.List.{List, [], ◌∷◌, map}
use Prim.Native.Nat.{ℕ, zero, suc, ◌+◌, ◌-◌, ◌*◌, ◌≤◌, ◌<◌}
use native.Mathlib.Omega.{arith}
use lib.Dec.{leb, ltb, eqb}
use lib.ListN.{length, drop}
use borrow.Author.Tests.{leb-true, ltb-true, eqb-true}
use Rattle.whole.specs.Lists.{AllOf}
use Rattle.sheet.specs.Tokens.{Value, pieces_of, is_digit, unit_of, limited, suffix_of, digits_of, digit_first, number_of, as_number, as_negative, key_of, all_lower, mark_of, or_else, as_name, word_of, minus_first, behind, token_of, tokens_of}
use Rattle.sheet.specs.Reading.{head_of}
use Rattle.sheet.specs.inner.Steps.{tokens_from}
use Rattle.sheet.specs.inner.Contents.{Proper}
use Rattle.sheet.specs.declared.Mark.{Mark}
use Rattle.sheet.specs.declared.Token.{Token}
use Rattle.sheet.specs.declared.Token.TheVariants.{Number, Negative, Name, Fixed, Bad}
use Rattle.sheet.proofs.Marks.{mark_key, marks, among, mark_table}

-- ---- values are at most M
abbrev Small : Value → Type 0
Small (Some v) = v ≤ 1_000_000_000_000
Small None = Unit {0}

small_limited : (v : ℕ) → Small (limited v)
small_limited v = by (leb v 1_000_000_000_000) refl
  where
    by : (t : Bool) → leb v 1_000_000_000_000 ≡ t → Small (cond t (Some v) None)
    by true e = leb-true v 1_000_000_000_000 e
    by false e = tt

small_cond : (t : Bool) (x y : Value) → Small x → Small y → Small (cond t x y)
small_cond true x y h k = h
small_cond false x y h k = k

small_suffix : (v b : ℕ) (bs : List ℕ) → Small (suffix_of v b bs)
unfolding suffix_of
small_suffix v b [] = small_cond (eqb (unit_of b) 0) None (limited (v * unit_of b)) tt (small_limited (v * unit_of b))
small_suffix v b (x ∷ xs) = tt

small_digits : (v : ℕ) (bs : List ℕ) → Small (digits_of v bs)
unfolding digits_of
small_digits v [] = small_limited v
small_digits v (b ∷ bs) =
    small_cond (is_digit b) (digits_of (v * 10 + (b - 48)) bs) (suffix_of v b bs) (small_digits (v * 10 + (b - 48)) bs) (small_suffix v b bs)

small_number : (w : List ℕ) → Small (number_of w)
unfolding number_of
small_number [] = tt
small_number (b ∷ bs) =
    small_cond (is_digit b) (cond (eqb b 48 && digit_first bs) None (digits_of (b - 48) bs)) None
    (small_cond (eqb b 48 && digit_first bs) None (digits_of (b - 48) bs) tt (small_digits (b - 48) bs)) tt

-- ---- what each kind of token tells
pub record Named (w : List ℕ) (n : ℕ) : Type 0 where
  pub some : 0 < length w
  pub short : length w ≤ 8
  pub lower : all_lower w ≡ true
  pub key : n ≡ key_of 0 w

abbrev pub Told : List ℕ → Token → Type 0
Told w (Number v) = v ≤ 1_000_000_000_000
Told w (Negative v) = (0 < v) × (v ≤ 1_000_000_000_000)
Told w (Name n) = Named w n
Told w (Fixed m) = key_of 0 w ≡ mark_key m
Told w Bad = Unit {0}

told_number : (w : List ℕ) (v : Value) → Small v → Told w (as_number v)
told_number w (Some v) h = h
told_number w None h = tt

told_negative : (w : List ℕ) (v : Value) → Small v → Told w (as_negative v)
told_negative w (Some zero) h = tt
told_negative w (Some (suc v)) h = (omega arith, h)
told_negative w None h = tt

told_cond : (w : List ℕ) (b : Bool) (t u : Token) → Told w t → Told w u → Told w (cond b t u)
told_cond w true t u h k = h
told_cond w false t u h k = k

told_among : (w : List ℕ) (ms : List Mark) → Told w (among (key_of 0 w) ms)
unfolding among
told_among w [] = tt
told_among w (m ∷ ms) = by (eqb (key_of 0 w) (mark_key m)) refl (told_among w ms)
  where
    by : (b : Bool) → eqb (key_of 0 w) (mark_key m) ≡ b → Told w (among (key_of 0 w) ms) → Told w (cond b (Fixed m) (among (key_of 0 w) ms))
    by true e h = eqb-true (key_of 0 w) (mark_key m) e
    by false e h = h

told_mark : (w : List ℕ) → Told w (mark_of (key_of 0 w))
told_mark w = subst (Told w) (sym (mark_table (key_of 0 w))) (told_among w marks)

told_else : (w : List ℕ) (t u : Token) → Told w t → Told w u → Told w (or_else t u)
told_else w (Number n) u h k = h
told_else w (Negative n) u h k = h
told_else w (Name n) u h k = h
told_else w (Fixed m) u h k = h
told_else w Bad u h k = k

told_name : (w : List ℕ) → length w ≤ 8 → Told w (as_name w)
told_name w h = by (ltb 0 (length w)) (all_lower w) refl refl
  where
    by : (s a : Bool) → ltb 0 (length w) ≡ s → all_lower w ≡ a → Told w (cond (s && a) (Name (key_of 0 w)) Bad)
    by true true e f = record { some = ltb-true 0 (length w) e; short = h; lower = f; key = refl }
    by true false e f = tt
    by false a e f = tt

told_word : (w : List ℕ) → Told w (word_of w)
told_word w = by (leb (length w) 8) refl
  where
    by : (t : Bool) → leb (length w) 8 ≡ t → Told w (cond t (or_else (mark_of (key_of 0 w)) (as_name w)) Bad)
    by true e = told_else w (mark_of (key_of 0 w)) (as_name w) (told_mark w) (told_name w (leb-true (length w) 8 e))
    by false e = tt

-- a piece's token tells the truth of it
pub told : (w : List ℕ) → Told w (token_of w)
unfolding token_of
told w =
    told_cond w (digit_first w) (as_number (number_of w)) (cond (minus_first w) (as_negative (number_of (behind w))) (word_of w))
    (told_number w (number_of w) (small_number w))
    (told_cond w (minus_first w) (as_negative (number_of (behind w))) (word_of w) (told_negative w (number_of (behind w)) (small_number (behind w))) (told_word w))

-- so it is proper
told_proper : (w : List ℕ) (t : Token) → Told w t → Proper t
told_proper w (Number v) h = h
told_proper w (Negative v) h = h
told_proper w (Name n) h = record { word = w; some = h.some; short = h.short; lower = h.lower; key = h.key }
told_proper w (Fixed m) h = tt
told_proper w Bad h = tt

-- ---- all tokens of a line
all_proper : (ws : List (List ℕ)) → AllOf Proper (map token_of ws)
all_proper [] = tt
all_proper (w ∷ ws) = (told_proper w (token_of w) (told w), all_proper ws)

pub proper_tokens : (l : List ℕ) → AllOf Proper (tokens_of l)
unfolding tokens_of
proper_tokens l = all_proper (pieces_of l)

pub proper_from : (l : List ℕ) (at : ℕ) → AllOf Proper (tokens_from l at)
unfolding tokens_from
proper_from l at = by (leb at (length l))
  where
    by : (t : Bool) → AllOf Proper (cond t (tokens_of (drop at l)) [])
    by true = proper_tokens (drop at l)
    by false = tt

pub proper_head : (ts : List Token) → AllOf Proper ts → Proper (head_of ts)
proper_head [] h = tt
proper_head (t ∷ ts) h = h.0

-- the first token from a place on
pub proper_at : (l : List ℕ) (at : ℕ) (t : Token) → t ≡ head_of (tokens_from l at) → Proper t
proper_at l at t e = subst Proper (sym e) (proper_head (tokens_from l at) (proper_from l at))
