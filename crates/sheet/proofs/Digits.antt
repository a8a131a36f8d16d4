-- Numbers: what the byte at a place makes of the value before it, and that a value above M stays above M, so that reading may stop there.
use Rattle.std.specs.Prelude.{Some, None}
use mathlib.Core.Path.{◌≡◌, refl}
use mathlib.Core.Bool.{Bool, true, false, cond, ◌&&◌}
use mathlib.Core.List.{List, [], ◌∷◌}
use Prim.Native.Nat.{ℕ, zero, suc, ◌+◌, ◌-◌, ◌*◌, ◌/◌, ◌≤◌, ◌<◌}
use native.Mathlib.Nat.{le-div_iff_mul-le, div-lt_iff_lt-mul}
use native.Mathlib.Omega.{arith}
use lib.Dec.{eqb}
use lib.ListN.{length, get_or, take, drop, length-drop}
use lib.Seq.{take_all}
use borrow.Author.Tests.{eq-eqb, ne_eqb, lt-leb, le-leb}
use Rattle.sheet.specs.Tokens.{is_digit, unit_of, limited, suffix_of, digits_of, digit_first, number_of, minus_first}
use Rattle.sheet.proofs.Places.{drop_at, drop_end}

-- ---- a value and a unit
pub limited_fits : (v : ℕ) → v ≤ 1_000_000_000_000 → limited v ≡ Some v
limited_fits v h = rw (le-leb v 1_000_000_000_000 h)

pub limited_big : (v : ℕ) → 1_000_000_000_000 < v → limited v ≡ None
limited_big v h = rw (lt-leb v 1_000_000_000_000 h)

-- a value times a unit, by a test on the value alone
pub times_fits : (v u top : ℕ) → 0 < u → v ≤ top / u → v * u ≤ top
times_fits v u top p h = (le-div_iff_mul-le p).0 h

pub times_big : (v u top : ℕ) → 0 < u → top / u < v → top < v * u
times_big v u top p h = (div-lt_iff_lt-mul p).0 h

module _ (l : List ℕ) (i v : ℕ) where
  pub digits_more : i < length l → is_digit (get_or l i 0) ≡ true → digits_of v (drop i l) ≡ digits_of (v * 10 + (get_or l i 0 - 48)) (drop (i + 1) l)
  unfolding digits_of
  digits_more h e = rw (drop_at l i h, e)

  pub digits_unit : i < length l → is_digit (get_or l i 0) ≡ false → digits_of v (drop i l) ≡ suffix_of v (get_or l i 0) (drop (i + 1) l)
  unfolding digits_of
  digits_unit h e = rw (drop_at l i h, e)

  pub digits_none : length l ≤ i → digits_of v (drop i l) ≡ limited v
  unfolding digits_of
  digits_none h = rw (drop_end l i h)

  pub suffix_long : (b : ℕ) → i < length l → suffix_of v b (drop i l) ≡ None
  unfolding suffix_of
  suffix_long b h = rw (drop_at l i h)

  pub suffix_last : (b : ℕ) → length l ≤ i → 0 < unit_of b → suffix_of v b (drop i l) ≡ limited (v * unit_of b)
  unfolding suffix_of
  suffix_last b h e = rw (drop_end l i h, ne_eqb (unit_of b) 0 (λ z. omega arith))

pub suffix_none : (v b : ℕ) (bs : List ℕ) → unit_of b ≡ 0 → suffix_of v b bs ≡ None
unfolding suffix_of
suffix_none v b [] e = rw (eq-eqb (unit_of b) 0 e)
suffix_none v b (x ∷ xs) e = refl

-- ---- a value above M stays above M
suffix_big : (v b : ℕ) (bs : List ℕ) → 1_000_000_000_000 < v → suffix_of v b bs ≡ None
unfolding suffix_of
suffix_big v b (x ∷ xs) h = refl
suffix_big v b [] h = by (unit_of b)
  where
    by : (u : ℕ) → cond (eqb u 0) None (limited (v * u)) ≡ None
    by zero = refl
    by (suc u) = rw (ne_eqb (suc u) 0 (λ e. omega arith)) (limited_big (v * suc u) (omega arith))

pub digits_big : (v : ℕ) (bs : List ℕ) → 1_000_000_000_000 < v → digits_of v bs ≡ None
unfolding digits_of
digits_big v [] h = limited_big v h
digits_big v (b ∷ bs) h = by (is_digit b) (digits_big (v * 10 + (b - 48)) bs (omega arith))
  where
    by : (t : Bool) → digits_of (v * 10 + (b - 48)) bs ≡ None → cond t (digits_of (v * 10 + (b - 48)) bs) (suffix_of v b bs) ≡ None
    by true e = e
    by false e = suffix_big v b bs h

-- ---- a digit first
pub digit_here : (l : List ℕ) (i : ℕ) → i < length l → digit_first (drop i l) ≡ is_digit (get_or l i 0)
unfolding digit_first
digit_here l i h = rw (drop_at l i h)

pub digit_none : (l : List ℕ) (i : ℕ) → length l ≤ i → digit_first (drop i l) ≡ false
unfolding digit_first
digit_none l i h = rw (drop_end l i h)

-- all that stands behind the first byte
pub all_behind : (w : List ℕ) → take (length w - 1) (drop 1 w) ≡ drop 1 w
all_behind w = take_all (length w - 1) (drop 1 w) (omega (arith, length-drop 1 w))

-- ---- a number: a digit first, and no 0 with a digit behind it
pub number_none : (w : List ℕ) → length w < 1 → number_of w ≡ None
unfolding number_of
number_none [] h = refl
number_none (b ∷ bs) h = absurd (omega arith)

pub number_other : (w : List ℕ) → is_digit (get_or w 0 0) ≡ false → number_of w ≡ None
unfolding number_of
number_other [] e = refl
number_other (b ∷ bs) e = rw e

pub number_led : (w : List ℕ) → get_or w 0 0 ≡ 48 → digit_first (drop 1 w) ≡ true → number_of w ≡ None
unfolding number_of
number_led [] z f = refl
number_led (b ∷ bs) z f = rw (z, f)

pub number_zero : (w : List ℕ) → is_digit (get_or w 0 0) ≡ true → digit_first (drop 1 w) ≡ false → number_of w ≡ digits_of (get_or w 0 0 - 48) (drop 1 w)
unfolding number_of
number_zero [] e f = cc
number_zero (b ∷ bs) e f = rw (e, f) (by (eqb b 48))
  where
    by : (t : Bool) → cond (t && false) None (digits_of (b - 48) bs) ≡ digits_of (b - 48) bs
    by true = refl
    by false = refl

pub number_more : (w : List ℕ) → is_digit (get_or w 0 0) ≡ true → (get_or w 0 0 ≡ 48 → ⊥) → number_of w ≡ digits_of (get_or w 0 0 - 48) (drop 1 w)
unfolding number_of
number_more [] e z = cc
number_more (b ∷ bs) e z = rw (e, ne_eqb b 48 z)

-- ---- `-` and a digit behind it
pub minus_none : (w : List ℕ) → length w < 1 → minus_first w ≡ false
unfolding minus_first
minus_none [] h = refl
minus_none (b ∷ bs) h = absurd (omega arith)

pub minus_here : (w : List ℕ) → get_or w 0 0 ≡ 45 → minus_first w ≡ digit_first (drop 1 w)
unfolding minus_first digit_first
minus_here [] e = refl
minus_here (b ∷ bs) e = rw e

pub minus_other : (w : List ℕ) → (get_or w 0 0 ≡ 45 → ⊥) → minus_first w ≡ false
unfolding minus_first
minus_other [] e = refl
minus_other (b ∷ bs) e = rw (ne_eqb b 45 e)
