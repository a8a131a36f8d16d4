-- A version is a number whose last byte is a digit, so that it has no unit, and which is at most 65,535: digits alone give both the same value.
use Rattle.std.specs.Prelude.{Some, None}
use mathlib.Core.Path.{◌≡◌, refl, ◌∙◌}
use mathlib.Core.Bool.{Bool, true, false, not, cond, ◌&&◌}
use mathlib.Core.List.{List, [], ◌∷◌}
use Prim.Native.Nat.{ℕ, suc, ◌+◌, ◌-◌, ◌*◌, ◌≤◌, ◌<◌}
use native.Mathlib.Omega.{arith}
use lib.Dec.{eqb, leb}
use lib.ListN.{length, take, drop}
use lib.Pointwise.{pointwise}
use borrow.Author.Tests.{le-leb, lt-leb, leb-false}
use Rattle.std.proofs.Math.Bool.{and-false}
use Rattle.sheet.specs.Tokens.{Value, is_digit, digit_first, suffix_of, digits_of, number_of}
use Rattle.meaning.specs.Grounds.{version_from, version_of, first_line}

never : {A : Type 0} (v : ℕ) → ◌≡◌ {A = Value} None (Some v) → A
never v e = absurd (let z : ◌≡◌ {A = ℕ} 0 1 = cc in omega arith)

off : {A : Type 0} → ◌≡◌ {A = Bool} false true → A
off e = absurd (let z : ◌≡◌ {A = ℕ} 0 1 = cc in omega arith)

-- the last of some bytes is a digit; where there is none, d
ended : Bool → List ℕ → Bool
ended d [] = d
ended d (b ∷ bs) = ended (is_digit b) bs

digit_last : (b : ℕ) (bs : List ℕ) → digit_first (drop (length bs) (b ∷ bs)) ≡ ended (is_digit b) bs
unfolding digit_first ended
digit_last b [] = refl
digit_last b (c ∷ cs) = digit_last c cs

abbrev low : ℕ → Value
low v = cond (leb v 65_535) (Some v) None

-- ---- digits behind the first
from_none : (v : ℕ) (bs : List ℕ) → digits_of v bs ≡ None → version_from v bs ≡ None
unfolding digits_of version_from
from_none v [] e = by (leb v 1_000_000_000_000) refl e
  where
    by : (t : Bool) → leb v 1_000_000_000_000 ≡ t → cond t (Some v) None ≡ None → low v ≡ None
    by true f g = absurd (let z : ◌≡◌ {A = ℕ} 0 1 = cc in omega arith)
    by false f g = let h = leb-false v 1_000_000_000_000 f in rw (lt-leb v 65_535 (omega arith))
from_none v (b ∷ bs) e = by (is_digit b) (from_none (v * 10 + (b - 48)) bs) e
  where
    by : (t : Bool) → (digits_of (v * 10 + (b - 48)) bs ≡ None → version_from (v * 10 + (b - 48)) bs ≡ None) → cond t (digits_of (v * 10 + (b - 48)) bs) (suffix_of v b bs) ≡ None → cond t (version_from (v * 10 + (b - 48)) bs) None ≡ None
    by true f g = f g
    by false f g = refl

from_unit : (v : ℕ) (bs : List ℕ) → ended true bs ≡ false → version_from v bs ≡ None
unfolding version_from ended
from_unit v [] e = absurd (let z : ◌≡◌ {A = ℕ} 0 1 = cc in omega arith)
from_unit v (b ∷ bs) e = by (is_digit b) e (from_unit (v * 10 + (b - 48)) bs)
  where
    by : (t : Bool) → ended t bs ≡ false → (ended true bs ≡ false → version_from (v * 10 + (b - 48)) bs ≡ None) → cond t (version_from (v * 10 + (b - 48)) bs) None ≡ None
    by true f g = g f
    by false f g = refl

from_is : (v u : ℕ) (bs : List ℕ) → ended true bs ≡ true → digits_of v bs ≡ Some u → version_from v bs ≡ low u
unfolding digits_of version_from ended suffix_of
from_is v u [] e f = by (leb v 1_000_000_000_000) f
  where
    by : (t : Bool) → cond t (Some v) None ≡ Some u → low v ≡ low u
    by true g = let h : v ≡ u = cc in rw h
    by false g = never u g
from_is v u (b ∷ []) e f = by (is_digit b) e (from_is (v * 10 + (b - 48)) u []) f
  where
    by : (t : Bool) → t ≡ true → (ended true [] ≡ true → digits_of (v * 10 + (b - 48)) [] ≡ Some u → version_from (v * 10 + (b - 48)) [] ≡ low u) → cond t (digits_of (v * 10 + (b - 48)) []) (suffix_of v b []) ≡ Some u → cond t (version_from (v * 10 + (b - 48)) []) None ≡ low u
    by true g h i = h refl i
    by false g h i = off g
from_is v u (b ∷ c ∷ cs) e f = by (is_digit b) (from_is (v * 10 + (b - 48)) u (c ∷ cs) e) f
  where
    by : (t : Bool) → (digits_of (v * 10 + (b - 48)) (c ∷ cs) ≡ Some u → version_from (v * 10 + (b - 48)) (c ∷ cs) ≡ low u) → cond t (digits_of (v * 10 + (b - 48)) (c ∷ cs)) None ≡ Some u → cond t (version_from (v * 10 + (b - 48)) (c ∷ cs)) None ≡ low u
    by true h i = h i
    by false h i = never u i

-- ---- a version
pub version_none : (w : List ℕ) → number_of w ≡ None → version_of w ≡ None
unfolding number_of version_of
version_none [] e = refl
version_none (b ∷ bs) e = by (is_digit b) (eqb b 48 && digit_first bs) e
  where
    by : (p q : Bool) → cond p (cond q None (digits_of (b - 48) bs)) None ≡ None → cond (p && not q) (version_from (b - 48) bs) None ≡ None
    by true true f = refl
    by true false f = from_none (b - 48) bs f
    by false q f = refl

module _ (w : List ℕ) (v : ℕ) where
  -- what a number has: bytes, and the first is a digit
  pub number_some : number_of w ≡ Some v → 0 < length w
  unfolding number_of
  number_some e = by w e
    where
      by : (x : List ℕ) → number_of x ≡ Some v → 0 < length x
      by [] f = never v f
      by (b ∷ bs) f = omega arith

pub version_unit : (w : List ℕ) (v : ℕ) → number_of w ≡ Some v → digit_first (drop (length w - 1) w) ≡ false → version_of w ≡ None
unfolding number_of version_of ended
version_unit [] v e f = never v e
version_unit (b ∷ bs) v e f =
    let n : suc (length bs) - 1 ≡ length bs = omega arith in
    let g : digit_first (drop (length bs) (b ∷ bs)) ≡ false = rw n at f in
    by (is_digit b) (eqb b 48 && digit_first bs) (digit_last b bs) g
  where
    by : (p q : Bool) → digit_first (drop (length bs) (b ∷ bs)) ≡ ended p bs → digit_first (drop (length bs) (b ∷ bs)) ≡ false → cond (p && not q) (version_from (b - 48) bs) None ≡ None
    by true true f g = refl
    by true false f g = from_unit (b - 48) bs (cc)
    by false q f g = refl

version_low : (w : List ℕ) (v : ℕ) → number_of w ≡ Some v → digit_first (drop (length w - 1) w) ≡ true → version_of w ≡ low v
unfolding number_of version_of ended
version_low [] v e f = never v e
version_low (b ∷ bs) v e f =
    let n : suc (length bs) - 1 ≡ length bs = omega arith in
    let g : digit_first (drop (length bs) (b ∷ bs)) ≡ true = rw n at f in
    by (is_digit b) (eqb b 48 && digit_first bs) (digit_last b bs) g e
  where
    by : (p q : Bool) → digit_first (drop (length bs) (b ∷ bs)) ≡ ended p bs → digit_first (drop (length bs) (b ∷ bs)) ≡ true → cond p (cond q None (digits_of (b - 48) bs)) None ≡ Some v → cond (p && not q) (version_from (b - 48) bs) None ≡ low v
    by true true f g h = never v h
    by true false f g h = from_is (b - 48) v bs (cc) h
    by false q f g h = never v h

pub version_is : (w : List ℕ) (v : ℕ) → number_of w ≡ Some v → v ≤ 65_535 → digit_first (drop (length w - 1) w) ≡ true → version_of w ≡ Some v
version_is w v e h f = version_low w v e f ∙ rw (le-leb v 65_535 h)

pub version_high : (w : List ℕ) (v : ℕ) → number_of w ≡ Some v → 65_535 < v → version_of w ≡ None
version_high w v e h = by (digit_first (drop (length w - 1) w)) refl
  where
    by : (t : Bool) → digit_first (drop (length w - 1) w) ≡ t → version_of w ≡ None
    by true f = version_low w v e f ∙ rw (lt-leb v 65_535 h)
    by false f = version_unit w v e f

-- ---- line 1
-- the version behind the mark and the space, where they are there
pub first_marked : (l : List ℕ) → first_line l ≡ cond (pointwise eqb (take 4 l) (82 ∷ 85 ∷ 76 ∷ 32 ∷ [])) (version_of (drop 4 l)) None
unfolding first_line
first_marked [] = refl
first_marked (r ∷ []) = rw (and-false (eqb r 82))
first_marked (r ∷ u ∷ []) = rw (and-false (eqb u 85), and-false (eqb r 82))
first_marked (r ∷ u ∷ x ∷ []) = rw (and-false (eqb x 76), and-false (eqb u 85), and-false (eqb r 82))
first_marked (r ∷ u ∷ x ∷ s ∷ ds) = by (eqb s 32)
  where
    by : (b : Bool) → cond (eqb r 82 && (eqb u 85 && (eqb x 76 && b))) (version_of ds) None ≡ cond (eqb r 82 && (eqb u 85 && (eqb x 76 && (b && true)))) (version_of ds) None
    by true = refl
    by false = refl
