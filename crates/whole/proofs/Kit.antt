-- The proof kit for whole numbers: `omega ints` decides linear facts on ℤ by the positive part positive_part and the negative part negative_part of each number.
use mathlib.Core.Path.{◌≡◌, refl, sym, ap, ap₂, subst, ◌∙◌}
use mathlib.Core.Logic.{◌⊎◌, inl, inr, ⊎_elim}
use mathlib.Core.Bool.{Bool, true, false, not, cond}
use Prim.Native.Nat.{ℕ, zero, suc, ◌+◌, ◌-◌, ◌*◌, ◌/◌, ◌%◌, ◌≤◌, ◌<◌, ◌^◌, min, max}
use native.Mathlib.Omega.{arith}
use lib.Dec.{T, ltb, leb, ltb→lt, nltb→le, lt→ltb, le→leb, leb→le, nleb→lt}
use lib.IntN.{ℤ, pos, negsuc, neg_ℤ, sub_ℕ, nat_abs, ◌+ℤ◌, ◌-ℤ◌, ◌*ℤ◌}
use lib.Signed.{mag, lt_z, le_z, ◌≤ℤ◌, ◌<ℤ◌, quot_z, rem_z, shr_z, mag_shr, mag_rem, non_neg, yes_non_neg, pos-nat_abs}
use mir.Syntax.{w64}
use mir.Val.{Fits, SFits, to_z, of_z}
use mir.Facts.{to_z-of_z, Fits-nat_abs}
use mir.ValLaws.{sfits_le}
use Rattle.std.specs.Int.{int_min, int_max}
use Rattle.whole.specs.Numbers.{positive_part, negative_part, Near, min_z, max_z, min4, max4}
use native.Mathlib.Nat.{mul-le-mul_left, add-mul, mul-le-mul_right, sub-add_cancel, div-mul-le_self, lt-div-mul-add, div-add-mod', div-le_self, lt_of_not-le, not-le_of_lt, mul-le-mul}

cond_ind : (c : Bool) (x y : ℤ) (Q : ℤ → Type 0) → (T c → Q x) → (T (not c) → Q y) → Q (cond c x y)
cond_ind true x y Q f g = f tt
cond_ind false x y Q f g = g tt

pub sub_parts : (a b : ℕ) → positive_part (sub_ℕ a b) + b ≡ a + negative_part (sub_ℕ a b)
sub_parts a b =
    cond_ind (ltb a b) (negsuc (b - suc a)) (pos (a - b)) (λ z. positive_part z + b ≡ a + negative_part z)
    (λ t. less (ltb→lt a b t)) (λ t. more (nltb→le a b t))
  where
    less : a < b → 0 + b ≡ a + suc (b - suc a)
    less h = omega arith

    more : b ≤ a → (a - b) + b ≡ a + 0
    more h = omega arith

-- one of the two is 0
pub apart : (z : ℤ) → min (positive_part z) (negative_part z) ≡ 0
apart (pos n) = omega arith
apart (negsuc n) = omega arith

pub plus : (a b : ℤ) → positive_part (a +ℤ b) + (negative_part a + negative_part b) ≡ (positive_part a + positive_part b) + negative_part (a +ℤ b)
plus (pos a) (pos b) = omega arith
plus (pos a) (negsuc b) = omega (arith, sub_parts a (suc b))
plus (negsuc a) (pos b) = omega (arith, sub_parts b (suc a))
plus (negsuc a) (negsuc b) = omega arith

pub neg_positive : (a : ℤ) → positive_part (neg_ℤ a) ≡ negative_part a
neg_positive (pos zero) = refl
neg_positive (pos (suc n)) = refl
neg_positive (negsuc n) = refl

pub neg_negative : (a : ℤ) → negative_part (neg_ℤ a) ≡ positive_part a
neg_negative (pos zero) = refl
neg_negative (pos (suc n)) = refl
neg_negative (negsuc n) = refl

pub minus : (a b : ℤ) → positive_part (a -ℤ b) + (negative_part a + positive_part b) ≡ (positive_part a + negative_part b) + negative_part (a -ℤ b)
minus a b = omega (arith, plus a (neg_ℤ b), neg_positive b, neg_negative b)

pub times_positive : (a b : ℤ) → positive_part (a *ℤ b) ≡ positive_part a * positive_part b + negative_part a * negative_part b
times_positive (pos a) (pos b) = omega arith
times_positive (pos a) (negsuc b) = omega (arith, neg_positive (pos (a * suc b)))
times_positive (negsuc a) (pos b) = omega (arith, neg_positive (pos (suc a * b)))
times_positive (negsuc a) (negsuc b) = omega arith

pub times_negative : (a b : ℤ) → negative_part (a *ℤ b) ≡ positive_part a * negative_part b + negative_part a * positive_part b
times_negative (pos a) (pos b) = omega arith
times_negative (pos a) (negsuc b) = omega (arith, neg_negative (pos (a * suc b)))
times_negative (negsuc a) (pos b) = omega (arith, neg_negative (pos (suc a * b)))
times_negative (negsuc a) (negsuc b) = omega arith

-- ---- the orders and equality
le_to : (a b : ℤ) → T (le_z a b) → positive_part a + negative_part b ≤ positive_part b + negative_part a
le_to (pos a) (pos b) t = omega (arith, leb→le a b t)
le_to (pos a) (negsuc b) t = absurd t
le_to (negsuc a) (pos b) t = omega arith
le_to (negsuc a) (negsuc b) t = omega (arith, leb→le b a t)

pub to_le : (a b : ℤ) → a ≤ℤ b → positive_part a + negative_part b ≤ positive_part b + negative_part a
to_le a b h = le_to a b h.le

le_from : (a b : ℤ) → positive_part a + negative_part b ≤ positive_part b + negative_part a → T (le_z a b)
le_from (pos a) (pos b) h = le→leb a b (omega arith)
le_from (pos a) (negsuc b) h = absurd (omega arith)
le_from (negsuc a) (pos b) h = tt
le_from (negsuc a) (negsuc b) h = le→leb b a (omega arith)

pub from_le : (a b : ℤ) → positive_part a + negative_part b ≤ positive_part b + negative_part a → a ≤ℤ b
from_le a b h = record { le = le_from a b h }

lt_to : (a b : ℤ) → T (lt_z a b) → positive_part a + negative_part b < positive_part b + negative_part a
lt_to (pos a) (pos b) t = omega (arith, ltb→lt a b t)
lt_to (pos a) (negsuc b) t = absurd t
lt_to (negsuc a) (pos b) t = omega arith
lt_to (negsuc a) (negsuc b) t = omega (arith, ltb→lt b a t)

pub to_lt : (a b : ℤ) → a <ℤ b → positive_part a + negative_part b < positive_part b + negative_part a
to_lt a b h = lt_to a b h.lt

lt_from : (a b : ℤ) → positive_part a + negative_part b < positive_part b + negative_part a → T (lt_z a b)
lt_from (pos a) (pos b) h = lt→ltb a b (omega arith)
lt_from (pos a) (negsuc b) h = absurd (omega arith)
lt_from (negsuc a) (pos b) h = tt
lt_from (negsuc a) (negsuc b) h = lt→ltb b a (omega arith)

pub from_lt : (a b : ℤ) → positive_part a + negative_part b < positive_part b + negative_part a → a <ℤ b
from_lt a b h = record { lt = lt_from a b h }

pub to_eq : (a b : ℤ) → a ≡ b → positive_part a + negative_part b ≡ positive_part b + negative_part a
to_eq a b e = subst (λ (z : ℤ). positive_part a + negative_part z ≡ positive_part z + negative_part a) e refl

pub from_eq : (a b : ℤ) → positive_part a + negative_part b ≡ positive_part b + negative_part a → a ≡ b
from_eq (pos a) (pos b) h = ap pos (omega arith)
from_eq (pos a) (negsuc b) h = absurd (omega arith)
from_eq (negsuc a) (pos b) h = absurd (omega arith)
from_eq (negsuc a) (negsuc b) h = ap negsuc (omega arith)

-- ---- a test's outcome
pub lt_true : (a b : ℤ) → lt_z a b ≡ true → positive_part a + negative_part b < positive_part b + negative_part a
lt_true a b e = lt_to a b (subst T (sym e) tt)

pub lt_false : (a b : ℤ) → lt_z a b ≡ false → positive_part b + negative_part a ≤ positive_part a + negative_part b
lt_false (pos a) (pos b) e = omega (arith, nltb→le a b (subst (λ (x : Bool). T (not x)) (sym e) tt))
lt_false (pos a) (negsuc b) e = omega arith
lt_false (negsuc a) (pos b) e = absurd (subst T e tt)
lt_false (negsuc a) (negsuc b) e = omega (arith, nltb→le b a (subst (λ (x : Bool). T (not x)) (sym e) tt))

pub le_true : (a b : ℤ) → le_z a b ≡ true → positive_part a + negative_part b ≤ positive_part b + negative_part a
le_true a b e = le_to a b (subst T (sym e) tt)

pub le_false : (a b : ℤ) → le_z a b ≡ false → positive_part b + negative_part a < positive_part a + negative_part b
le_false (pos a) (pos b) e = omega (arith, nleb→lt a b (subst (λ (x : Bool). T (not x)) (sym e) tt))
le_false (pos a) (negsuc b) e = omega arith
le_false (negsuc a) (pos b) e = absurd (subst T e tt)
le_false (negsuc a) (negsuc b) e = omega (arith, nleb→lt b a (subst (λ (x : Bool). T (not x)) (sym e) tt))

-- ---- and back: what a test gives, for a clause that speaks of it
is_true : (x : Bool) → T x → x ≡ true
is_true true t = refl
is_true false t = absurd t

is_false_lem : (x : Bool) → (x ≡ true → ⊥) → x ≡ false
is_false_lem true f = absurd (f refl)
is_false_lem false f = refl

pub true_lt : (a b : ℤ) → positive_part a + negative_part b < positive_part b + negative_part a → lt_z a b ≡ true
true_lt a b h = is_true (lt_z a b) (lt_from a b h)

pub true_le : (a b : ℤ) → positive_part a + negative_part b ≤ positive_part b + negative_part a → le_z a b ≡ true
true_le a b h = is_true (le_z a b) (le_from a b h)

pub false_lt : (a b : ℤ) → positive_part b + negative_part a ≤ positive_part a + negative_part b → lt_z a b ≡ false
false_lt a b h = is_false_lem (lt_z a b) (λ e. omega (arith, lt_true a b e))

pub false_le : (a b : ℤ) → positive_part b + negative_part a < positive_part a + negative_part b → le_z a b ≡ false
false_le a b h = is_false_lem (le_z a b) (λ e. omega (arith, le_true a b e))

-- ---- a signed number fits 64 bits
pub fits_negative : (z : ℤ) → SFits w64 z → negative_part z ≤ 2 ^ 63
fits_negative (pos n) h = omega arith
fits_negative (negsuc n) h = h.sfits

-- -2^63 ≤ z < 2^63, as one statement, in which no part has to be 0
pub from_fits : (z : ℤ) → max (suc (positive_part z + positive_part z)) (negative_part z + negative_part z) ≤ 2 ^ 63 + (positive_part z + negative_part z) → SFits w64 z
from_fits (pos n) h = record { sfits = omega arith }
from_fits (negsuc n) h = record { sfits = omega arith }

-- x as the machine reads it from its bits
abbrev pub at : ℤ → ℤ
at x = to_z w64 (of_z w64 x)

-- what the machine reads back from the bits of a number that fits
pub read_is : (z : ℤ) → SFits w64 z → positive_part (to_z w64 (of_z w64 z)) + negative_part z ≡ positive_part z + negative_part (to_z w64 (of_z w64 z))
read_is z h = to_eq _ _ (to_z-of_z h)

pub ruleset ints = (arith, to_le, from_le, to_lt, from_lt, to_eq, from_eq, lt_true, lt_false, le_true, le_false, true_lt, true_le, false_lt, false_le, read_is, from_fits)

-- ---- order and ring laws
-- both parts of a product, to be handed to `omega` as one entry
pub record Times (a b : ℤ) : Type 0 where
  pub up : positive_part (a *ℤ b) ≡ positive_part a * positive_part b + negative_part a * negative_part b
  pub down : negative_part (a *ℤ b) ≡ positive_part a * negative_part b + negative_part a * positive_part b

pub times : (a b : ℤ) → Times a b
times a b = record { up = times_positive a b; down = times_negative a b }

pub *ℤ_comm' : (a b : ℤ) → a *ℤ b ≡ b *ℤ a
*ℤ_comm' a b = omega (ints, times a b, times b a)

-- (x +ℤ y) times c, with the parts of the sum: the sum's law multiplied
pub plus_times : (a b c : ℤ) → ((positive_part (a +ℤ b) * positive_part c + (negative_part a * positive_part c + negative_part b * positive_part c)) ≡ (positive_part a * positive_part c + positive_part b * positive_part c) + negative_part (a +ℤ b) * positive_part c) × ((positive_part (a +ℤ b) * negative_part c + (negative_part a * negative_part c + negative_part b * negative_part c)) ≡ (positive_part a * negative_part c + positive_part b * negative_part c) + negative_part (a +ℤ b) * negative_part c)
plus_times a b c = (omega (arith, ap (λ (n : ℕ). n * positive_part c) (plus a b)), omega (arith, ap (λ (n : ℕ). n * negative_part c) (plus a b)))

pub *ℤ_distr : (a b c : ℤ) → (a +ℤ b) *ℤ c ≡ a *ℤ c +ℤ b *ℤ c
*ℤ_distr a b c = omega (ints, times (a +ℤ b) c, plus (a *ℤ c) (b *ℤ c), times a c, times b c, plus_times a b c)

pub *ℤ_mono : (a b c : ℤ) → a ≤ℤ b → pos 0 ≤ℤ c → (a *ℤ c) ≤ℤ (b *ℤ c)
*ℤ_mono a b (pos n) h k = omega (ints, times a (pos n), times b (pos n), mul-le-mul_right n (to_le a b h))
*ℤ_mono a b (negsuc n) h k = absurd (omega ints)

-- ---- a machine value. The machine writes the bits of `m`, and `z` is the number that a later operation reads back
pub record Holds (m z : ℤ) : Type 0 where
  pub fits : SFits w64 m
  pub is : at m ≡ z

pub made : {m z : ℤ} → m ≡ z → SFits w64 z → Holds m z
made {m} {z} e f = let g : SFits w64 m = subst (SFits w64) (sym e) f in record { fits = g; is = to_z-of_z g ∙ e }

-- what an operand reads as: a parameter (`rd c.fits.x`), a call's result (`got c.f.result c.f.ok`), an element that was read (`got (get_or s i (pos 0)) c.x.given`), a literal (`lit (pos 1)`), an earlier step (`h.is`), a loop's variable (`refl`)
pub rd : {z : ℤ} → SFits w64 z → at z ≡ z
rd f = to_z-of_z f

pub got : (z : ℤ) → mag z < 2 ^ 63 → at z ≡ z
got z h = to_z-of_z {w = w64} {z = z} (record { sfits = h })

pub lit : (z : ℤ) → z ≡ z
lit z = refl

pub sum : {x y a b : ℤ} → x ≡ a → y ≡ b → SFits w64 (a +ℤ b) → Holds (x +ℤ y) (a +ℤ b)
sum h k f = made (ap₂ ◌+ℤ◌ h k) f

pub dif : {x y a b : ℤ} → x ≡ a → y ≡ b → SFits w64 (a -ℤ b) → Holds (x -ℤ y) (a -ℤ b)
dif h k f = made (ap₂ ◌-ℤ◌ h k) f

pub prod : {x y a b : ℤ} → x ≡ a → y ≡ b → SFits w64 (a *ℤ b) → Holds (x *ℤ y) (a *ℤ b)
prod h k f = made (ap₂ ◌*ℤ◌ h k) f

pub quo : {x y a b : ℤ} → x ≡ a → y ≡ b → SFits w64 (quot_z a b) → Holds (quot_z x y) (quot_z a b)
quo h k f = made (ap₂ quot_z h k) f

pub half : {x a : ℤ} → x ≡ a → SFits w64 a → Holds (shr_z x 2) (shr_z a 2)
half {x} {a} h f = made (ap (λ (z : ℤ). shr_z z 2) h) (sfits_le (mag_shr a 2) f)

pub remains : {x y a b : ℤ} → x ≡ a → y ≡ b → SFits w64 a → Holds (rem_z x y) (rem_z a b)
remains {a = a} {b = b} h k f = made (ap₂ rem_z h k) (sfits_le (mag_rem a b) f)

-- ---- what halving and dividing do
pub record Half (z : ℤ) : Type 0 where
  pub low : 2 * positive_part (shr_z z 2) + negative_part z ≤ positive_part z + 2 * negative_part (shr_z z 2)
  pub high : positive_part z + 2 * negative_part (shr_z z 2) ≤ 2 * positive_part (shr_z z 2) + negative_part z + 1

pub halves : (z : ℤ) → Half z
halves (pos n) = omega arith
halves (negsuc n) = omega arith

neg_times_positive : (x y : ℤ) → positive_part (neg_ℤ x *ℤ y) ≡ negative_part x * positive_part y + positive_part x * negative_part y
neg_times_positive x y = times_positive (neg_ℤ x) y ∙ ap₂ (λ (p n : ℕ). p * positive_part y + n * negative_part y) (neg_positive x) (neg_negative x)

neg_times_negative : (x y : ℤ) → negative_part (neg_ℤ x *ℤ y) ≡ negative_part x * negative_part y + positive_part x * positive_part y
neg_times_negative x y = times_negative (neg_ℤ x) y ∙ ap₂ (λ (p n : ℕ). p * negative_part y + n * positive_part y) (neg_positive x) (neg_negative x)

-- the quotient times the divisor is between 0 and the dividend, and less than the divisor's size away from it
pub record Quot (a b : ℤ) : Type 0 where
  pub p_le : positive_part (quot_z a b *ℤ b) ≤ positive_part a
  pub n_le : negative_part (quot_z a b *ℤ b) ≤ negative_part a
  pub p_lt : positive_part a < positive_part (quot_z a b *ℤ b) + (positive_part b + negative_part b)
  pub n_lt : negative_part a < negative_part (quot_z a b *ℤ b) + (positive_part b + negative_part b)
  pub p_size : positive_part (quot_z a b) ≤ positive_part a + negative_part a
  pub n_size : negative_part (quot_z a b) ≤ positive_part a + negative_part a

pub quots : (a b : ℤ) → 0 < positive_part b + negative_part b → Quot a b
quots (pos a) (pos b) h =
    let b< : 0 < b = omega arith in
    omega (arith, div-mul-le_self a b, lt-div-mul-add {a = a} b<, div-le_self a b)
quots (pos a) (negsuc b) h =
    let b< : 0 < suc b = omega arith in
    let k = a / suc b in
    omega (arith, div-mul-le_self a (suc b), lt-div-mul-add {a = a} b<, div-le_self a (suc b), neg_positive (pos k), neg_negative (pos k), neg_times_positive (pos k) (negsuc b), neg_times_negative (pos k) (negsuc b))
quots (negsuc a) (pos b) h =
    let b< : 0 < b = omega arith in
    let k = suc a / b in
    omega (arith, div-mul-le_self (suc a) b, lt-div-mul-add {a = suc a} b<, div-le_self (suc a) b, neg_positive (pos k), neg_negative (pos k), neg_times_positive (pos k) (pos b), neg_times_negative (pos k) (pos b))
quots (negsuc a) (negsuc b) h =
    let b< : 0 < suc b = omega arith in
    let k = suc a / suc b in
    omega (arith, div-mul-le_self (suc a) (suc b), lt-div-mul-add {a = suc a} b<, div-le_self (suc a) (suc b), times (pos k) (negsuc b))

-- (q - 1) * b and (q + 1) * b
pub pred_times : (q b : ℤ) → (q -ℤ pos 1) *ℤ b ≡ q *ℤ b -ℤ b
pred_times q b = let e = *ℤ_distr q (negsuc 0) b in omega (ints, plus (q *ℤ b) (negsuc 0 *ℤ b), times (negsuc 0) b, minus (q *ℤ b) b)

pub suc_times : (q b : ℤ) → (q +ℤ pos 1) *ℤ b ≡ q *ℤ b +ℤ b
suc_times q b = let e = *ℤ_distr q (pos 1) b in omega (ints, plus (q *ℤ b) (pos 1 *ℤ b), times (pos 1) b, plus (q *ℤ b) b)

-- ---- the size
pub nat_abs_is : (z : ℤ) → nat_abs z ≡ positive_part z + negative_part z
nat_abs_is (pos n) = omega arith
nat_abs_is (negsuc n) = omega arith

pub nat_abs_times : (a b : ℤ) → nat_abs (a *ℤ b) ≡ nat_abs a * nat_abs b
nat_abs_times a b = nat_abs_is (a *ℤ b) ∙ parts ∙ sym (ap₂ ◌*◌ (nat_abs_is a) (nat_abs_is b))
  where
    parts : positive_part (a *ℤ b) + negative_part (a *ℤ b) ≡ (positive_part a + negative_part a) * (positive_part b + negative_part b)
    parts = omega (arith, times a b)

-- ---- squares
pub square_negative : (z : ℤ) → negative_part (z *ℤ z) ≡ 0
square_negative (pos n) = refl
square_negative (negsuc n) = refl

pub root_lt : (m n : ℕ) → m * m < n * n → m < n
root_lt m n h = lt_of_not-le (λ (k : n ≤ m). not-le_of_lt h (mul-le-mul k k))

pub root_le : (m n : ℕ) → m * m ≤ n * n → m ≤ n
root_le m n h = omega (arith, lt_of_not-le (λ (k : suc n ≤ m). not-le_of_lt (larger k) h))
  where
    larger : suc n ≤ m → n * n < m * m
    larger k = omega (arith, mul-le-mul k k)

pub root_ltℤ : (r s : ℤ) → pos 0 ≤ℤ r → pos 0 ≤ℤ s → (r *ℤ r) <ℤ (s *ℤ s) → r <ℤ s
root_ltℤ (pos r) (pos s) h k l = omega (ints, root_lt r s (omega ints))
root_ltℤ (pos r) (negsuc s) h k l = absurd (omega ints)
root_ltℤ (negsuc r) s h k l = absurd (omega ints)

pub root_leℤ : (r s : ℤ) → pos 0 ≤ℤ r → pos 0 ≤ℤ s → (r *ℤ r) ≤ℤ (s *ℤ s) → r ≤ℤ s
root_leℤ (pos r) (pos s) h k l = omega (ints, root_le r s (omega ints))
root_leℤ (pos r) (negsuc s) h k l = absurd (omega ints)
root_leℤ (negsuc r) s h k l = absurd (omega ints)

-- ---- casts: what `z as usize` and `z as u64` ask, and what they give
pub index : (z : ℤ) → SFits w64 z → pos 0 ≤ℤ z → T (non_neg (at z)) × Fits w64 (nat_abs (at z))
index z f h = subst (λ (x : ℤ). T (non_neg x) × Fits w64 (nat_abs x)) (sym (to_z-of_z f)) (yes_non_neg h, Fits-nat_abs tt f)

pub index_is : (z : ℤ) → SFits w64 z → pos 0 ≤ℤ z → pos (nat_abs (at z)) ≡ z
index_is z f h = ap (λ (x : ℤ). pos (nat_abs x)) (to_z-of_z f) ∙ pos-nat_abs z (yes_non_neg h)

-- the same of a number that the machine made
pub cast_is : {m z : ℤ} → Holds m z → pos 0 ≤ℤ z → nat_abs (at m) ≡ positive_part z
cast_is {m} {z} h k = ap nat_abs h.is ∙ omega (ints, nat_abs_is z, apart z)

-- ---- a whole expression at once: `parts (v a ⊕ v b ⊗ v c)` is the fact that `omega` wants of  a +ℤ b *ℤ c
infixl 6 ◌⊕◌ ◌⊖◌
infixl 7 ◌⊗◌
pub data Ex : Type 0 where
  v : ℤ → Ex
  ◌⊕◌ : Ex → Ex → Ex
  ◌⊖◌ : Ex → Ex → Ex
  ◌⊗◌ : Ex → Ex → Ex

abbrev pub den : Ex → ℤ
den (v z) = z
den (a ⊕ b) = den a +ℤ den b
den (a ⊖ b) = den a -ℤ den b
den (a ⊗ b) = den a *ℤ den b

abbrev mutual
  pub up : Ex → ℕ
  up (v z) = positive_part z
  up (a ⊕ b) = up a + up b
  up (a ⊖ b) = up a + dn b
  up (a ⊗ b) = up a * up b + dn a * dn b

  pub dn : Ex → ℕ
  dn (v z) = negative_part z
  dn (a ⊕ b) = dn a + dn b
  dn (a ⊖ b) = dn a + up b
  dn (a ⊗ b) = up a * dn b + dn a * up b

pub parts : (e : Ex) → positive_part (den e) + dn e ≡ up e + negative_part (den e)
parts (v z) = omega arith
parts (a ⊕ b) = omega (arith, plus (den a) (den b), parts a, parts b)
parts (a ⊖ b) = omega (arith, minus (den a) (den b), parts a, parts b)
parts (a ⊗ b) =
    omega (
      arith,
      times (den a) (den b),
      ap (λ (n : ℕ). n * positive_part (den b)) (parts a),
      ap (λ (n : ℕ). n * negative_part (den b)) (parts a),
      ap (λ (n : ℕ). n * up a) (parts b),
      ap (λ (n : ℕ). n * dn a) (parts b),
    )

-- ---- two orders multiplied: from a ≤ b and c ≤ d, that (b - a) * (d - c) is not negative
pub rearrange : (p n q m : ℕ) → n ≤ p → m ≤ q → p * m + n * q ≤ p * q + n * m
rearrange p n q m h k = omega (arith, mul-le-mul_left (p - n) k, cut m, cut q)
  where
    cut : (x : ℕ) → (p - n) * x + n * x ≡ p * x
    cut x = sym (add-mul (p - n) n x) ∙ ap (λ (y : ℕ). y * x) (sub-add_cancel h)

pub cross : (a b c d : ℤ) → a ≤ℤ b → c ≤ℤ d → (positive_part b + negative_part a) * (positive_part c + negative_part d) + (positive_part a + negative_part b) * (positive_part d + negative_part c) ≤ (positive_part b + negative_part a) * (positive_part d + negative_part c) + (positive_part a + negative_part b) * (positive_part c + negative_part d)
cross a b c d h k = rearrange (positive_part b + negative_part a) (positive_part a + negative_part b) (positive_part d + negative_part c) (positive_part c + negative_part d) (omega ints) (omega ints)

pub sign : (z : ℤ) → (pos 0 ≤ℤ z) ⊎ (z ≤ℤ pos 0)
sign (pos n) = inl (omega ints)
sign (negsuc n) = inr (omega ints)

-- a product is at least the least of the four products of the bounds, and at most the greatest
pub prod_low : (a b c d x y m : ℤ) → a ≤ℤ x → x ≤ℤ b → c ≤ℤ y → y ≤ℤ d → m ≤ℤ (a *ℤ c) → m ≤ℤ (a *ℤ d) → m ≤ℤ (b *ℤ c) → m ≤ℤ (b *ℤ d) → m ≤ℤ (x *ℤ y)
prod_low a b c d x y m ax xb cy yd m1 m2 m3 m4 =
    ⊎_elim
    (λ y+. ⊎_elim
    (λ a+. omega (ints, times x y, times a c, cross a x (pos 0) y ax y+, cross c y (pos 0) a cy a+))
    (λ a-. omega (ints, times x y, times a d, cross a x (pos 0) y ax y+, cross y d a (pos 0) yd a-))
    (sign a))
    (λ y-. ⊎_elim
    (λ b+. omega (ints, times x y, times b c, cross x b y (pos 0) xb y-, cross c y (pos 0) b cy b+))
    (λ b-. omega (ints, times x y, times b d, cross x b y (pos 0) xb y-, cross y d b (pos 0) yd b-))
    (sign b))
    (sign y)

pub prod_high : (a b c d x y m : ℤ) → a ≤ℤ x → x ≤ℤ b → c ≤ℤ y → y ≤ℤ d → (a *ℤ c) ≤ℤ m → (a *ℤ d) ≤ℤ m → (b *ℤ c) ≤ℤ m → (b *ℤ d) ≤ℤ m → (x *ℤ y) ≤ℤ m
prod_high a b c d x y m ax xb cy yd m1 m2 m3 m4 =
    ⊎_elim
    (λ y+. ⊎_elim
    (λ b+. omega (ints, times x y, times b d, cross x b (pos 0) y xb y+, cross y d (pos 0) b yd b+))
    (λ b-. omega (ints, times x y, times b c, cross x b (pos 0) y xb y+, cross c y b (pos 0) cy b-))
    (sign b))
    (λ y-. ⊎_elim
    (λ a+. omega (ints, times x y, times a d, cross a x y (pos 0) ax y-, cross y d (pos 0) a yd a+))
    (λ a-. omega (ints, times x y, times a c, cross a x y (pos 0) ax y-, cross c y a (pos 0) cy a-))
    (sign a))
    (sign y)

-- ---- bounds on sizes, for `SFits` of sums and products of bounded numbers
pub abs_prod : (a b : ℤ) {k l : ℕ} → nat_abs a ≤ k → nat_abs b ≤ l → nat_abs (a *ℤ b) ≤ k * l
abs_prod a b {k} {l} h i = rw nat_abs_times (mul-le-mul h i)

pub fits_abs : (z : ℤ) (k : ℕ) → T (ltb k (2 ^ 63)) → nat_abs z ≤ k → SFits w64 z
fits_abs z k t h = from_fits z (omega (arith, nat_abs_is z, ltb→lt k (2 ^ 63) t))

-- ---- the smaller and the larger of two: the laws have native `min` and `max`, which `omega` reads
pub by_test : (x : Bool) (y z : ℤ) (Q : ℤ → Type 0) → (x ≡ true → Q y) → (x ≡ false → Q z) → Q (cond x y z)
by_test true y z Q f g = f refl
by_test false y z Q f g = g refl

pub min_parts : (a b : ℤ) → positive_part (min_z a b) + (negative_part a + negative_part b) ≡ min (positive_part a + negative_part b) (positive_part b + negative_part a) + negative_part (min_z a b)
unfolding min_z
min_parts a b =
    by_test (le_z a b) a b (λ z. positive_part z + (negative_part a + negative_part b) ≡ min (positive_part a + negative_part b) (positive_part b + negative_part a) + negative_part z)
    (λ e. omega (arith, le_true a b e)) (λ e. omega (arith, le_false a b e))

pub max_parts : (a b : ℤ) → positive_part (max_z a b) + (negative_part a + negative_part b) ≡ max (positive_part a + negative_part b) (positive_part b + negative_part a) + negative_part (max_z a b)
unfolding max_z
max_parts a b =
    by_test (le_z a b) b a (λ z. positive_part z + (negative_part a + negative_part b) ≡ max (positive_part a + negative_part b) (positive_part b + negative_part a) + negative_part z)
    (λ e. omega (arith, le_true a b e)) (λ e. omega (arith, le_false a b e))

-- the library's smaller and larger of two are ours
pub min_is : (a b : ℤ) → int_min a b ≡ min_z a b
min_is a b = by_test (lt_z b a) b a (λ z. z ≡ min_z a b) (λ e. omega (ints, min_parts a b)) (λ e. omega (ints, min_parts a b))

pub max_is : (a b : ℤ) → int_max a b ≡ max_z a b
max_is a b = by_test (lt_z b a) a b (λ z. z ≡ max_z a b) (λ e. omega (ints, max_parts a b)) (λ e. omega (ints, max_parts a b))

pub min4_is : (a b c d : ℤ) → int_min (int_min a b) (int_min c d) ≡ min4 a b c d
min4_is a b c d = min_is (int_min a b) (int_min c d) ∙ ap₂ min_z (min_is a b) (min_is c d)

pub max4_is : (a b c d : ℤ) → int_max (int_max a b) (int_max c d) ≡ max4 a b c d
max4_is a b c d = max_is (int_max a b) (int_max c d) ∙ ap₂ max_z (max_is a b) (max_is c d)

-- ---- the remainder
pub rem_is : (a b : ℤ) → quot_z a b *ℤ b +ℤ rem_z a b ≡ a
rem_is (pos a) (pos b) = ap pos (div-add-mod' a b)
rem_is (pos a) (negsuc b) =
    let k = a / suc b in
    let r = rem_z (pos a) (negsuc b) in
    omega (ints, plus (neg_ℤ (pos k) *ℤ negsuc b) r, neg_times_positive (pos k) (negsuc b), neg_times_negative (pos k) (negsuc b), div-add-mod' a (suc b))
rem_is (negsuc a) (pos b) =
    let k = suc a / b in
    let m = suc a % b in
    omega (ints, plus (neg_ℤ (pos k) *ℤ pos b) (neg_ℤ (pos m)), neg_times_positive (pos k) (pos b), neg_times_negative (pos k) (pos b), neg_positive (pos m), neg_negative (pos m), div-add-mod' (suc a) b)
rem_is (negsuc a) (negsuc b) =
    let k = suc a / suc b in
    let m = suc a % suc b in
    omega (ints, plus (pos k *ℤ negsuc b) (neg_ℤ (pos m)), times (pos k) (negsuc b), neg_positive (pos m), neg_negative (pos m), div-add-mod' (suc a) (suc b))

-- ---- cases
pub le_or_lt : (m n : ℕ) → (m ≤ n) ⊎ (n < m)
le_or_lt m n = go (leb m n) refl
  where
    go : (t : Bool) → leb m n ≡ t → (m ≤ n) ⊎ (n < m)
    go true e = inl (leb→le m n (subst T (sym e) tt))
    go false e = inr (nleb→lt m n (subst (λ (x : Bool). T (not x)) (sym e) tt))

pub lt_or_le : (a b : ℤ) → (a <ℤ b) ⊎ (b ≤ℤ a)
lt_or_le a b = go (lt_z a b) refl
  where
    go : (t : Bool) → lt_z a b ≡ t → (a <ℤ b) ⊎ (b ≤ℤ a)
    go true e = inl (omega ints)
    go false e = inr (omega ints)

pub side : (b : ℤ) → (b ≡ pos 0 → ⊥) → (pos 0 <ℤ b) ⊎ (b <ℤ pos 0)
side (pos zero) h = absurd (h refl)
side (pos (suc n)) h = inl (omega ints)
side (negsuc n) h = inr (omega ints)

-- ---- products and the other sign
pub *ℤ_anti : (a b c : ℤ) → a ≤ℤ b → c ≤ℤ pos 0 → (b *ℤ c) ≤ℤ (a *ℤ c)
*ℤ_anti a b c h k = omega (ints, times a c, times b c, cross a b c (pos 0) h k)

pub neg_times : (x y : ℤ) → neg_ℤ x *ℤ y ≡ neg_ℤ (x *ℤ y)
neg_times x y = omega (ints, neg_times_positive x y, neg_times_negative x y, times x y, neg_positive (x *ℤ y), neg_negative (x *ℤ y))

-- ---- a function that keeps the order goes through the smaller and the larger of two
module _ (f : ℤ → ℤ) (mono : (a b : ℤ) → a ≤ℤ b → f a ≤ℤ f b) where
  pub min_through : (a b : ℤ) → min_z (f a) (f b) ≡ f (min_z a b)
  unfolding min_z
  min_through a b = go (le_z a b) refl
    where
      go : (t : Bool) → le_z a b ≡ t → min_z (f a) (f b) ≡ f (cond t a b)
      go true e = let h = mono a b (omega ints) in omega (ints, min_parts (f a) (f b))
      go false e = let h = mono b a (omega ints) in omega (ints, min_parts (f a) (f b))

  pub max_through : (a b : ℤ) → max_z (f a) (f b) ≡ f (max_z a b)
  unfolding max_z
  max_through a b = go (le_z a b) refl
    where
      go : (t : Bool) → le_z a b ≡ t → max_z (f a) (f b) ≡ f (cond t b a)
      go true e = let h = mono a b (omega ints) in omega (ints, max_parts (f a) (f b))
      go false e = let h = mono b a (omega ints) in omega (ints, max_parts (f a) (f b))

-- ---- near numbers: `omega nears` also reads back every number that is known to be near
pub near_fits : (z : ℤ) → Near z → SFits w64 z
near_fits z h = omega ints

pub near_read : (z : ℤ) → Near z → positive_part (at z) + negative_part z ≡ positive_part z + negative_part (at z)
near_read z h = read_is z (near_fits z h)

pub ruleset nears = (ints, near_read)

pub rn : (z : ℤ) → Near z → at z ≡ z
rn z h = rd (near_fits z h)

pub near_abs : (z : ℤ) → Near z → nat_abs z ≤ 1_000_000_000_000
near_abs z h = omega (ints, nat_abs_is z, apart z)

pub abs_near : (z : ℤ) → nat_abs z ≤ 1_000_000_000_000 → Near z
abs_near z h = omega (ints, nat_abs_is z)

-- what a call of two numbers gave
pub call2 : (f : ℤ → ℤ → ℤ) {x y a b : ℤ} (r : ℤ) → mag r < 2 ^ 63 → r ≡ f x y → x ≡ a → y ≡ b → at r ≡ f a b
call2 f r m e i j = got r m ∙ e ∙ ap₂ f i j

-- sums and differences of near numbers, as the machine makes them
pub near_sum : (a b : ℤ) → Near a → Near b → Holds (at a +ℤ at b) (a +ℤ b)
near_sum a b h k = sum (rn a h) (rn b k) (omega (ints, plus a b))

pub near_difference : (a b : ℤ) → Near a → Near b → Holds (at a -ℤ at b) (a -ℤ b)
near_difference a b h k = dif (rn a h) (rn b k) (omega (ints, minus a b))
