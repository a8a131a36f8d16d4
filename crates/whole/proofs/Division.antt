-- A quotient is told by two products: one step more goes past, because a product with a number other than 0 moves by at least one.
use mathlib.Core.Logic.{⊎_elim}
use Prim.Native.Nat.{zero, suc, ◌/◌, ◌<◌}
use native.Mathlib.Nat.{div-mul-le_self, lt-div-mul-add}
use native.Mathlib.Omega.{arith}
use lib.IntN.{ℤ, pos, negsuc, neg_ℤ, ◌+ℤ◌, ◌-ℤ◌, ◌*ℤ◌}
use lib.Signed.{◌≤ℤ◌, ◌<ℤ◌}
use Rattle.whole.specs.Numbers.{floor_q, ceil_q}
use Rattle.whole.proofs.Kit.{ints, plus, minus, times, neg_positive, neg_negative, neg_times, suc_times, pred_times, *ℤ_mono, *ℤ_anti, lt_or_le}

-- q is a quotient of a by b rounded down: one step more goes past
pub record Under (a b q : ℤ) : Type 0 where
  pub up : pos 0 <ℤ b → ((q *ℤ b) ≤ℤ a) × (a <ℤ (q *ℤ b +ℤ b))
  pub down : b <ℤ pos 0 → (a ≤ℤ (q *ℤ b)) × ((q *ℤ b +ℤ b) <ℤ a)

-- q is a quotient of a by b rounded up: one step less falls short
pub record Over (a b q : ℤ) : Type 0 where
  pub up : pos 0 <ℤ b → (a ≤ℤ (q *ℤ b)) × ((q *ℤ b -ℤ b) <ℤ a)
  pub down : b <ℤ pos 0 → ((q *ℤ b) ≤ℤ a) × (a <ℤ (q *ℤ b -ℤ b))

-- ---- what one step more or less tells of every other number
module _ (a b q r : ℤ) where
  pub past_up : pos 0 <ℤ b → a <ℤ (q *ℤ b +ℤ b) → (r *ℤ b) ≤ℤ a → r ≤ℤ q
  past_up k x y = ⊎_elim (λ h. absurd (no h)) (λ h. h) (lt_or_le q r)
    where
      no : q <ℤ r → ⊥
      no h =
          let e = suc_times q b in
          let f = *ℤ_mono (q +ℤ pos 1) r b (omega (ints, plus q (pos 1))) (omega ints) in
          omega ints

  pub past_down : b <ℤ pos 0 → (q *ℤ b +ℤ b) <ℤ a → a ≤ℤ (r *ℤ b) → r ≤ℤ q
  past_down k x y = ⊎_elim (λ h. absurd (no h)) (λ h. h) (lt_or_le q r)
    where
      no : q <ℤ r → ⊥
      no h =
          let e = suc_times q b in
          let f = *ℤ_anti (q +ℤ pos 1) r b (omega (ints, plus q (pos 1))) (omega ints) in
          omega ints

  pub short_up : pos 0 <ℤ b → (q *ℤ b -ℤ b) <ℤ a → a ≤ℤ (r *ℤ b) → q ≤ℤ r
  short_up k x y = ⊎_elim (λ h. absurd (no h)) (λ h. h) (lt_or_le r q)
    where
      no : r <ℤ q → ⊥
      no h =
          let e = pred_times q b in
          let f = *ℤ_mono r (q -ℤ pos 1) b (omega (ints, minus q (pos 1))) (omega ints) in
          omega ints

  pub short_down : b <ℤ pos 0 → a <ℤ (q *ℤ b -ℤ b) → (r *ℤ b) ≤ℤ a → q ≤ℤ r
  short_down k x y = ⊎_elim (λ h. absurd (no h)) (λ h. h) (lt_or_le r q)
    where
      no : r <ℤ q → ⊥
      no h =
          let e = pred_times q b in
          let f = *ℤ_anti r (q -ℤ pos 1) b (omega (ints, minus q (pos 1))) (omega ints) in
          omega ints

-- ---- the definitions
pub floor_under : (a b : ℤ) → Under a b (floor_q a b)
unfolding floor_q
floor_under (pos a) (pos b) = record {
  up = λ h. let b< : 0 < b = omega ints in let q = pos (a / b) in
      (omega (ints, times q (pos b), div-mul-le_self a b), omega (ints, times q (pos b), plus (q *ℤ pos b) (pos b), lt-div-mul-add {a = a} b<));
  down = λ h. absurd (omega ints);
}
floor_under (negsuc a) (pos b) = record {
  up = λ h. let b< : 0 < b = omega ints in let q = negsuc (a / b) in
      (omega (ints, times q (pos b), lt-div-mul-add {a = a} b<), omega (ints, times q (pos b), plus (q *ℤ pos b) (pos b), div-mul-le_self a b));
  down = λ h. absurd (omega ints);
}
floor_under (pos zero) (negsuc b) = record {
  up = λ h. absurd (omega ints);
  down = λ h. (omega (ints, times (pos 0) (negsuc b)), omega (ints, times (pos 0) (negsuc b), plus (pos 0 *ℤ negsuc b) (negsuc b)));
}
floor_under (pos (suc a)) (negsuc b) = record {
  up = λ h. absurd (omega ints);
  down = λ h. let b< : 0 < suc b = omega arith in let q = negsuc (a / suc b) in
      (omega (ints, times q (negsuc b), lt-div-mul-add {a = a} b<), omega (ints, times q (negsuc b), plus (q *ℤ negsuc b) (negsuc b), div-mul-le_self a (suc b)));
}
floor_under (negsuc a) (negsuc b) = record {
  up = λ h. absurd (omega ints);
  down = λ h. let b< : 0 < suc b = omega arith in let q = pos (suc a / suc b) in
      (omega (ints, times q (negsuc b), div-mul-le_self (suc a) (suc b)), omega (ints, times q (negsuc b), plus (q *ℤ negsuc b) (negsuc b), lt-div-mul-add {a = suc a} b<));
}

-- rounding up is rounding down on the other side
turn : (a b q : ℤ) → Under (neg_ℤ a) b q → Over a b (neg_ℤ q)
turn a b q f =
    let e = neg_times q b in
    let n = neg_ℤ q *ℤ b in
    record {
      up = λ h. let x = f.up h in (omega (ints, neg_positive a, neg_negative a, neg_positive (q *ℤ b), neg_negative (q *ℤ b)), omega (ints, neg_positive a, neg_negative a, neg_positive (q *ℤ b), neg_negative (q *ℤ b), minus n b, plus (q *ℤ b) b));
      down = λ h. let x = f.down h in (omega (ints, neg_positive a, neg_negative a, neg_positive (q *ℤ b), neg_negative (q *ℤ b)), omega (ints, neg_positive a, neg_negative a, neg_positive (q *ℤ b), neg_negative (q *ℤ b), minus n b, plus (q *ℤ b) b));
    }

pub ceiling_over : (a b : ℤ) → Over a b (ceil_q a b)
unfolding ceil_q
ceiling_over a b = turn a b (floor_q (neg_ℤ a) b) (floor_under (neg_ℤ a) b)
