-- Quotients against products: a product keeps the order in each factor that is above 0, and turns it for one below 0.
use mathlib.Core.Bool.{true, false}
use mathlib.Core.Path.{◌≡◌, refl, sym, ap, subst, ◌∙◌}
use Prim.Native.Nat.{zero, suc, ◌≤◌}
use native.Mathlib.Nat.{div-le_self, zero-div}
use native.Mathlib.Omega.{arith}
use lib.IntN.{ℤ, pos, negsuc, neg_ℤ, nat_abs, ◌-ℤ◌, ◌*ℤ◌}
use lib.Signed.{lt_z, quot_z, rem_z, ◌≤ℤ◌, ◌<ℤ◌}
use mir.Syntax.{w64}
use mir.Val.{SFits}
use Rattle.whole.specs.Numbers.{Near, floor_q, ceil_q}
use Rattle.whole.specs.inner.Held.{Is}
use Rattle.whole.proofs.Kit.{ints, nears, at, rd, rn, lit, Holds, made, dif, quo, remains, Quot, quots, apart, plus, minus, pred_times, rem_is, *ℤ_mono, nat_abs_is, neg_positive, neg_negative, near_abs, abs_near}
use Rattle.whole.proofs.Division.{Under, past_up, short_up, floor_under, ceiling_over}
use Rattle.whole.proofs.Meaning.{floor_of, floor_only}

-- ---- a quotient against a product, for a divisor above 0
module _ (x y z : ℤ) (k : pos 0 <ℤ y) where
  pub floor_from : (x *ℤ y) ≤ℤ z → x ≤ℤ floor_q z y
  floor_from h = past_up z y (floor_q z y) x k ((floor_under z y).up k).1 h

  pub floor_to : x ≤ℤ floor_q z y → (x *ℤ y) ≤ℤ z
  floor_to h =
      let f = ((floor_under z y).up k).0 in
      let g = *ℤ_mono x (floor_q z y) y h (omega ints) in
      omega ints

  pub ceiling_from : z ≤ℤ (x *ℤ y) → ceil_q z y ≤ℤ x
  ceiling_from h = short_up z y (ceil_q z y) x k ((ceiling_over z y).up k).1 h

  pub ceiling_to : ceil_q z y ≤ℤ x → z ≤ℤ (x *ℤ y)
  ceiling_to h =
      let f = ((ceiling_over z y).up k).0 in
      let g = *ℤ_mono (ceil_q z y) x y h (omega ints) in
      omega ints

pub floor_mono : (w z y : ℤ) → pos 0 <ℤ y → w ≤ℤ z → floor_q w y ≤ℤ floor_q z y
floor_mono w z y k h = let f = ((floor_under w y).up k).0 in floor_from (floor_q w y) y z k (omega ints)

pub ceiling_mono : (w z y : ℤ) → pos 0 <ℤ y → w ≤ℤ z → ceil_q w y ≤ℤ ceil_q z y
ceiling_mono w z y k h = let f = ((ceiling_over z y).up k).0 in ceiling_from (ceil_q z y) y w k (omega ints)

-- ---- a divisor below 0: both signs turned
pub floor_turned : (z y : ℤ) → (y ≡ pos 0 → ⊥) → floor_q (neg_ℤ z) (neg_ℤ y) ≡ floor_q z y
unfolding floor_q
floor_turned z (pos zero) n = absurd (n refl)
floor_turned (pos zero) (pos (suc b)) n = ap pos (sym (zero-div (suc b)))
floor_turned (pos (suc a)) (pos (suc b)) n = refl
floor_turned (negsuc a) (pos (suc b)) n = refl
floor_turned (pos zero) (negsuc b) n = ap pos (zero-div (suc b))
floor_turned (pos (suc a)) (negsuc b) n = refl
floor_turned (negsuc a) (negsuc b) n = refl

pub ceiling_turned : (z y : ℤ) → (y ≡ pos 0 → ⊥) → ceil_q (neg_ℤ z) (neg_ℤ y) ≡ ceil_q z y
unfolding ceil_q
ceiling_turned z y n = ap neg_ℤ (floor_turned (neg_ℤ z) y n)

-- ---- a quotient is no larger than what is divided
pub floor_size : (a b : ℤ) → nat_abs (floor_q a b) ≤ nat_abs a
unfolding floor_q
floor_size (pos a) (pos b) = div-le_self a b
floor_size (negsuc a) (pos b) = omega (arith, div-le_self a b)
floor_size (pos zero) (negsuc b) = omega arith
floor_size (pos (suc a)) (negsuc b) = omega (arith, div-le_self a (suc b))
floor_size (negsuc a) (negsuc b) = div-le_self (suc a) (suc b)

neg_size : (z : ℤ) → nat_abs (neg_ℤ z) ≡ nat_abs z
neg_size z = omega (arith, nat_abs_is z, nat_abs_is (neg_ℤ z), neg_positive z, neg_negative z)

pub ceiling_size : (a b : ℤ) → nat_abs (ceil_q a b) ≤ nat_abs a
unfolding ceil_q
ceiling_size a b = omega (arith, neg_size (floor_q (neg_ℤ a) b), neg_size a, floor_size (neg_ℤ a) b)

pub floor_near : (a b : ℤ) → Near a → Near (floor_q a b)
floor_near a b h = abs_near (floor_q a b) (omega (arith, floor_size a b, near_abs a h))

pub ceiling_near : (a b : ℤ) → Near a → Near (ceil_q a b)
ceiling_near a b h = abs_near (ceil_q a b) (omega (arith, ceiling_size a b, near_abs a h))

-- ---- what the code has
pub floor_found : (a b q : ℤ) → Near a → (b ≡ pos 0 → ⊥) → Under a b q → Is (floor_q a b) q
floor_found a b q h n u = let e = floor_only a b q n (floor_of a b q n u) in record { is = e; near = subst Near (sym e) (floor_near a b h) }

-- the machine rounds towards zero, and a remainder below 0 says that this was up
module _ (a b : ℤ) (f : SFits w64 a) (g : SFits w64 b) (n : Near a) (k : pos 0 <ℤ b) where
  parts_of : Quot a b
  parts_of = quots a b (omega ints)

  quotient : Holds (quot_z (at a) (at b)) (quot_z a b)
  quotient = quo (rd f) (rd g) (omega (ints, apart a, parts_of))

  remainder : Holds (rem_z (at a) (at b)) (rem_z a b)
  remainder = remains (rd f) (rd g) f

  pub one_less : lt_z (at (rem_z (at a) (at b))) (pos 0) ≡ true → Is (floor_q a b) (at (at (quot_z (at a) (at b)) -ℤ pos 1))
  one_less h =
      let t = quot_z a b in
      let e = pred_times t b in
      let x = rem_is a b in
      let y = remainder in
      let d : Holds (at (quot_z (at a) (at b)) -ℤ pos 1) (t -ℤ pos 1) = dif quotient.is (lit (pos 1)) (omega (ints, apart a, parts_of, minus t (pos 1))) in
      subst (Is (floor_q a b)) (sym d.is)
      (floor_found a b (t -ℤ pos 1) n (λ z. absurd (omega ints)) (omega (ints, apart b, parts_of, plus (t *ℤ b) (rem_z a b), minus (t *ℤ b) b, plus ((t -ℤ pos 1) *ℤ b) b)))

  pub as_divided : lt_z (at (rem_z (at a) (at b))) (pos 0) ≡ false → Is (floor_q a b) (at (quot_z (at a) (at b)))
  as_divided h =
      let t = quot_z a b in
      let x = rem_is a b in
      let y = remainder in
      subst (Is (floor_q a b)) (sym quotient.is)
      (floor_found a b t n (λ z. absurd (omega ints)) (omega (ints, apart b, parts_of, plus (t *ℤ b) (rem_z a b), plus (t *ℤ b) b)))

-- a near number turned by the machine
pub turn : (z : ℤ) → Near z → Holds (pos 0 -ℤ at z) (neg_ℤ z)
turn z h = made (ap (λ (x : ℤ). pos 0 -ℤ x) (rn z h) ∙ e) (let l = h in omega (nears, neg_positive z, neg_negative z))
  where
    e : pos 0 -ℤ z ≡ neg_ℤ z
    e = omega (ints, minus (pos 0) z, neg_positive z, neg_negative z)

-- a result that is read back
pub read : {z w r : ℤ} → Is w r → w ≡ z → Is z (at r)
read {z} {w} {r} i e = let k = rn r i.near in record { is = k ∙ i.is ∙ e; near = subst Near (sym k) i.near }

-- rounded up: what rounding down gave for the other sign, turned
pub turned : (a b : ℤ) {w r : ℤ} → Is w r → w ≡ floor_q (neg_ℤ a) b → Is (ceil_q a b) (at (pos 0 -ℤ at r))
unfolding ceil_q
turned a b {w} {r} i e =
    let t = (turn r i.near).is in
    let n = i.near in
    record { is = t ∙ ap neg_ℤ (i.is ∙ e); near = subst Near (sym t) (omega (ints, neg_positive r, neg_negative r)) }
