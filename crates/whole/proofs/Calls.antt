-- What the machine holds is what the definitions say: near numbers are read back as themselves, and holding goes through the least and the greatest.
use mathlib.Core.Path.{◌≡◌, sym, ap, ap₂, ◌∙◌}
use mathlib.Core.Bool.{Bool, true, false, cond}
use Prim.Native.Nat.{◌<◌, ◌^◌}
use lib.IntN.{ℤ, pos, ◌*ℤ◌}
use lib.Signed.{mag}
use Rattle.whole.specs.Numbers.{Near, min_z, max_z, min4, max4}
use Rattle.whole.specs.Ranges.{holds_zero, product_span, square_span}
use Rattle.whole.specs.inner.Held.{held, held_span}
use Rattle.whole.specs.declared.Range.{Range}
use Rattle.whole.proofs.Kit.{ints, at, got, rn, call2}
use Rattle.whole.proofs.Held.{held_near, held_min, held_max, held_min4, held_max4}

pub times_is : (a b r : ℤ) → Near a → Near b → mag r < 2 ^ 63 → r ≡ held (at a *ℤ at b) → at r ≡ held (a *ℤ b)
times_is a b r h k m e = call2 (λ (x y : ℤ). held (x *ℤ y)) r m e (rn a h) (rn b k)

-- ---- the four end products
module _ (x y : Range) {p q r s : ℤ} (ep : p ≡ held (x.low *ℤ y.low)) (eq : q ≡ held (x.low *ℤ y.high)) (er : r ≡ held (x.high *ℤ y.low)) (es : s ≡ held (x.high *ℤ y.high)) where
  pub product_low : (l : ℤ) → mag l < 2 ^ 63 → l ≡ min4 p q r s → at l ≡ (held_span (product_span x y)).low
  product_low l m e =
      got l m ∙ e ∙ ap₂ min_z (ap₂ min_z ep eq) (ap₂ min_z er es)
      ∙ held_min4 (x.low *ℤ y.low) (x.low *ℤ y.high) (x.high *ℤ y.low) (x.high *ℤ y.high)

  pub product_high : (h : ℤ) → mag h < 2 ^ 63 → h ≡ max4 p q r s → at h ≡ (held_span (product_span x y)).high
  product_high h m e =
      got h m ∙ e ∙ ap₂ max_z (ap₂ max_z ep eq) (ap₂ max_z er es)
      ∙ held_max4 (x.low *ℤ y.low) (x.low *ℤ y.high) (x.high *ℤ y.low) (x.high *ℤ y.high)

-- ---- the two end squares
module _ (x : Range) {p q : ℤ} (ep : p ≡ held (x.low *ℤ x.low)) (eq : q ≡ held (x.high *ℤ x.high)) where
  pub square_high : (h : ℤ) → mag h < 2 ^ 63 → h ≡ max_z p q → at h ≡ (held_span (square_span x)).high
  square_high h m e = got h m ∙ e ∙ ap₂ max_z ep eq ∙ held_max (x.low *ℤ x.low) (x.high *ℤ x.high)

  pub square_low : (l : ℤ) → mag l < 2 ^ 63 → l ≡ min_z p q → holds_zero x ≡ false → at l ≡ (held_span (square_span x)).low
  square_low l m e t =
      got l m ∙ e ∙ ap₂ min_z ep eq ∙ held_min (x.low *ℤ x.low) (x.high *ℤ x.high)
      ∙ ap (λ (b : Bool). held (cond b (pos 0) (min_z (x.low *ℤ x.low) (x.high *ℤ x.high)))) (sym t)

pub square_zero : (x : Range) → holds_zero x ≡ true → pos 0 ≡ (held_span (square_span x)).low
square_zero x t =
    sym (held_near (pos 0) (omega ints))
    ∙ ap (λ (b : Bool). held (cond b (pos 0) (min_z (x.low *ℤ x.low) (x.high *ℤ x.high)))) (sym t)
