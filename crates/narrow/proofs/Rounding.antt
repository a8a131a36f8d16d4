-- Rounding keeps the order of exact quotients, so the least of the four, rounded up, is the least of the four that were rounded up; and the greatest likewise.
use mathlib.Core.Path.{◌≡◌, sym, ap₂, subst, ◌∙◌}
use mathlib.Core.Logic.{◌⊎◌, inl, inr, ⊎_elim}
use mathlib.Core.Bool.{Bool, true, false}
use lib.IntN.{ℤ, pos, negsuc, ◌*ℤ◌}
use lib.Signed.{◌≤ℤ◌, ◌<ℤ◌}
use Rattle.whole.specs.Numbers.{min_z, max_z, floor_q, ceil_q}
use Rattle.whole.specs.Meaning.{Floor, Ceiling}
use Rattle.whole.specs.Ranges.{holds_zero}
use Rattle.whole.specs.declared.Range.{Range}
use Rattle.whole.proofs.Kit.{ints, plus, times, parts, v, ◌⊗◌, lt_or_le, min_parts, max_parts, *ℤ_mono, *ℤ_anti}
use Rattle.whole.proofs.Division.{past_up, past_down}
use Rattle.whole.proofs.Meaning.{floor_is, ceiling_is}
use Rattle.whole.proofs.Spans.{clear}
use Rattle.narrow.specs.Narrowing.{quotient_span}
use Rattle.narrow.specs.Quotients.{Quotient, quotient, NotAbove, OfEnds, low_low, low_high, high_low, high_high, Rounded}

-- ---- products
swap : (x y z : ℤ) → (x *ℤ y) *ℤ z ≡ (x *ℤ z) *ℤ y
swap x y z = omega (ints, parts ((v x ⊗ v y) ⊗ v z), parts ((v x ⊗ v z) ⊗ v y))

cancel_up : (x y d : ℤ) → pos 0 <ℤ d → (x *ℤ d) ≤ℤ (y *ℤ d) → x ≤ℤ y
cancel_up x y d k h = past_up (y *ℤ d) d y x k (omega (ints, plus (y *ℤ d) d)) h

cancel_down : (x y d : ℤ) → d <ℤ pos 0 → (y *ℤ d) ≤ℤ (x *ℤ d) → x ≤ℤ y
cancel_down x y d k h = past_down (y *ℤ d) d y x k (omega (ints, plus (y *ℤ d) d)) h

-- ---- exact quotients whose divisors are all above 0, or all below
abbrev Side : Bool → Quotient → Type 0
Side true a = pos 0 <ℤ a.by
Side false a = a.by <ℤ pos 0

abbrev Le : Quotient → Quotient → Type 0
Le a b = (a.of *ℤ b.by) ≤ℤ (b.of *ℤ a.by)

le_total : (a b : Quotient) → Le a b ⊎ Le b a
le_total a b = ⊎_elim (λ h. inl (omega ints)) inr (lt_or_le (a.of *ℤ b.by) (b.of *ℤ a.by))

le_trans : (s : Bool) (a b c : Quotient) → Side s a → Side s b → Side s c → Le a b → Le b c → Le a c
le_trans true a b c i j k g h =
    let p = *ℤ_mono (a.of *ℤ b.by) (b.of *ℤ a.by) c.by g (omega ints) in
    let q = *ℤ_mono (b.of *ℤ c.by) (c.of *ℤ b.by) a.by h (omega ints) in
    cancel_up (a.of *ℤ c.by) (c.of *ℤ a.by) b.by j (omega (ints, swap a.of b.by c.by, swap b.of a.by c.by, swap c.of b.by a.by))
le_trans false a b c i j k g h =
    let p = *ℤ_anti (a.of *ℤ b.by) (b.of *ℤ a.by) c.by g (omega ints) in
    let q = *ℤ_anti (b.of *ℤ c.by) (c.of *ℤ b.by) a.by h (omega ints) in
    cancel_down (a.of *ℤ c.by) (c.of *ℤ a.by) b.by j (omega (ints, swap a.of b.by c.by, swap b.of a.by c.by, swap c.of b.by a.by))

-- the cross products say it, as the divisors have the same sign
one_sign : (s : Bool) (a b : Quotient) → Side s a → Side s b → pos 0 <ℤ (a.by *ℤ b.by)
one_sign true a b i j = let p = *ℤ_mono (pos 1) a.by b.by (omega ints) (omega ints) in omega (ints, times (pos 1) b.by)
one_sign false a b i j = let p = *ℤ_anti a.by (negsuc 0) b.by (omega ints) (omega ints) in omega (ints, times (negsuc 0) b.by)

not_above : (s : Bool) (a b : Quotient) → Side s a → Side s b → Le a b → NotAbove a b
not_above s a b i j h = record { same = λ k. h; other = λ k. let p = one_sign s a b i j in absurd (omega ints) }

-- ---- rounding keeps the order
abbrev ceil : Quotient → ℤ
ceil a = ceil_q a.of a.by

abbrev floor : Quotient → ℤ
floor a = floor_q a.of a.by

ceil_mono : (s : Bool) (a b : Quotient) → Side s a → Side s b → Le a b → ceil a ≤ℤ ceil b
ceil_mono true a b i j h =
    let r = ceil_q b.of b.by in
    let p = *ℤ_mono b.of (r *ℤ b.by) a.by ((ceiling_is b.of b.by (λ e. omega ints)).above.up j) (omega ints) in
    let q = cancel_up a.of (r *ℤ a.by) b.by j (omega (ints, swap r b.by a.by)) in
    (ceiling_is a.of a.by (λ e. omega ints)).least r (record { up = λ k. q; down = λ k. absurd (omega ints) })
ceil_mono false a b i j h =
    let r = ceil_q b.of b.by in
    let p = *ℤ_anti (r *ℤ b.by) b.of a.by ((ceiling_is b.of b.by (λ e. omega ints)).above.down j) (omega ints) in
    let q = cancel_down (r *ℤ a.by) a.of b.by j (omega (ints, swap r b.by a.by)) in
    (ceiling_is a.of a.by (λ e. omega ints)).least r (record { up = λ k. absurd (omega ints); down = λ k. q })

floor_mono : (s : Bool) (a b : Quotient) → Side s a → Side s b → Le a b → floor a ≤ℤ floor b
floor_mono true a b i j h =
    let r = floor_q a.of a.by in
    let p = *ℤ_mono (r *ℤ a.by) a.of b.by ((floor_is a.of a.by (λ e. omega ints)).below.up i) (omega ints) in
    let q = cancel_up (r *ℤ b.by) b.of a.by i (omega (ints, swap r a.by b.by)) in
    (floor_is b.of b.by (λ e. omega ints)).most r (record { up = λ k. q; down = λ k. absurd (omega ints) })
floor_mono false a b i j h =
    let r = floor_q a.of a.by in
    let p = *ℤ_anti a.of (r *ℤ a.by) b.by ((floor_is a.of a.by (λ e. omega ints)).below.down i) (omega ints) in
    let q = cancel_down b.of (r *ℤ b.by) a.by i (omega (ints, swap r a.by b.by)) in
    (floor_is b.of b.by (λ e. omega ints)).most r (record { up = λ k. absurd (omega ints); down = λ k. q })

-- ---- the best of four quotients, and of what they are rounded to
-- an order of the quotients on one side, which f keeps: op takes the better of two
record Ranking (S : Quotient → Type 0) (le : Quotient → Quotient → Type 0) (f : Quotient → ℤ) (op : ℤ → ℤ → ℤ) : Type 0 where
  total : (a b : Quotient) → le a b ⊎ le b a
  trans : (a b c : Quotient) → S a → S b → S c → le a b → le b c → le a c
  left : (a b : Quotient) → S a → S b → le a b → op (f a) (f b) ≡ f a
  right : (a b : Quotient) → S a → S b → le b a → op (f a) (f b) ≡ f b

module _ {S : Quotient → Type 0} {le : Quotient → Quotient → Type 0} {f : Quotient → ℤ} {op : ℤ → ℤ → ℤ} (r : Ranking S le f op) where
  record Best (P : Quotient → Type 0) (a b : Quotient) : Type 0 where
    best : Quotient
    has : P best
    side : S best
    first : le best a
    second : le best b
    is : op (f a) (f b) ≡ f best

  best_of : (P : Quotient → Type 0) (a b : Quotient) → P a → P b → S a → S b → Best P a b
  best_of P a b p q s t =
      ⊎_elim
      (λ h. record { best = a; has = p; side = s; first = same a; second = h; is = r.left a b s t h })
      (λ h. record { best = b; has = q; side = t; first = h; second = same b; is = r.right a b s t h })
      (r.total a b)
    where
      same : (a : Quotient) → le a a
      same a = ⊎_elim (λ h. h) (λ h. h) (r.total a a)

  record BestOfEnds (Z Y : Range) : Type 0 where
    best : Quotient
    one : OfEnds Z Y best
    side : S best
    each : (b : Quotient) → OfEnds Z Y b → S b × le best b
    is : op (op (f (quotient Z.low Y.low)) (f (quotient Z.low Y.high))) (op (f (quotient Z.high Y.low)) (f (quotient Z.high Y.high))) ≡ f best

  best_of_ends : (Z Y : Range) → ((z : ℤ) → S (quotient z Y.low)) → ((z : ℤ) → S (quotient z Y.high)) → BestOfEnds Z Y
  best_of_ends Z Y l h =
      let m = best_of (OfEnds Z Y) (quotient Z.low Y.low) (quotient Z.low Y.high) low_low low_high (l Z.low) (h Z.low) in
      let n = best_of (OfEnds Z Y) (quotient Z.high Y.low) (quotient Z.high Y.high) high_low high_high (l Z.high) (h Z.high) in
      let k = best_of (OfEnds Z Y) m.best n.best m.has n.has m.side n.side in
      record { best = k.best; one = k.has; side = k.side; each = all m n k; is = ap₂ op m.is n.is ∙ k.is }
    where
      all : (m : Best (OfEnds Z Y) (quotient Z.low Y.low) (quotient Z.low Y.high)) (n : Best (OfEnds Z Y) (quotient Z.high Y.low) (quotient Z.high Y.high))
          (k : Best (OfEnds Z Y) m.best n.best) (b : Quotient) → OfEnds Z Y b → S b × le k.best b
      all m n k b low_low = (l Z.low, r.trans k.best m.best b k.side m.side (l Z.low) k.first m.first)
      all m n k b low_high = (h Z.low, r.trans k.best m.best b k.side m.side (h Z.low) k.first m.second)
      all m n k b high_low = (l Z.high, r.trans k.best n.best b k.side n.side (l Z.high) k.second n.first)
      all m n k b high_high = (h Z.high, r.trans k.best n.best b k.side n.side (h Z.high) k.second n.second)

-- ---- on one side of 0
least_first : (s : Bool) → Ranking (Side s) Le ceil min_z
least_first s = record {
  total = le_total;
  trans = le_trans s;
  left = λ a b i j h. let m = ceil_mono s a b i j h in omega (ints, min_parts (ceil a) (ceil b));
  right = λ a b i j h. let m = ceil_mono s b a j i h in omega (ints, min_parts (ceil a) (ceil b));
}

greatest_first : (s : Bool) → Ranking (Side s) (λ a b. Le b a) floor max_z
greatest_first s = record {
  total = λ a b. le_total b a;
  trans = λ a b c i j k g h. le_trans s c b a k j i h g;
  left = λ a b i j h. let m = floor_mono s b a j i h in omega (ints, max_parts (floor a) (floor b));
  right = λ a b i j h. let m = floor_mono s a b i j h in omega (ints, max_parts (floor a) (floor b));
}

-- a divisor on a side is not 0
some : (s : Bool) (a : Quotient) → Side s a → a.by ≡ pos 0 → ⊥
some true a h e = omega ints
some false a h e = omega ints

on_side : (s : Bool) (Z Y : Range) → ((z : ℤ) → Side s (quotient z Y.low)) → ((z : ℤ) → Side s (quotient z Y.high)) → Rounded Z Y (quotient_span Z Y)
on_side s Z Y l h =
    let a = best_of_ends (least_first s) Z Y l h in
    let b = best_of_ends (greatest_first s) Z Y l h in
    record {
      least = a.best;
      is_least = record { one = a.one; least = λ c o. let e = a.each c o in not_above s a.best c a.side e.0 e.1 };
      low = subst (Ceiling a.best.of a.best.by) (sym a.is) (ceiling_is a.best.of a.best.by (some s a.best a.side));
      greatest = b.best;
      is_greatest = record { one = b.one; greatest = λ c o. let e = b.each c o in not_above s c b.best e.0 b.side e.1 };
      high = subst (Floor b.best.of b.best.by) (sym b.is) (floor_is b.best.of b.best.by (some s b.best b.side));
    }

pub rounded : (Z Y : Range) → Y.low ≤ℤ Y.high → holds_zero Y ≡ false → Rounded Z Y (quotient_span Z Y)
rounded Z Y o e = ⊎_elim (λ k. on_side true Z Y (λ z. k) (λ z. omega ints)) (λ k. on_side false Z Y (λ z. omega ints) (λ z. k)) (clear Y e)
