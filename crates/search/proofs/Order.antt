-- The order of points: of two that differ, the first quantity in which they do decides, so that the smallest is one only.
use mathlib.Core.Path.{◌≡◌, refl, sym, ap}
use mathlib.Core.Logic.{⊎_elim, ◌⊎◌, inl, inr}
use mathlib.Core.Bool.{Bool, true, false}
use Prim.Native.Nat.{ℕ, zero, suc, ◌≤◌, ◌<◌}
use native.Mathlib.Omega.{arith}
use native.Mathlib.Decide.{ℕ_discrete, dec_lt}
use lib.Signed.{◌≤ℤ◌, lt_z}
use Rattle.whole.specs.Ranges.{Point}
use Rattle.whole.proofs.Kit.{ints}
use Rattle.problem.specs.Problem.{Problem, quantities, Satisfies}
use Rattle.problem.specs.Order.{Before, Alike}
use Rattle.search.specs.Demand2.{Smallest}

pub before_asym : {n : ℕ} {p p' : Point} → Before n p p' → Before n p' p → ⊥
before_asym {n} {p} {p'} x y = by (dec_lt x.place y.place) (dec_lt y.place x.place)
  where
    by : Dec (x.place < y.place) → Dec (y.place < x.place) → ⊥
    by (yes a) d = omega (ints, y.alike x.place a, x.less)
    by (no a) (yes c) = omega (ints, x.alike y.place c, y.less)
    by (no a) (no c) = let e : x.place ≡ y.place = omega arith in omega (ints, x.less, y.less, ap p e, ap p' e)

-- a point whose every value is at least that of another is not before it
pub above : {n : ℕ} {p p' : Point} → ((q : ℕ) → q < n → p' q ≤ℤ p q) → Before n p p' → ⊥
above f x = omega (ints, f x.place x.counted, x.less)

pub before_more : {d n : ℕ} {p p' : Point} → d ≤ n → Before d p p' → Before n p p'
before_more h x = record { place = x.place; counted = omega (arith, x.counted); alike = x.alike; less = x.less }

-- of two points that are not alike one comes before the other
pub alike_or_before : (n : ℕ) (p p' : Point) → Alike n p p' ⊎ (Before n p p' ⊎ Before n p' p)
alike_or_before zero p p' = inl (λ q h. absurd (omega arith))
alike_or_before (suc n) p p' =
    ⊎_elim (λ a. by a (lt_z (p n) (p' n)) refl (lt_z (p' n) (p n)) refl)
    (λ x. inr (⊎_elim (λ y. inl (before_more (omega arith) y)) (λ y. inr (before_more (omega arith) y)) x)) (alike_or_before n p p')
  where
    by : Alike n p p' → (s : Bool) → lt_z (p n) (p' n) ≡ s → (t : Bool) → lt_z (p' n) (p n) ≡ t → Alike (suc n) p p' ⊎ (Before (suc n) p p' ⊎ Before (suc n) p' p)
    by a true e t f = inr (inl (record { place = n; counted = omega arith; alike = a; less = omega ints }))
    by a false e true f = inr (inr (record { place = n; counted = omega arith; alike = λ q h. sym (a q h); less = omega ints }))
    by a false e false f = inl (λ q h. last q h (ℕ_discrete q n))
      where
        last : (q : ℕ) → q < suc n → Dec (q ≡ n) → p q ≡ p' q
        last q h (yes g) = rw g (omega ints)
        last q h (no g) = a q (omega arith)

-- the smallest point is alike or before every satisfying one, and there is one only
module _ {b : Problem} {p p' : Point} (s : Smallest b p) where
  pub smallest_is : Satisfies b p' → Alike (quantities b.ranges) p p' ⊎ Before (quantities b.ranges) p p'
  smallest_is sat = ⊎_elim inl (⊎_elim inr (λ x. absurd (s.first p' sat x))) (alike_or_before (quantities b.ranges) p p')

  pub smallest_once : Smallest b p' → Alike (quantities b.ranges) p p'
  smallest_once t = ⊎_elim (λ a. a) (λ x. absurd (t.first p s.satisfies x)) (smallest_is t.satisfies)
