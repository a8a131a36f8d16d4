-- A quotient's span: u * v moves between u times the ends of v's range, so one of the four rounded quotients of the ends is past u on each side.
use mathlib.Core.Path.{◌≡◌}
use mathlib.Core.Logic.{◌⊎◌, inl, inr, ⊎_elim}
use mathlib.Core.Bool.{false}
use lib.IntN.{ℤ, pos, ◌*ℤ◌}
use lib.Signed.{◌≤ℤ◌, ◌<ℤ◌}
use Rattle.whole.proofs.Kit.{ints, times, cross, sign}
use Rattle.whole.proofs.Meaning.{floor_is, ceiling_is}
use Rattle.whole.proofs.Spans.{Least, least_of, Most, most_of, clear}
use Rattle.whole.specs.Numbers.{floor_q, ceil_q}
use Rattle.whole.specs.Ranges.{In, holds_zero}
use Rattle.whole.specs.declared.Range.{Range}
use Rattle.narrow.specs.Narrowing.{quotient_span}

-- u * v runs between u * c and u * d, one way or the other
data Run (u c v d : ℤ) : Type 0 where
  rising : (u *ℤ c) ≤ℤ (u *ℤ v) → (u *ℤ v) ≤ℤ (u *ℤ d) → Run u c v d
  falling : (u *ℤ d) ≤ℤ (u *ℤ v) → (u *ℤ v) ≤ℤ (u *ℤ c) → Run u c v d

run : (u c v d : ℤ) → c ≤ℤ v → v ≤ℤ d → Run u c v d
run u c v d h k =
    ⊎_elim
    (λ s. rising (omega (ints, times u c, times u v, cross c v (pos 0) u h s)) (omega (ints, times u v, times u d, cross v d (pos 0) u k s)))
    (λ s. falling (omega (ints, times u d, times u v, cross v d u (pos 0) k s)) (omega (ints, times u v, times u c, cross c v u (pos 0) h s)))
    (sign u)

pub quotient_in : (z y : Range) (w u v : ℤ) → holds_zero y ≡ false → In z w → In y v → w ≡ u *ℤ v → In (quotient_span z y) u
quotient_in z y w u v f h k e = go (clear y f) (run u c v d k.above k.below)
  where
    a : ℤ
    a = z.low

    b : ℤ
    b = z.high

    c : ℤ
    c = y.low

    d : ℤ
    d = y.high

    l : Least (quotient_span z y).low (ceil_q a c) (ceil_q a d) (ceil_q b c) (ceil_q b d)
    l = least_of (ceil_q a c) (ceil_q a d) (ceil_q b c) (ceil_q b d)

    m : Most (quotient_span z y).high (floor_q a c) (floor_q a d) (floor_q b c) (floor_q b d)
    m = most_of (floor_q a c) (floor_q a d) (floor_q b c) (floor_q b d)

    go : (pos 0 <ℤ c) ⊎ (d <ℤ pos 0) → Run u c v d → In (quotient_span z y) u
    go (inl s) (rising p q) = let i = (ceiling_is a d (λ j. omega ints)).least u (omega ints) in let j = (floor_is b c (λ j. omega ints)).most u (omega ints) in omega (ints, l, m)
    go (inl s) (falling p q) = let i = (ceiling_is a c (λ j. omega ints)).least u (omega ints) in let j = (floor_is b d (λ j. omega ints)).most u (omega ints) in omega (ints, l, m)
    go (inr s) (rising p q) = let i = (ceiling_is b c (λ j. omega ints)).least u (omega ints) in let j = (floor_is a d (λ j. omega ints)).most u (omega ints) in omega (ints, l, m)
    go (inr s) (falling p q) = let i = (ceiling_is b d (λ j. omega ints)).least u (omega ints) in let j = (floor_is a c (λ j. omega ints)).most u (omega ints) in omega (ints, l, m)
