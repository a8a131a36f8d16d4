-- The spans of two ranges hold what their values give: sums and products keep the order, turned where a factor is below 0, so the ends give the extremes.
use mathlib.Core.Path.{◌≡◌, refl, sym, ap, ap₂, subst}
use mathlib.Core.Logic.{◌⊎◌, inl, inr, ⊎_elim}
use mathlib.Core.Bool.{Bool, true, false, cond, ◌&&◌}
use Prim.Native.Nat.{◌+◌, ◌≤◌}
use lib.Dec.{T}
use lib.IntN.{ℤ, pos, ◌+ℤ◌, ◌-ℤ◌, ◌*ℤ◌}
use lib.Signed.{le_z, ◌≤ℤ◌, ◌<ℤ◌}
use Rattle.whole.specs.Numbers.{positive_part, negative_part, min_z, max_z, min4, max4}
use Rattle.whole.specs.Ranges.{range, In, values, holds_zero, sum_span, difference_span, product_span, square_span}
use Rattle.whole.specs.inner.Held.{Good}
use Rattle.whole.specs.declared.Range.{Range}
use Rattle.whole.proofs.Kit.{ints, apart, plus, minus, times, cross, sign, square_negative, min_parts, max_parts, prod_low, prod_high}

-- two ranges are one where their ends are
pub ends_is : {a b c d : ℤ} → a ≡ c → b ≡ d → range a b ≡ range c d
ends_is e f = ap₂ range e f

-- a range that holds a value is in order
pub in_ordered : {r : Range} {v : ℤ} → In r v → r.low ≤ℤ r.high
in_ordered {r} {v} i = omega ints

low_in : {r : Range} → r.low ≤ℤ r.high → In r r.low
low_in {r} h = omega ints

-- ---- sums and differences
pub sum_in : (x y : Range) (u v : ℤ) → In x u → In y v → In (sum_span x y) (u +ℤ v)
sum_in x y u v h k = omega (ints, plus x.low y.low, plus x.high y.high, plus u v)

pub difference_in : (x y : Range) (u v : ℤ) → In x u → In y v → In (difference_span x y) (u -ℤ v)
difference_in x y u v h k = omega (ints, minus x.low y.high, minus x.high y.low, minus u v)

-- ---- products
-- the least and the greatest of four, against each of them
pub record Least (m a b c d : ℤ) : Type 0 where
  pub one : m ≤ℤ a
  pub two : m ≤ℤ b
  pub three : m ≤ℤ c
  pub four : m ≤ℤ d

pub least_of : (a b c d : ℤ) → Least (min4 a b c d) a b c d
least_of a b c d = omega (ints, min_parts a b, min_parts c d, min_parts (min_z a b) (min_z c d))

pub record Most (m a b c d : ℤ) : Type 0 where
  pub one : a ≤ℤ m
  pub two : b ≤ℤ m
  pub three : c ≤ℤ m
  pub four : d ≤ℤ m

pub most_of : (a b c d : ℤ) → Most (max4 a b c d) a b c d
most_of a b c d = omega (ints, max_parts a b, max_parts c d, max_parts (max_z a b) (max_z c d))

pub product_in : (x y : Range) (u v : ℤ) → In x u → In y v → In (product_span x y) (u *ℤ v)
product_in x y u v h k =
    let l = least_of (x.low *ℤ y.low) (x.low *ℤ y.high) (x.high *ℤ y.low) (x.high *ℤ y.high) in
    let m = most_of (x.low *ℤ y.low) (x.low *ℤ y.high) (x.high *ℤ y.low) (x.high *ℤ y.high) in
    record {
      above = prod_low x.low x.high y.low y.high u v (product_span x y).low h.above h.below k.above k.below l.one l.two l.three l.four;
      below = prod_high x.low x.high y.low y.high u v (product_span x y).high h.above h.below k.above k.below m.one m.two m.three m.four;
    }

least_first : (a b c d : ℤ) → a ≤ℤ b → a ≤ℤ c → a ≤ℤ d → min4 a b c d ≡ a
least_first a b c d h i j = omega (ints, min_parts a b, min_parts c d, min_parts (min_z a b) (min_z c d))

most_last : (a b c d : ℤ) → a ≤ℤ d → b ≤ℤ d → c ≤ℤ d → max4 a b c d ≡ d
most_last a b c d h i j = omega (ints, max_parts a b, max_parts c d, max_parts (max_z a b) (max_z c d))

-- factors that are not below 0
product_up : (a b c d : ℤ) → pos 0 ≤ℤ a → a ≤ℤ b → pos 0 ≤ℤ c → c ≤ℤ d → (a *ℤ c) ≤ℤ (b *ℤ d)
product_up a b c d h i j k =
    let l : pos 0 ≤ℤ b = omega ints in
    omega (ints, times a c, times b d, cross a b (pos 0) c i j, cross c d (pos 0) b k l)

pub product_above_lem : (x y : Range) → pos 0 ≤ℤ x.low → pos 0 ≤ℤ y.low → x.low ≤ℤ x.high → y.low ≤ℤ y.high → product_span x y ≡ range (x.low *ℤ y.low) (x.high *ℤ y.high)
product_above_lem x y h k i j =
    let a = x.low in
    let b = x.high in
    let c = y.low in
    let d = y.high in
    let r : a ≤ℤ a = omega ints in
    let s : b ≤ℤ b = omega ints in
    let t : c ≤ℤ c = omega ints in
    let w : d ≤ℤ d = omega ints in
    let h' : pos 0 ≤ℤ b = omega ints in
    let k' : pos 0 ≤ℤ d = omega ints in
    ends_is
    (least_first (a *ℤ c) (a *ℤ d) (b *ℤ c) (b *ℤ d) (product_up a a c d h r k j) (product_up a b c c h i k t) (product_up a b c d h i k j))
    (most_last (a *ℤ c) (a *ℤ d) (b *ℤ c) (b *ℤ d) (product_up a b c d h i k j) (product_up a b d d h i k' w) (product_up b b c d h' s k j))

-- ---- squares
square_up : (a b u : ℤ) → a ≤ℤ u → u ≤ℤ b → (u *ℤ u) ≤ℤ max_z (a *ℤ a) (b *ℤ b)
square_up a b u h k =
    ⊎_elim
    (λ s. let t : pos 0 ≤ℤ b = omega ints in omega (ints, times u u, times b b, cross u b (pos 0) u k s, cross u b (pos 0) b k t, max_parts (a *ℤ a) (b *ℤ b)))
    (λ s. let t : a ≤ℤ pos 0 = omega ints in omega (ints, times u u, times a a, cross a u u (pos 0) h s, cross a u a (pos 0) h t, max_parts (a *ℤ a) (b *ℤ b)))
    (sign u)

square_down : (a b u : ℤ) → a ≤ℤ u → u ≤ℤ b → (pos 0 <ℤ a) ⊎ (b <ℤ pos 0) → min_z (a *ℤ a) (b *ℤ b) ≤ℤ (u *ℤ u)
square_down a b u h k (inl s) =
    let t : pos 0 ≤ℤ a = omega ints in
    let w : pos 0 ≤ℤ u = omega ints in
    omega (ints, times u u, times a a, cross a u (pos 0) u h w, cross a u (pos 0) a h t, min_parts (a *ℤ a) (b *ℤ b))
square_down a b u h k (inr s) =
    let t : b ≤ℤ pos 0 = omega ints in
    let w : u ≤ℤ pos 0 = omega ints in
    omega (ints, times u u, times b b, cross u b u (pos 0) k w, cross u b b (pos 0) k t, min_parts (a *ℤ a) (b *ℤ b))

-- a range that does not hold 0 lies on one side of it
pub clear : (r : Range) → holds_zero r ≡ false → (pos 0 <ℤ r.low) ⊎ (r.high <ℤ pos 0)
clear r e = go (le_z r.low (pos 0)) refl e
  where
    go : (t : Bool) → le_z r.low (pos 0) ≡ t → (t && le_z (pos 0) r.high) ≡ false → (pos 0 <ℤ r.low) ⊎ (r.high <ℤ pos 0)
    go true h k = inr (omega ints)
    go false h k = inl (omega ints)

pub square_in : (x : Range) (u : ℤ) → In x u → In (square_span x) (u *ℤ u)
square_in x u i = go (holds_zero x) refl
  where
    go : (t : Bool) → holds_zero x ≡ t → In (range (cond t (pos 0) (min_z (x.low *ℤ x.low) (x.high *ℤ x.high))) (max_z (x.low *ℤ x.low) (x.high *ℤ x.high))) (u *ℤ u)
    go true f = let m = square_up x.low x.high u i.above i.below in record { above = omega (ints, square_negative u); below = m }
    go false f = record { above = square_down x.low x.high u i.above i.below (clear x f); below = square_up x.low x.high u i.above i.below }

-- ---- spans of ranges in order are in order
module _ (x y : Range) (h : x.low ≤ℤ x.high) (k : y.low ≤ℤ y.high) where
  pub sum_ordered : (sum_span x y).low ≤ℤ (sum_span x y).high
  sum_ordered = in_ordered (sum_in x y x.low y.low (low_in h) (low_in k))

  pub difference_ordered : (difference_span x y).low ≤ℤ (difference_span x y).high
  difference_ordered = in_ordered (difference_in x y x.low y.low (low_in h) (low_in k))

  pub product_ordered : (product_span x y).low ≤ℤ (product_span x y).high
  product_ordered = in_ordered (product_in x y x.low y.low (low_in h) (low_in k))

pub square_ordered : (x : Range) → x.low ≤ℤ x.high → (square_span x).low ≤ℤ (square_span x).high
square_ordered x h = in_ordered (square_in x x.low (low_in h))

-- ---- spans of one value are one value
pub sum_one : (u v : ℤ) → sum_span (range u u) (range v v) ≡ range (u +ℤ v) (u +ℤ v)
sum_one u v = refl

least_one : (a : ℤ) → min4 a a a a ≡ a
least_one a = omega (ints, min_parts a a, min_parts (min_z a a) (min_z a a))

most_one : (a : ℤ) → max4 a a a a ≡ a
most_one a = omega (ints, max_parts a a, max_parts (max_z a a) (max_z a a))

pub product_one : (u v : ℤ) → product_span (range u u) (range v v) ≡ range (u *ℤ v) (u *ℤ v)
product_one u v = ends_is (least_one (u *ℤ v)) (most_one (u *ℤ v))

pub square_one : (u : ℤ) → square_span (range u u) ≡ range (u *ℤ u) (u *ℤ u)
square_one u = ends_is (go (holds_zero (range u u)) refl) (omega (ints, max_parts (u *ℤ u) (u *ℤ u)))
  where
    ends : (t : Bool) → le_z u (pos 0) ≡ t → (t && le_z (pos 0) u) ≡ true → pos 0 ≡ u *ℤ u
    ends true h k = let z : u ≡ pos 0 = omega ints in sym (ap (λ (x : ℤ). x *ℤ x) z)
    ends false h k = absurd (subst T (sym k) tt)

    zero_square : holds_zero (range u u) ≡ true → pos 0 ≡ u *ℤ u
    zero_square e = ends (le_z u (pos 0)) refl e

    go : (t : Bool) → holds_zero (range u u) ≡ t → cond t (pos 0) (min_z (u *ℤ u) (u *ℤ u)) ≡ u *ℤ u
    go true e = zero_square e
    go false e = omega (ints, min_parts (u *ℤ u) (u *ℤ u))

-- ---- how many values a range has
pub values_is : (r : Range) → r.low ≤ℤ r.high → values r + (positive_part r.low + negative_part r.high) ≡ positive_part r.high + negative_part r.low + 1
values_is r h =
    omega (ints, minus r.high r.low, plus (r.high -ℤ r.low) (pos 1), apart (r.high -ℤ r.low +ℤ pos 1))

-- one more than the ends are apart, which is at most 2M
pub values_next : (r : Range) → r.low ≤ℤ r.high → values r ≡ positive_part (r.high -ℤ r.low) + 1
values_next r h = omega (ints, values_is r h, minus r.high r.low, apart (r.high -ℤ r.low))

pub ends_apart : (r : Range) → Good r → positive_part (r.high -ℤ r.low) ≤ 2_000_000_000_000
ends_apart r g = omega (ints, minus r.high r.low, apart (r.high -ℤ r.low))
