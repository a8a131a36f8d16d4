-- Quotients by two divisions: a quotient by a number above 0 grows with what is divided, and falls or grows with the divisor by the sign of what is divided; with both signs turned it is the same.
use mathlib.Core.Path.{◌≡◌, sym, ap, ap₂, subst, ◌∙◌}
use mathlib.Core.Logic.{◌⊎◌, inl, inr, ⊎_elim}
use mathlib.Core.Bool.{Bool, true, false}
use Prim.Native.Nat.{ℕ}
use lib.Dec.{T}
use lib.IntN.{ℤ, pos, negsuc, neg_ℤ, ◌*ℤ◌}
use lib.Signed.{lt_z, le_z, ◌≤ℤ◌, ◌<ℤ◌}
use Rattle.whole.specs.Numbers.{Near, min_z, max_z, min4, max4, floor_q, ceil_q}
use Rattle.whole.specs.Ranges.{range, holds_zero}
use Rattle.whole.specs.inner.Held.{Good}
use Rattle.whole.specs.declared.Range.{Range}
use Rattle.whole.proofs.Kit.{ints, times, cross, min_parts, max_parts, neg_positive, neg_negative, lt_or_le, *ℤ_mono}
use Rattle.whole.proofs.Division.{floor_under, ceiling_over}
use Rattle.whole.proofs.Quotients.{floor_from, floor_to, ceiling_from, ceiling_to, floor_mono, ceiling_mono, floor_turned, ceiling_turned}
use Rattle.whole.proofs.Spans.{ends_is}
use Rattle.problem.proofs.Tests.{by_bool}
use Rattle.narrow.specs.Cuts.{meet_of, stay, to}
use Rattle.narrow.specs.Narrowing.{quotient_span, quotient_cut}
use Rattle.narrow.specs.inner.Product.{Moving}

-- ---- a divisor above 0 and a larger one
module _ (z c d : ℤ) (k : pos 0 <ℤ c) (h : c ≤ℤ d) where
  ceiling_near : z ≤ℤ pos 0 → ceil_q z c ≤ℤ ceil_q z d
  ceiling_near n =
      let q = ceil_q z d in
      let p : pos 0 <ℤ d = omega ints in
      let o = ((ceiling_over z d).up p).0 in
      let s : q ≤ℤ pos 0 = ceiling_from (pos 0) d z p (omega (ints, times (pos 0) d)) in
      ceiling_from q c z k (omega (ints, times q c, times q d, cross q (pos 0) c d s h))

  ceiling_far : pos 0 ≤ℤ z → ceil_q z d ≤ℤ ceil_q z c
  ceiling_far n =
      let q = ceil_q z c in
      let o = ((ceiling_over z c).up k).0 in
      ⊎_elim
      (λ s. let m = *ℤ_mono q (negsuc 0) c (omega ints) (omega ints) in absurd (omega (ints, times (negsuc 0) c)))
      (λ s. ceiling_from q d z (omega ints) (omega (ints, times q c, times q d, cross (pos 0) q c d s h)))
      (lt_or_le q (pos 0))

  floor_near : pos 0 ≤ℤ z → floor_q z d ≤ℤ floor_q z c
  floor_near n =
      let q = floor_q z d in
      let p : pos 0 <ℤ d = omega ints in
      let o = ((floor_under z d).up p).0 in
      let s : pos 0 ≤ℤ q = floor_from (pos 0) d z p (omega (ints, times (pos 0) d)) in
      floor_from q c z k (omega (ints, times q c, times q d, cross (pos 0) q c d s h))

  floor_far : z ≤ℤ pos 0 → floor_q z c ≤ℤ floor_q z d
  floor_far n =
      let q = floor_q z c in
      let o = ((floor_under z c).up k).0 in
      ⊎_elim
      (λ s. let m = *ℤ_mono (pos 1) q c (omega ints) (omega ints) in absurd (omega (ints, times (pos 1) c)))
      (λ s. floor_from q d z (omega ints) (omega (ints, times q c, times q d, cross q (pos 0) c d s h)))
      (lt_or_le (pos 0) q)

-- ---- the end of y that gives the least of the four quotients, and the one that gives the greatest
pub data Least (z y : Range) (l : ℤ) : Type 0 where
  least_low : z.low <ℤ pos 0 → l ≡ y.low → Least z y l
  least_high : pos 0 ≤ℤ z.low → l ≡ y.high → Least z y l

pub data Greatest (z y : Range) (l : ℤ) : Type 0 where
  greatest_high : z.high <ℤ pos 0 → l ≡ y.high → Greatest z y l
  greatest_low : pos 0 ≤ℤ z.high → l ≡ y.low → Greatest z y l

least_1 : (a b c d : ℤ) → a ≤ℤ b → a ≤ℤ c → b ≤ℤ d → min4 a b c d ≡ a
least_1 a b c d h i j = omega (ints, min_parts a b, min_parts c d, min_parts (min_z a b) (min_z c d))

least_2 : (a b c d : ℤ) → b ≤ℤ a → a ≤ℤ c → b ≤ℤ d → min4 a b c d ≡ b
least_2 a b c d h i j = omega (ints, min_parts a b, min_parts c d, min_parts (min_z a b) (min_z c d))

greatest_3 : (a b c d : ℤ) → d ≤ℤ c → a ≤ℤ c → b ≤ℤ d → max4 a b c d ≡ c
greatest_3 a b c d h i j = omega (ints, max_parts a b, max_parts c d, max_parts (max_z a b) (max_z c d))

greatest_4 : (a b c d : ℤ) → c ≤ℤ d → a ≤ℤ c → b ≤ℤ d → max4 a b c d ≡ d
greatest_4 a b c d h i j = omega (ints, max_parts a b, max_parts c d, max_parts (max_z a b) (max_z c d))

module _ (z y : Range) (oz : z.low ≤ℤ z.high) (oy : y.low ≤ℤ y.high) (k : pos 0 <ℤ y.low) where
  k' : pos 0 <ℤ y.high
  k' = omega ints

  pub least_is : (l : ℤ) → Least z y l → ceil_q z.low l ≡ (quotient_span z y).low
  least_is l (least_low n e) =
      ap (ceil_q z.low) e
      ∙ sym (least_1 _ _ _ _ (ceiling_near z.low y.low y.high k oy (omega ints)) (ceiling_mono z.low z.high y.low k oz) (ceiling_mono z.low z.high y.high k' oz))
  least_is l (least_high n e) =
      ap (ceil_q z.low) e
      ∙ sym (least_2 _ _ _ _ (ceiling_far z.low y.low y.high k oy n) (ceiling_mono z.low z.high y.low k oz) (ceiling_mono z.low z.high y.high k' oz))

  pub greatest_is : (l : ℤ) → Greatest z y l → floor_q z.high l ≡ (quotient_span z y).high
  greatest_is l (greatest_high n e) =
      ap (floor_q z.high) e
      ∙ sym (greatest_4 _ _ _ _ (floor_far z.high y.low y.high k oy (omega ints)) (floor_mono z.low z.high y.low k oz) (floor_mono z.low z.high y.high k' oz))
  greatest_is l (greatest_low n e) =
      ap (floor_q z.high) e
      ∙ sym (greatest_3 _ _ _ _ (floor_near z.high y.low y.high k oy n) (floor_mono z.low z.high y.low k oz) (floor_mono z.low z.high y.high k' oz))

-- either is a divisor
pub record Divisor (l : ℤ) : Type 0 where
  pub near : Near l
  pub above : pos 0 <ℤ l

module _ (z y : Range) (g : Good y) (k : pos 0 <ℤ y.low) (l : ℤ) where
  pub least_divides : Least z y l → Divisor l
  least_divides (least_low n e) = let h = g.low in omega ints
  least_divides (least_high n e) = let h = g.high in let o = g.ordered in omega ints

  pub greatest_divides : Greatest z y l → Divisor l
  greatest_divides (greatest_high n e) = let h = g.high in let o = g.ordered in omega ints
  greatest_divides (greatest_low n e) = let h = g.low in omega ints

no : false ≡ true → ⊥
no e = subst T (sym e) tt

yes : true ≡ false → ⊥
yes e = subst T e tt

-- ---- whether an end of x moves: a product tells, for x is past a quotient exactly where x times the divisor is past what is divided
module _ (x z y : Range) (oz : z.low ≤ℤ z.high) (gy : Good y) (k : pos 0 <ℤ y.low) where
  pub moves_low : (l : ℤ) → Least z y l → lt_z (x.low *ℤ l) z.low ≡ true → Moving x z y true
  moves_low l p e =
      let d = (least_divides z y gy k l p).above in
      let i = least_is z y oz gy.ordered k l p in
      let up : x.low <ℤ (quotient_span z y).low = ⊎_elim (λ m. m) (λ m. let n = ceiling_to x.low l z.low d (omega ints) in absurd (omega ints)) (lt_or_le x.low (quotient_span z y).low) in
      record { above = λ _. k; moved = λ _. inl up; low = λ f. absurd (yes f); high = λ f. absurd (yes f) }

  pub moves_high : (l g : ℤ) → Least z y l → Greatest z y g → lt_z (x.low *ℤ l) z.low ≡ false → (r : Bool) → r ≡ lt_z z.high (x.high *ℤ g) → Moving x z y r
  moves_high l g p q e r f = record {
    above = λ _. k;
    moved = λ t. inr (⊎_elim (λ m. m) (λ m. let v = j in let u : lt_z z.high (x.high *ℤ g) ≡ true = sym f ∙ t in let n = floor_to x.high g z.high d (omega ints) in absurd (omega ints)) (lt_or_le (quotient_span z y).high x.high));
    low = λ t _. let v = i in let n = ceiling_from x.low l z.low c (omega ints) in omega ints;
    high = λ t _. let v = j in let u : lt_z z.high (x.high *ℤ g) ≡ false = sym f ∙ t in let n = floor_from x.high g z.high d (omega ints) in omega ints;
  }
    where
      c : pos 0 <ℤ l
      c = (least_divides z y gy k l p).above

      d : pos 0 <ℤ g
      d = (greatest_divides z y gy k g q).above

      i : ceil_q z.low l ≡ (quotient_span z y).low
      i = least_is z y oz gy.ordered k l p

      j : floor_q z.high g ≡ (quotient_span z y).high
      j = greatest_is z y oz gy.ordered k g q

-- of the ranges that were read
pub moves_read : {x x' z z' y y' : Range} {r : Bool} → x ≡ x' → z ≡ z' → y ≡ y' → Moving x z y r → Moving x' z' y' r
moves_read {x} {x'} {z} {z'} {y} {y'} {r} ex ez ey m = subst (λ (t : Range). Moving t z' y' r) ex (subst (λ (t : Range). Moving x t y' r) ez (subst (λ (t : Range). Moving x z t r) ey m))

-- an end that moves, of what x and the quotients have in common
pub moved_meets : (x s : Range) → (x.low <ℤ s.low) ⊎ (s.high <ℤ x.high) → (x.low <ℤ (meet_of x s).low) ⊎ ((meet_of x s).high <ℤ x.high)
moved_meets x s m = ⊎_elim (λ h. inl (omega (ints, max_parts x.low s.low))) (λ h. inr (omega (ints, min_parts x.high s.high))) m

pub moved_read : {o x n m : Range} → o ≡ x → n ≡ m → (x.low <ℤ m.low) ⊎ (m.high <ℤ x.high) → (o.low <ℤ n.low) ⊎ (n.high <ℤ o.high)
moved_read {o} {x} {n} {m} e f h = subst (λ (r : Range). (r.low <ℤ n.low) ⊎ (n.high <ℤ r.high)) (sym e) (subst (λ (r : Range). (x.low <ℤ r.low) ⊎ (r.high <ℤ x.high)) (sym f) h)

-- ---- both signs turned
abbrev pub turned : Range → Range
turned r = range (neg_ℤ r.high) (neg_ℤ r.low)

pub turned_good : (r : Range) → Good r → Good (turned r)
turned_good r g = let l = g.low in let h = g.high in let o = g.ordered in omega (ints, neg_positive r.low, neg_negative r.low, neg_positive r.high, neg_negative r.high)

pub turned_above : (r : Range) → r.high <ℤ pos 0 → pos 0 <ℤ (turned r).low
turned_above r h = omega (ints, neg_positive r.high, neg_negative r.high)

min_comm : (a b : ℤ) → min_z a b ≡ min_z b a
min_comm a b = omega (ints, min_parts a b, min_parts b a)

max_comm : (a b : ℤ) → max_z a b ≡ max_z b a
max_comm a b = omega (ints, max_parts a b, max_parts b a)

min4_turned : (a b c d : ℤ) → min4 d c b a ≡ min4 a b c d
min4_turned a b c d = ap₂ min_z (min_comm d c) (min_comm b a) ∙ min_comm (min_z c d) (min_z a b)

max4_turned : (a b c d : ℤ) → max4 d c b a ≡ max4 a b c d
max4_turned a b c d = ap₂ max_z (max_comm d c) (max_comm b a) ∙ max_comm (max_z c d) (max_z a b)

pub turned_span : (z y : Range) → y.low ≤ℤ y.high → y.high <ℤ pos 0 → quotient_span (turned z) (turned y) ≡ quotient_span z y
turned_span z y o h =
    ends_is
    (ap₂ min_z (ap₂ min_z (ceiling_turned z.high y.high n) (ceiling_turned z.high y.low m)) (ap₂ min_z (ceiling_turned z.low y.high n) (ceiling_turned z.low y.low m))
    ∙ min4_turned (ceil_q z.low y.low) (ceil_q z.low y.high) (ceil_q z.high y.low) (ceil_q z.high y.high))
    (ap₂ max_z (ap₂ max_z (floor_turned z.high y.high n) (floor_turned z.high y.low m)) (ap₂ max_z (floor_turned z.low y.high n) (floor_turned z.low y.low m))
    ∙ max4_turned (floor_q z.low y.low) (floor_q z.low y.high) (floor_q z.high y.low) (floor_q z.high y.high))
  where
    n : y.high ≡ pos 0 → ⊥
    n e = omega ints

    m : y.low ≡ pos 0 → ⊥
    m e = omega ints

-- the end of y below 0 that gives the least, and the one that gives the greatest
module _ (z y : Range) (gy : Good y) (h : y.high <ℤ pos 0) (l : ℤ) where
  apart_from : {a : ℤ} → pos 0 <ℤ neg_ℤ a → a ≡ pos 0 → ⊥
  apart_from {a} i e = omega (ints, neg_positive a, neg_negative a)

  pub least_below : Good z → Least (turned z) (turned y) (neg_ℤ l) → ceil_q z.high l ≡ (quotient_span z y).low
  least_below gz p =
      let d = (least_divides (turned z) (turned y) (turned_good y gy) (turned_above y h) (neg_ℤ l) p).above in
      sym (ceiling_turned z.high l (apart_from d))
      ∙ least_is (turned z) (turned y) (turned_good z gz).ordered (turned_good y gy).ordered (turned_above y h) (neg_ℤ l) p
      ∙ ap (λ (s : Range). s.low) (turned_span z y gy.ordered h)

  pub greatest_below : Good z → Greatest (turned z) (turned y) (neg_ℤ l) → floor_q z.low l ≡ (quotient_span z y).high
  greatest_below gz p =
      let d = (greatest_divides (turned z) (turned y) (turned_good y gy) (turned_above y h) (neg_ℤ l) p).above in
      sym (floor_turned z.low l (apart_from d))
      ∙ greatest_is (turned z) (turned y) (turned_good z gz).ordered (turned_good y gy).ordered (turned_above y h) (neg_ℤ l) p
      ∙ ap (λ (s : Range). s.high) (turned_span z y gy.ordered h)

-- ---- the step
pub quotient_stay : (x : ℕ) (z y : Range) → holds_zero y ≡ true → quotient_cut x z y ≡ stay
quotient_stay x z y e = rw e

pub quotient_to : (x : ℕ) (z y : Range) → holds_zero y ≡ false → quotient_cut x z y ≡ to x (quotient_span z y)
quotient_to x z y e = rw e

-- y is above 0, or below
pub no_zero_above : (y : Range) → pos 0 <ℤ y.low → holds_zero y ≡ false
no_zero_above y h = let e : le_z y.low (pos 0) ≡ false = omega ints in rw e

pub no_zero_below : (y : Range) → y.high <ℤ pos 0 → holds_zero y ≡ false
no_zero_below y h = let e : le_z (pos 0) y.high ≡ false = omega ints in by_bool (le_z y.low (pos 0)) (λ f. rw (f, e)) (λ f. rw f)
