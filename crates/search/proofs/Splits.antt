-- Parts of boxes, and a box cut in two at a quantity: only one end of one range is replaced, so each claim holds of the new range by the
-- middle's law, and of the others as before.
use mathlib.Core.Path.{◌≡◌, refl, ◌∙◌}
use mathlib.Core.Logic.{◌⊎◌, inl, inr}
use mathlib.Core.Bool.{Bool, true, false}
use Prim.Native.Nat.{ℕ, ◌+◌, ◌*◌, ◌≤◌, ◌<◌}
use native.Mathlib.Omega.{arith}
use native.Mathlib.Decide.{ℕ_discrete}
use lib.ListN.{set, length-set}
use lib.Seq.{get_or-set_same, get_or-set_other}
use lib.IntN.{ℤ, pos, ◌+ℤ◌}
use lib.Signed.{◌≤ℤ◌, ◌<ℤ◌, le_z}
use Rattle.whole.specs.Numbers.{positive_part, negative_part}
use Rattle.whole.specs.Ranges.{Point}
use Rattle.whole.proofs.Kit.{ints, plus}
use Rattle.whole.proofs.Meaning.{middle_is}
use Rattle.problem.specs.Problem.{Box, low_at, high_at, Inside}
use Rattle.problem.specs.Order.{Before}
use Rattle.narrow.specs.Parts.{Part}
use Rattle.search.specs.Search.{middle_at, lower_part, upper_part}

pub part_trans : {n : ℕ} {a b c : Box} → Part n a b → Part n b c → Part n a c
part_trans f g =
    record {
      long = g.long;
      low = λ q h. omega (ints, f.low q h, g.low q h);
      filled = g.filled;
      high = λ q h. omega (ints, f.high q h, g.high q h);
    }

pub part_self : {n : ℕ} {a b : Box} → Part n a b → Part n b b
part_self f = record { long = f.long; low = λ q h. omega ints; filled = f.filled; high = λ q h. omega ints }

pub in_part : {n : ℕ} {p : Point} {a b : Box} → Part n a b → Inside n p b → Inside n p a
in_part f i = record { each = λ q h. omega (ints, f.low q h, f.high q h, i.each q h) }

-- the low ends are a point of the box
pub lows_in : {n : ℕ} {a b : Box} → Part n a b → Inside n (low_at b) b
lows_in f = record { each = λ q h. omega (ints, f.filled q h) }

-- ---- one end of one range replaced
module _ {n : ℕ} {b : Box} (f : Part n b b) {q : ℕ} (less : q < n) (v : ℤ) where
  -- a claim about each range holds if it holds of the new range, and of the old ones
  pub high_each : (Q : ℕ → ℤ → ℤ → Type 0) → Q q (low_at b q) v → ((r : ℕ) → r < n → Q r (low_at b r) (high_at b r)) → (r : ℕ) → r < n → Q r (low_at (set b (2 * q + 1) v) r) (high_at (set b (2 * q + 1) v) r)
  high_each Q new old r g = rw (get_or-set_other b (2 * q + 1) (2 * r) v (pos 0) (omega arith)) (by (ℕ_discrete r q))
    where
      by : Dec (r ≡ q) → Q r (low_at b r) (high_at (set b (2 * q + 1) v) r)
      by (yes e) = rw (e, get_or-set_same b (2 * q + 1) v (pos 0) (omega (arith, f.long))) new
      by (no ne) = rw (get_or-set_other b (2 * q + 1) (2 * r + 1) v (pos 0) (omega arith)) (old r g)

  pub low_each : (Q : ℕ → ℤ → ℤ → Type 0) → Q q v (high_at b q) → ((r : ℕ) → r < n → Q r (low_at b r) (high_at b r)) → (r : ℕ) → r < n → Q r (low_at (set b (2 * q) v) r) (high_at (set b (2 * q) v) r)
  low_each Q new old r g = rw (get_or-set_other b (2 * q) (2 * r + 1) v (pos 0) (omega arith)) (by (ℕ_discrete r q))
    where
      by : Dec (r ≡ q) → Q r (low_at (set b (2 * q) v) r) (high_at b r)
      by (yes e) = rw (e, get_or-set_same b (2 * q) v (pos 0) (omega (arith, f.long))) new
      by (no ne) = rw (get_or-set_other b (2 * q) (2 * r) v (pos 0) (omega arith)) (old r g)

  pub high_part : low_at b q ≤ℤ v → v ≤ℤ high_at b q → Part n b (set b (2 * q + 1) v)
  high_part l h =
      let each = high_each (λ r x y. (low_at b r ≤ℤ x) × (x ≤ℤ y) × (y ≤ℤ high_at b r)) (omega ints) (λ r g. omega (ints, f.filled r g)) in
      record { long = length-set b (2 * q + 1) v ∙ f.long; low = λ r g. (each r g).0; filled = λ r g. (each r g).1; high = λ r g. (each r g).2 }

  pub low_part : low_at b q ≤ℤ v → v ≤ℤ high_at b q → Part n b (set b (2 * q) v)
  low_part l h =
      let each = low_each (λ r x y. (low_at b r ≤ℤ x) × (x ≤ℤ y) × (y ≤ℤ high_at b r)) (omega ints) (λ r g. omega (ints, f.filled r g)) in
      record { long = length-set b (2 * q) v ∙ f.long; low = λ r g. (each r g).0; filled = λ r g. (each r g).1; high = λ r g. (each r g).2 }

  in_high : (p : Point) → Inside n p b → p q ≤ℤ v → Inside n p (set b (2 * q + 1) v)
  in_high p i h = record { each = λ r g. let e = each r g in omega ints }
    where
      each : (r : ℕ) → r < n → (low_at (set b (2 * q + 1) v) r ≤ℤ p r) × (p r ≤ℤ high_at (set b (2 * q + 1) v) r)
      each = high_each (λ r x y. (x ≤ℤ p r) × (p r ≤ℤ y)) ((i.each q less).above, h) (λ r g. ((i.each r g).above, (i.each r g).below))

  in_low : (p : Point) → Inside n p b → v ≤ℤ p q → Inside n p (set b (2 * q) v)
  in_low p i h = record { each = λ r g. let e = each r g in omega ints }
    where
      each : (r : ℕ) → r < n → (low_at (set b (2 * q) v) r ≤ℤ p r) × (p r ≤ℤ high_at (set b (2 * q) v) r)
      each = low_each (λ r x y. (x ≤ℤ p r) × (p r ≤ℤ y)) (h, (i.each q less).below) (λ r g. ((i.each r g).above, (i.each r g).below))

-- ---- quantity q of b can be split
pub record Splits (n : ℕ) (b : Box) (q : ℕ) : Type 0 where
  pub self : Part n b b
  pub less : q < n
  pub wide : low_at b q <ℤ high_at b q

module _ {n : ℕ} {b : Box} {q : ℕ} (z : Splits n b q) where
  -- twice the middle is the sum or one less
  pub record Halved : Type 0 where
    pub up : 2 * positive_part (middle_at b q) + (negative_part (low_at b q) + negative_part (high_at b q)) ≤ positive_part (low_at b q) + positive_part (high_at b q) + 2 * negative_part (middle_at b q)
    pub down : positive_part (low_at b q) + positive_part (high_at b q) + 2 * negative_part (middle_at b q) ≤ 2 * positive_part (middle_at b q) + (negative_part (low_at b q) + negative_part (high_at b q)) + 1

  pub halved : Halved
  halved =
      let l = low_at b q in
      let h = high_at b q in
      let m = middle_at b q in
      omega (ints, middle_is l h, plus l h, plus m m, plus (m +ℤ m) (pos 2))

  pub lower_at : (low_at (lower_part b q) q ≡ low_at b q) × (high_at (lower_part b q) q ≡ middle_at b q)
  lower_at = (
    get_or-set_other b (2 * q + 1) (2 * q) (middle_at b q) (pos 0) (omega arith),
    get_or-set_same b (2 * q + 1) (middle_at b q) (pos 0) (omega (arith, z.self.long, z.less)),
  )

  pub upper_at : (low_at (upper_part b q) q ≡ middle_at b q +ℤ pos 1) × (high_at (upper_part b q) q ≡ high_at b q)
  upper_at = (
    get_or-set_same b (2 * q) (middle_at b q +ℤ pos 1) (pos 0) (omega (arith, z.self.long, z.less)),
    get_or-set_other b (2 * q) (2 * q + 1) (middle_at b q +ℤ pos 1) (pos 0) (omega arith),
  )

  pub lower_part_lem : Part n b (lower_part b q)
  lower_part_lem = high_part z.self z.less (middle_at b q) (omega (ints, z.wide, halved)) (omega (ints, z.wide, halved))

  pub upper_part_lem : Part n b (upper_part b q)
  upper_part_lem =
      low_part z.self z.less (middle_at b q +ℤ pos 1) (omega (ints, z.wide, halved, plus (middle_at b q) (pos 1)))
      (omega (ints, z.wide, halved, plus (middle_at b q) (pos 1)))

  -- a point of b is in one of the two, and those of the lower come first
  pub halves_all : (p : Point) → Inside n p b → Inside n p (lower_part b q) ⊎ Inside n p (upper_part b q)
  halves_all p i = by (le_z (p q) (middle_at b q)) refl
    where
      by : (t : Bool) → le_z (p q) (middle_at b q) ≡ t → Inside n p (lower_part b q) ⊎ Inside n p (upper_part b q)
      by true e = inl (in_high z.self z.less (middle_at b q) p i (omega ints))
      by false e = inr (in_low z.self z.less (middle_at b q +ℤ pos 1) p i (omega (ints, plus (middle_at b q) (pos 1))))

  pub halves_order : ((r : ℕ) → r < q → low_at b r ≡ high_at b r) → (p p' : Point) → Inside n p (lower_part b q) → Inside n p' (upper_part b q) → Before n p p'
  halves_order one p p' i j =
      let a = in_part lower_part_lem i in
      let c = in_part upper_part_lem j in
      record {
        place = q;
        counted = z.less;
        alike = λ r g. let k : r < n = omega (arith, z.less) in omega (ints, one r g, a.each r k, c.each r k);
        less = omega (ints, i.each q z.less, lower_at, j.each q z.less, upper_at, plus (middle_at b q) (pos 1));
      }
