-- The computed definitions are what Meaning.antt of specs/ says of them, and it says it of no other number.
use mathlib.Core.Path.{◌≡◌, refl}
use mathlib.Core.Logic.{⊎_elim}
use mathlib.Core.Bool.{Bool, true, false, cond}
use Prim.Native.Nat.{ℕ, ◌+◌}
use native.Mathlib.Omega.{arith}
use lib.IntN.{ℤ, pos, negsuc, ◌+ℤ◌, ◌*ℤ◌}
use lib.Signed.{le_z, ◌≤ℤ◌, ◌<ℤ◌}
use Rattle.whole.specs.Numbers.{M, minus_m, Near, min_z, floor_q, ceil_q, middle_of, root_in, root_down, root_up, least_power}
use Rattle.whole.specs.Meaning.{Floor, Ceiling, Middle, RootDown, RootUp, LeastPower}
use Rattle.whole.specs.inner.Held.{held}
use Rattle.whole.proofs.Kit.{ints, plus, times, side, min_parts, max_parts, root_ltℤ, root_leℤ}
use Rattle.whole.proofs.Division.{Under, Over, past_up, past_down, short_up, short_down, floor_under, ceiling_over}
use Rattle.whole.proofs.Digits.{rooted}
use Rattle.whole.proofs.Doubling.{enough_from, least_from_lem, below_pow}

-- ---- quotients
-- each is told by one step
pub floor_of : (a b q : ℤ) → (b ≡ pos 0 → ⊥) → Under a b q → Floor a b q
floor_of a b q n u = record {
  below = record { up = λ k. (u.up k).0; down = λ k. (u.down k).0 };
  most = λ r m. ⊎_elim (λ k. past_up a b q r k (u.up k).1 (m.up k)) (λ k. past_down a b q r k (u.down k).1 (m.down k)) (side b n);
}

pub ceiling_of : (a b q : ℤ) → (b ≡ pos 0 → ⊥) → Over a b q → Ceiling a b q
ceiling_of a b q n u = record {
  above = record { up = λ k. (u.up k).0; down = λ k. (u.down k).0 };
  least = λ r m. ⊎_elim (λ k. short_up a b q r k (u.up k).1 (m.up k)) (λ k. short_down a b q r k (u.down k).1 (m.down k)) (side b n);
}

-- floor_q rounds the exact quotient down
pub floor_is : (a b : ℤ) → (b ≡ pos 0 → ⊥) → Floor a b (floor_q a b)
floor_is a b n = floor_of a b (floor_q a b) n (floor_under a b)

pub floor_only : (a b q : ℤ) → (b ≡ pos 0 → ⊥) → Floor a b q → q ≡ floor_q a b
floor_only a b q n f =
    let g = floor_is a b n in
    let h = g.most q f.below in
    let k = f.most (floor_q a b) g.below in
    omega ints

-- ceil_q rounds it up
pub ceiling_is : (a b : ℤ) → (b ≡ pos 0 → ⊥) → Ceiling a b (ceil_q a b)
ceiling_is a b n = ceiling_of a b (ceil_q a b) n (ceiling_over a b)

pub ceiling_only : (a b q : ℤ) → (b ≡ pos 0 → ⊥) → Ceiling a b q → q ≡ ceil_q a b
ceiling_only a b q n f =
    let g = ceiling_is a b n in
    let h = g.least q f.above in
    let k = f.least (ceil_q a b) g.above in
    omega ints

-- ---- the middle
pub middle_is : (l h : ℤ) → Middle l h (middle_of l h)
middle_is l h =
    let m = middle_of l h in
    let u = (floor_under (l +ℤ h) (pos 2)).up (omega ints) in
    omega (ints, times m (pos 2), plus (m *ℤ pos 2) (pos 2), plus m m, plus (m +ℤ m) (pos 2))

pub middle_only : (l h m : ℤ) → Middle l h m → m ≡ middle_of l h
middle_only l h m f =
    let n = middle_of l h in
    let g = middle_is l h in
    omega (ints, plus m m, plus (m +ℤ m) (pos 2), plus n n, plus (n +ℤ n) (pos 2))

-- ---- roots
-- root_down is the root rounded down, and 0 below 0
pub down_is : (z : ℤ) → pos 0 ≤ℤ z → RootDown z (root_down z)
unfolding root_down
down_is (pos n) k =
    let r = root_in n n in
    let f = rooted n n (omega arith) in
    record { at_least = omega ints; within = omega (ints, times (pos r) (pos r)); most = omega (ints, times (pos r +ℤ pos 1) (pos r +ℤ pos 1), f.most) }
down_is (negsuc n) k = absurd (omega ints)

down_le : (z r s : ℤ) → RootDown z r → RootDown z s → r ≤ℤ s
down_le z r s f g =
    let h = root_ltℤ r (s +ℤ pos 1) f.at_least (omega (ints, plus s (pos 1))) (omega ints) in
    omega (ints, plus s (pos 1))

pub down_only : (z r : ℤ) → pos 0 ≤ℤ z → RootDown z r → r ≡ root_down z
down_only z r k f =
    let i = down_le z r (root_down z) f (down_is z k) in
    let j = down_le z (root_down z) r (down_is z k) f in
    omega ints

pub down_none : (z : ℤ) → z <ℤ pos 0 → root_down z ≡ pos 0
unfolding root_down
down_none (pos n) h = absurd (omega ints)
down_none (negsuc n) h = refl

-- root_up is the root rounded up
up_from : (z : ℤ) → pos 0 ≤ℤ z → RootUp z (root_up z)
unfolding root_up
up_from z k = go (le_z z (d *ℤ d)) refl
  where
    d : ℤ
    d = root_down z

    f : RootDown z d
    f = down_is z k

    go : (t : Bool) → le_z z (d *ℤ d) ≡ t → RootUp z (cond t d (d +ℤ pos 1))
    go true e = record { at_least = f.at_least; over = omega ints; least = λ s i j. root_leℤ d s f.at_least i (omega (ints, f.within)) }
    go false e = record {
      at_least = omega (ints, f.at_least, plus d (pos 1));
      over = omega (ints, f.most);
      least = λ s i j. let l = root_ltℤ d s f.at_least i (omega ints) in omega (ints, plus d (pos 1));
    }

pub up_is : (z : ℤ) → RootUp z (root_up z)
unfolding root_up root_down
up_is (pos n) = up_from (pos n) (omega ints)
up_is (negsuc n) = record { at_least = omega ints; over = omega ints; least = λ s i j. i }

-- ---- powers of 2
pub power_is : (m : ℕ) → LeastPower m (least_power m)
unfolding least_power
power_is m = record {
  enough = let z : 0 + m ≡ m = omega arith in enough_from m 0 m (rw z (below_pow m));
  least = λ j h. least_from_lem m 0 m j (omega arith) h;
}

pub power_only : (m k : ℕ) → LeastPower m k → k ≡ least_power m
power_only m k f =
    let g = power_is m in
    let h = f.least (least_power m) g.enough in
    let i = g.least k f.enough in
    omega arith

-- ---- held numbers
-- r is z up to M either way, and one past M beyond
pub record Holding (z r : ℤ) : Type 0 where
  pub within : Near z → r ≡ z
  pub over : M <ℤ z → r ≡ pos 1_000_000_000_001
  pub under : z <ℤ minus_m → r ≡ negsuc 1_000_000_000_000

pub held_is : (z : ℤ) → Holding z (held z)
unfolding held
held_is z =
    let m = min_z (pos 1_000_000_000_001) z in
    record {
      within = λ h. omega (ints, max_parts (negsuc 1_000_000_000_000) m, min_parts (pos 1_000_000_000_001) z);
      over = λ h. omega (ints, max_parts (negsuc 1_000_000_000_000) m, min_parts (pos 1_000_000_000_001) z);
      under = λ h. omega (ints, max_parts (negsuc 1_000_000_000_000) m, min_parts (pos 1_000_000_000_001) z);
    }
