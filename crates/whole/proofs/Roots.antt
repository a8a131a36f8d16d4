-- Roots against squares: squares of numbers from 0 up keep the order, and a number and its opposite have one square.
use mathlib.Core.Path.{◌≡◌, sym, subst}
use mathlib.Core.Logic.{⊎_elim}
use mathlib.Core.Bool.{true, false}
use Prim.Native.Nat.{ℕ}
use lib.IntN.{ℤ, pos, neg_ℤ, ◌+ℤ◌, ◌*ℤ◌}
use lib.Signed.{le_z, ◌≤ℤ◌, ◌<ℤ◌}
use Rattle.whole.specs.Numbers.{Near, root_down, root_up}
use Rattle.whole.specs.Ranges.{range, In}
use Rattle.whole.specs.inner.Held.{Is, Root}
use Rattle.whole.proofs.Kit.{ints, plus, times, cross, neg_positive, neg_negative, neg_times, *ℤ_comm', sign, square_negative, root_leℤ, root_ltℤ, lt_or_le}
use Rattle.whole.specs.Meaning.{RootDown}
use Rattle.whole.proofs.Meaning.{down_is, down_only, down_none, up_is}

-- ---- squares
pub square_mono : (a b : ℤ) → pos 0 ≤ℤ a → a ≤ℤ b → (a *ℤ a) ≤ℤ (b *ℤ b)
square_mono a b h k = let l : pos 0 ≤ℤ b = omega ints in omega (ints, times a a, times b b, cross a b (pos 0) a k h, cross a b (pos 0) b k l)

pub neg_square : (x : ℤ) → neg_ℤ x *ℤ neg_ℤ x ≡ x *ℤ x
neg_square x =
    let e = neg_times x (neg_ℤ x) in
    let f = *ℤ_comm' x (neg_ℤ x) in
    let g = neg_times x x in
    omega (ints, neg_positive (x *ℤ neg_ℤ x), neg_negative (x *ℤ neg_ℤ x), neg_positive (x *ℤ x), neg_negative (x *ℤ x))

-- ---- roots of near numbers are small
pub down_small : (z : ℤ) → Near z → (pos 0 ≤ℤ root_down z) × (root_down z ≤ℤ pos 1_000_000)
down_small z h = ⊎_elim (λ n. let e = down_none z n in (omega ints, omega ints)) (λ k. let f = down_is z k in (f.at_least, root_leℤ (root_down z) (pos 1_000_000) f.at_least (omega ints) (omega (ints, f.within)))) (lt_or_le z (pos 0))

pub down_near : (z : ℤ) → Near z → Near (root_down z)
down_near z h = let s = down_small z h in omega ints

pub up_small : (z : ℤ) → Near z → (pos 0 ≤ℤ root_up z) × (root_up z ≤ℤ pos 1_000_000)
up_small z h = let f = up_is z in (f.at_least, f.least (pos 1_000_000) (omega ints) (omega ints))

pub up_near : (z : ℤ) → Near z → Near (root_up z)
up_near z h = let s = up_small z h in omega ints

-- ---- a root against a square
module _ (x z : ℤ) (h : pos 0 ≤ℤ x) where
  pub down_from : (x *ℤ x) ≤ℤ z → x ≤ℤ root_down z
  down_from k =
      let f = down_is z (omega (ints, square_negative x)) in
      let r = root_down z in
      let l = root_ltℤ x (r +ℤ pos 1) h (omega (ints, f.at_least, plus r (pos 1))) (omega (ints, f.most)) in
      omega (ints, plus r (pos 1))

  pub down_to : pos 0 ≤ℤ z → x ≤ℤ root_down z → (x *ℤ x) ≤ℤ z
  down_to k l = let f = down_is z k in let g = square_mono x (root_down z) h l in omega (ints, f.within)

  pub up_from : z ≤ℤ (x *ℤ x) → root_up z ≤ℤ x
  up_from k = (up_is z).least x h k

  pub up_to : root_up z ≤ℤ x → z ≤ℤ (x *ℤ x)
  up_to k = let f = up_is z in let g = square_mono (root_up z) x f.at_least k in omega (ints, f.over)

-- ---- the same of a number of either sign
pub root_in_lem : (x z : ℤ) → (x *ℤ x) ≤ℤ z → In (range (neg_ℤ (root_down z)) (root_down z)) x
root_in_lem x z k =
    let r = root_down z in
    let f = down_is z (omega (ints, square_negative x)) in
    ⊎_elim
    (λ s. let l = down_from x z s k in omega (ints, f.at_least, neg_positive r, neg_negative r))
    (λ s. let e = neg_square x in let l = down_from (neg_ℤ x) z (omega (ints, neg_positive x, neg_negative x)) (omega ints) in omega (ints, f.at_least, neg_positive r, neg_negative r, neg_positive x, neg_negative x))
    (sign x)

pub in_root : (x z : ℤ) → pos 0 ≤ℤ z → In (range (neg_ℤ (root_down z)) (root_down z)) x → (x *ℤ x) ≤ℤ z
in_root x z h i =
    let r = root_down z in
    ⊎_elim
    (λ s. down_to x z s h i.below)
    (λ s. let e = neg_square x in let l = down_to (neg_ℤ x) z (omega (ints, neg_positive x, neg_negative x)) h (omega (ints, neg_positive r, neg_negative r, neg_positive x, neg_negative x)) in omega ints)
    (sign x)

pub up_turned_from : (x z : ℤ) → x ≤ℤ pos 0 → z ≤ℤ (x *ℤ x) → x ≤ℤ neg_ℤ (root_up z)
up_turned_from x z h k =
    let r = root_up z in
    let e = neg_square x in
    let l = up_from (neg_ℤ x) z (omega (ints, neg_positive x, neg_negative x)) (omega ints) in
    omega (ints, neg_positive r, neg_negative r, neg_positive x, neg_negative x)

pub up_turned_to : (x z : ℤ) → x ≤ℤ pos 0 → x ≤ℤ neg_ℤ (root_up z) → z ≤ℤ (x *ℤ x)
up_turned_to x z h k =
    let r = root_up z in
    let e = neg_square x in
    let l = up_to (neg_ℤ x) z (omega (ints, neg_positive x, neg_negative x)) (omega (ints, neg_positive r, neg_negative r, neg_positive x, neg_negative x)) in
    omega ints

-- ---- what the code has
pub down_found : (z : ℤ) (n r : ℕ) → Near z → pos n ≡ z → Root n r → Is (root_down z) (pos r)
down_found z n r h e f =
    let g : RootDown z (pos r) = record {
      at_least = omega ints;
      within = omega (ints, times (pos r) (pos r), f.within);
      most = omega (ints, times (pos r +ℤ pos 1) (pos r +ℤ pos 1), f.most);
    } in
    let i = down_only z (pos r) (omega ints) g in
    record { is = i; near = subst Near (sym i) (down_near z h) }

pub down_zero : (z : ℤ) → z <ℤ pos 0 → Is (root_down z) (pos 0)
down_zero z h = record { is = sym (down_none z h); near = omega ints }

next_is : (z : ℤ) → (root_down z *ℤ root_down z) <ℤ z → root_down z +ℤ pos 1 ≡ root_up z
unfolding root_up
next_is z h = let e : le_z z (root_down z *ℤ root_down z) ≡ false = omega ints in rw e

same_is : (z : ℤ) → z ≤ℤ (root_down z *ℤ root_down z) → root_down z ≡ root_up z
unfolding root_up
same_is z h = let e : le_z z (root_down z *ℤ root_down z) ≡ true = omega ints in rw e

pub up_next : (z : ℤ) → Near z → (root_down z *ℤ root_down z) <ℤ z → Is (root_up z) (root_down z +ℤ pos 1)
up_next z n h = let e = next_is z h in record { is = e; near = subst Near (sym e) (up_near z n) }

pub up_same : (z : ℤ) → Near z → z ≤ℤ (root_down z *ℤ root_down z) → Is (root_up z) (root_down z)
up_same z n h = record { is = same_is z h; near = down_near z n }
