-- The least power is found by trying exponents in order: the one that is taken is enough, and each one before it was not.
use mathlib.Core.Path.{◌≡◌, refl}
use mathlib.Core.Logic.{⊎_elim}
use mathlib.Core.Bool.{Bool, true, false}
use Prim.Native.Nat.{ℕ, zero, suc, ◌+◌, ◌^◌, ◌≤◌, ◌<◌}
use native.Mathlib.Nat.{pow-suc, eq-or-lt_of_le}
use native.Mathlib.Omega.{arith}
use borrow.Author.Tests.{leb-true, leb-false}
use lib.Dec.{leb}
use lib.Pow.{pow_pos}
use Rattle.whole.specs.Numbers.{least_from}

by_power : (m k f : ℕ) (Q : ℕ → Type 0) → (m ≤ 2 ^ k → Q k) → (2 ^ k < m → Q (least_from f (suc k) m)) → Q (least_from (suc f) k m)
unfolding least_from
by_power m k f Q yea nay = go (leb m (2 ^ k)) refl
  where
    go : (t : Bool) → leb m (2 ^ k) ≡ t → Q (least_from (suc f) k m)
    go true e = rw (e, least_from) (yea (leb-true m (2 ^ k) e))
    go false e = rw (e, least_from) (nay (leb-false m (2 ^ k) e))

pub enough_from : (f k m : ℕ) → m ≤ 2 ^ (k + f) → m ≤ 2 ^ least_from f k m
unfolding least_from
enough_from zero k m h = let z : k + 0 ≡ k = omega arith in rw z at h
enough_from (suc f) k m h = let z : k + suc f ≡ suc k + f = omega arith in by_power m k f (λ j. m ≤ 2 ^ j) (λ le. le) (λ lt. enough_from f (suc k) m (rw z at h))

pub least_from_lem : (f k m j : ℕ) → k ≤ j → m ≤ 2 ^ j → least_from f k m ≤ j
unfolding least_from
least_from_lem zero k m j h g = h
least_from_lem (suc f) k m j h g =
    by_power m k f (λ i. i ≤ j) (λ le. h) (λ lt. least_from_lem f (suc k) m j (⊎_elim (λ (e : k ≡ j). let z : m ≤ 2 ^ k = rw e g in absurd (omega arith)) (λ l. l) (eq-or-lt_of_le h)) g)

pub below_pow : (m : ℕ) → m ≤ 2 ^ m
below_pow zero = omega arith
below_pow (suc m) = omega (arith, below_pow m, pow-suc 2 m, pow_pos m)
