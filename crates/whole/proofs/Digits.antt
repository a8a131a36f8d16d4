-- A root grows by one binary digit where the number grows by two, and the new digit is told by one square.
use mathlib.Core.Path.{◌≡◌, refl}
use mathlib.Core.Bool.{Bool, true, false, cond}
use Prim.Native.Nat.{ℕ, zero, suc, ◌+◌, ◌*◌, ◌/◌, ◌≤◌, ◌<◌}
use native.Mathlib.Nat.{div-mul-le_self, lt-div-mul-add}
use native.Mathlib.Omega.{arith}
use borrow.Author.Tests.{leb-true, leb-false}
use lib.Dec.{leb}
use Rattle.whole.specs.Numbers.{grow, root_in}

-- r is the root of n rounded down
pub record Rooted (n r : ℕ) : Type 0 where
  pub within : r * r ≤ n
  pub most : n < suc r * suc r

grow_is : (n m r : ℕ) → m * 4 ≤ n → n < m * 4 + 4 → Rooted m r → Rooted n (grow n r)
grow_is n m r h k f = go (leb (suc (2 * r) * suc (2 * r)) n) refl
  where
    go : (t : Bool) → leb (suc (2 * r) * suc (2 * r)) n ≡ t → Rooted n (cond t (suc (2 * r)) (2 * r))
    go true e = record { within = omega (arith, leb-true); most = omega (arith, f.most) }
    go false e = record { within = omega (arith, f.within); most = omega (arith, leb-false) }

pub rooted : (f n : ℕ) → n ≤ f → Rooted n (root_in f n)
unfolding root_in
rooted zero n h = omega arith
rooted (suc f) zero h = omega arith
rooted (suc f) (suc n) h =
    grow_is (suc n) (suc n / 4) (root_in f (suc n / 4)) (div-mul-le_self (suc n) 4) (lt-div-mul-add {a = suc n} (omega arith)) (rooted f (suc n / 4) (omega arith))
