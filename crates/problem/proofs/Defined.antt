-- What ground 8 leaves: leading quantities from 1 to n, and every later one is one value or the result of a primitive over lower-numbered ones.
use mathlib.Core.Path.{◌≡◌, subst}
use mathlib.Core.Logic.{◌⊎◌, inl, inr, ⊎_elim}
use mathlib.Core.Bool.{true, false, not, ◌&&◌, ◌||◌}
use mathlib.Core.List.{List}
use Prim.Native.Nat.{ℕ, zero, suc, ◌+◌, ◌-◌, ◌≤◌, ◌<◌}
use native.Mathlib.Decide.{ℕ_discrete}
use native.Mathlib.Omega.{arith}
use borrow.Author.Tests.{ltb-true, eqb-true, not-true, not-false}
use lib.Dec.{eqb, ltb}
use lib.IntN.{ℤ, pos}
use lib.Signed.{lt_z, ◌≤ℤ◌}
use Rattle.whole.specs.Numbers.{positive_part}
use Rattle.whole.proofs.Kit.{ints, apart}
use Rattle.problem.specs.Problem.{Box, low_at, high_at, quantities}
use Rattle.problem.specs.Lists.{primitives_of}
use Rattle.problem.specs.Leading.{makes, made, defined, defined_from, bad_leading}
use Rattle.problem.specs.declared.Primitive.{Primitive}
use Rattle.problem.specs.declared.Primitive.TheVariants.{Sum, Product, Square}
use Rattle.problem.proofs.Tests.{or_first, or_second, or_either, and_both}

-- ---- q is the result of a primitive over lower-numbered ones
pub data Result : Primitive → ℕ → Type 0 where
  sum_of : {z x y : ℕ} → x < z → y < z → Result (Sum z x y) z
  first_of : {z x y : ℕ} → z < x → y < x → Result (Sum z x y) x
  second_of_lem : {z x y : ℕ} → z < y → x < y → Result (Sum z x y) y
  product_of : {z x y : ℕ} → x < z → y < z → Result (Product z x y) z
  square_of : {z x : ℕ} → x < z → Result (Square z x) z

over : (a b c q : ℕ) → (eqb a q && (ltb b q && ltb c q)) ≡ true → (a ≡ q) × (b < a) × (c < a)
over a b c q e =
    let h = and_both (eqb a q) (ltb b q && ltb c q) e in
    let k = and_both (ltb b q) (ltb c q) h.1 in
    let f = eqb-true a q h.0 in
    (f, omega (arith, ltb-true b q k.0), omega (arith, ltb-true c q k.1))

pub result : (p : Primitive) (q : ℕ) → makes p q ≡ true → Result p q
result (Sum z x y) q e =
    ⊎_elim
    (λ t. let h = over z x y q t in subst (Result (Sum z x y)) h.0 (sum_of h.1 h.2))
    (λ f. ⊎_elim
    (λ t. let h = over x z y q t in subst (Result (Sum z x y)) h.0 (first_of h.1 h.2))
    (λ t. let h = over y z x q t in subst (Result (Sum z x y)) h.0 (second_of_lem h.1 h.2))
    (or_either (eqb x q && (ltb z q && ltb y q)) (eqb y q && (ltb z q && ltb x q)) f))
    (or_either (eqb z q && (ltb x q && ltb y q)) ((eqb x q && (ltb z q && ltb y q)) || (eqb y q && (ltb z q && ltb x q))) e)
result (Product z x y) q e = let h = over z x y q e in subst (Result (Product z x y)) h.0 (product_of h.1 h.2)
result (Square z x) q e =
    let h = and_both (eqb z q) (ltb x q) e in
    let f = eqb-true z q h.0 in
    subst (Result (Square z x)) f (square_of (omega (arith, ltb-true x q h.1)))

-- ---- its starting range is one value, or some primitive makes it
one_or_made : (b : Box) (ps : List Primitive) (q : ℕ) → defined b ps q ≡ true → (high_at b q ≤ℤ low_at b q) ⊎ (made ps q ≡ true)
one_or_made b ps q e =
    ⊎_elim (λ t. let f = not-true (lt_z (low_at b q) (high_at b q)) t in inl (omega ints)) inr (or_either (not (lt_z (low_at b q) (high_at b q))) (made ps q) e)

from_at : (b : Box) (ps : List Primitive) (k q : ℕ) → defined_from b ps k q ≡ true → (r : ℕ) → q ≤ r → r < q + k → defined b ps r ≡ true
unfolding defined_from
from_at b ps zero q e r h g = absurd (omega arith)
from_at b ps (suc k) q e r h g = by (ℕ_discrete q r) (from_at b ps k (suc q) both.1 r)
  where
    both : (defined b ps q ≡ true) × (defined_from b ps k (suc q) ≡ true)
    both = and_both (defined b ps q) (defined_from b ps k (suc q)) e

    by : Dec (q ≡ r) → (suc q ≤ r → r < suc q + k → defined b ps r ≡ true) → defined b ps r ≡ true
    by (yes f) on = subst (λ (m : ℕ). defined b ps m ≡ true) f both.0
    by (no f) on = on (omega arith) (omega arith)

-- ---- ground 8 is not met
module _ (rs ps : List ℤ) (lead : ℤ) (e : bad_leading rs ps lead ≡ false) where
  pub leading_some : 1 ≤ positive_part lead
  leading_some =
      let h = or_first (lt_z lead (pos 1)) _ (or_first (lt_z lead (pos 1) || lt_z (pos (quantities rs)) lead) _ e) in
      omega (ints, apart lead)

  pub leading_most : positive_part lead ≤ quantities rs
  leading_most =
      let h = or_second (lt_z lead (pos 1)) _ (or_first (lt_z lead (pos 1) || lt_z (pos (quantities rs)) lead) _ e) in
      omega (ints, apart lead)

  pub leading_sign : pos 0 ≤ℤ lead
  leading_sign = let h = leading_some in omega (ints, apart lead)

  pub later_defined : (q : ℕ) → positive_part lead ≤ q → q < quantities rs → (high_at rs q ≤ℤ low_at rs q) ⊎ (made (primitives_of ps) q ≡ true)
  later_defined q h g =
      one_or_made rs (primitives_of ps) q
      (from_at rs (primitives_of ps) (quantities rs - positive_part lead) (positive_part lead)
      (not-false _ (or_second (lt_z lead (pos 1) || lt_z (pos (quantities rs)) lead) _ e)) q h (omega arith))
