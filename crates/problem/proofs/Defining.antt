-- Ground 8 looks at the quantities after the leading ones, one by one.
use mathlib.Core.Path.{◌≡◌, refl, ap, ◌∙◌}
use mathlib.Core.Bool.{Bool, true, false, not, ◌&&◌, ◌||◌}
use mathlib.Core.List.{List}
use Prim.Native.Nat.{ℕ, zero, suc, ◌+◌, ◌-◌}
use native.Mathlib.Numerals.{add-one}
use lib.IntN.{ℤ, pos, nat_abs}
use lib.Signed.{lt_z}
use Rattle.std.specs.List.{list_any, range_with_len}
use Rattle.whole.specs.Numbers.{positive_part}
use Rattle.whole.proofs.Kit.{ints, nat_abs_is, apart}
use Rattle.problem.specs.Problem.{Box, quantities}
use Rattle.problem.specs.Lists.{primitives_of}
use Rattle.problem.specs.Leading.{defined, defined_from, bad_leading}
use Rattle.problem.specs.declared.Primitive.{Primitive}

-- one that is not so defined is found among k quantities from q on, or all of them are
undefined_from : (b : Box) (ps : List Primitive) (k q : ℕ) → list_any (λ r. not (defined b ps r)) (range_with_len q k) ≡ not (defined_from b ps k q)
unfolding defined_from
undefined_from b ps zero q = refl
undefined_from b ps (suc k) q =
    ap (λ (t : Bool). not (defined b ps q) || t) (undefined_from b ps k (q + 1))
    ∙ either (defined b ps q) _ ∙ ap (λ (r : ℕ). not (defined b ps q && defined_from b ps k r)) (add-one q)
  where
    either : (s t : Bool) → (not s || not t) ≡ not (s && t)
    either true t = refl
    either false t = refl

-- where the leading number, as it was read, is 1 to n
pub later_undefined : (rs ps : List ℤ) (lead : ℤ) {l n : ℤ} → l ≡ lead → n ≡ pos (quantities rs) → lt_z l (pos 1) ≡ false → lt_z n l ≡ false
    → list_any (λ r. not (defined rs (primitives_of ps) r)) (range_with_len (nat_abs l) (quantities rs - nat_abs l)) ≡ bad_leading rs ps lead
later_undefined rs ps lead {l} el en some most =
    let s = rw el at some in
    let m = rw (el, en) at most in
    let k : positive_part lead ≡ nat_abs l = omega (ints, nat_abs_is l, apart l, apart lead) in
    undefined_from rs (primitives_of ps) (quantities rs - nat_abs l) (nat_abs l) ∙ rw (s, m, k)
