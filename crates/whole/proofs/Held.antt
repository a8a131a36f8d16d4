-- Held numbers keep the order, and no test against a near number tells a held number from the number itself.
use mathlib.Core.Path.{◌≡◌, sym, ap, ap₂, ◌∙◌}
use mathlib.Core.Logic.{⊎_elim}
use mathlib.Core.Bool.{true, false}
use lib.IntN.{ℤ, pos, negsuc}
use lib.Signed.{lt_z, le_z, ◌≤ℤ◌, ◌<ℤ◌}
use Rattle.std.specs.Int.{int_min, int_max}
use Rattle.whole.specs.Numbers.{M, minus_m, Near, min_z, max_z, min4, max4}
use Rattle.whole.specs.inner.Held.{held, Good}
use Rattle.whole.specs.declared.Range.{Range}
use Rattle.whole.proofs.Kit.{ints, lt_or_le, min_parts, max_parts, min_through, max_through, min_is, max_is}
use Rattle.whole.proofs.Meaning.{held_is}

-- the three cases of a held number
pub data Hold (z : ℤ) : Type 0 where
  exact : Near z → held z ≡ z → Hold z
  above : M <ℤ z → held z ≡ pos 1_000_000_000_001 → Hold z
  below : z <ℤ minus_m → held z ≡ negsuc 1_000_000_000_000 → Hold z

pub hold : (z : ℤ) → Hold z
hold z =
    ⊎_elim
    (λ h. above h ((held_is z).over h))
    (λ h. ⊎_elim
    (λ k. below k ((held_is z).under k))
    (λ k. let n : Near z = omega ints in exact n ((held_is z).within n))
    (lt_or_le z minus_m))
    (lt_or_le M z)

pub held_mono : (a b : ℤ) → a ≤ℤ b → held a ≤ℤ held b
held_mono a b h = go (hold a) (hold b)
  where
    go : Hold a → Hold b → held a ≤ℤ held b
    go (exact i e) (exact k f) = omega ints
    go (exact i e) (above k f) = omega ints
    go (exact i e) (below k f) = omega ints
    go (above i e) (exact k f) = omega ints
    go (above i e) (above k f) = omega ints
    go (above i e) (below k f) = omega ints
    go (below i e) (exact k f) = omega ints
    go (below i e) (above k f) = omega ints
    go (below i e) (below k f) = omega ints

-- holding goes through the least and the greatest
pub held_min : (a b : ℤ) → min_z (held a) (held b) ≡ held (min_z a b)
held_min = min_through held held_mono

pub held_max : (a b : ℤ) → max_z (held a) (held b) ≡ held (max_z a b)
held_max = max_through held held_mono

pub held_min4 : (a b c d : ℤ) → min4 (held a) (held b) (held c) (held d) ≡ held (min4 a b c d)
held_min4 a b c d = ap₂ min_z (held_min a b) (held_min c d) ∙ held_min (min_z a b) (min_z c d)

pub held_max4 : (a b c d : ℤ) → max4 (held a) (held b) (held c) (held d) ≡ held (max4 a b c d)
held_max4 a b c d = ap₂ max_z (held_max a b) (held_max c d) ∙ held_max (max_z a b) (max_z c d)

pub held_near : (z : ℤ) → Near z → held z ≡ z
held_near z h = (held_is z).within h

-- the library's bounds hold a number
pub clamp_is : (z : ℤ) → int_max (negsuc 1_000_000_000_000) (int_min z (pos 1_000_000_000_001)) ≡ held z
unfolding held
clamp_is z =
    let o = pos 1_000_000_000_001 in
    let e : int_min z o ≡ min_z o z = min_is z o ∙ omega (ints, min_parts z o, min_parts o z) in
    max_is (negsuc 1_000_000_000_000) (int_min z o) ∙ ap (max_z (negsuc 1_000_000_000_000)) e

-- a held number is held as it is
pub held_held : (z : ℤ) → held (held z) ≡ held z
held_held z = go (hold z)
  where
    go : Hold z → held (held z) ≡ held z
    go (exact i e) = ap held e
    go (above i e) = ap held e ∙ (held_is (pos 1_000_000_000_001)).over (omega ints) ∙ sym e
    go (below i e) = ap held e ∙ (held_is (negsuc 1_000_000_000_000)).under (omega ints) ∙ sym e

-- ---- a test against a near number
module _ (s l : ℤ) (n : Near l) where
  pub held_le : le_z (held s) l ≡ le_z s l
  held_le = go (hold s)
    where
      go : Hold s → le_z (held s) l ≡ le_z s l
      go (exact i e) = ap (λ (z : ℤ). le_z z l) e
      go (above i e) = let a : le_z (held s) l ≡ false = omega ints in let b : le_z s l ≡ false = omega ints in a ∙ sym b
      go (below i e) = let a : le_z (held s) l ≡ true = omega ints in let b : le_z s l ≡ true = omega ints in a ∙ sym b

  pub le_held : le_z l (held s) ≡ le_z l s
  le_held = go (hold s)
    where
      go : Hold s → le_z l (held s) ≡ le_z l s
      go (exact i e) = ap (le_z l) e
      go (above i e) = let a : le_z l (held s) ≡ true = omega ints in let b : le_z l s ≡ true = omega ints in a ∙ sym b
      go (below i e) = let a : le_z l (held s) ≡ false = omega ints in let b : le_z l s ≡ false = omega ints in a ∙ sym b

  pub held_lt : lt_z (held s) l ≡ lt_z s l
  held_lt = go (hold s)
    where
      go : Hold s → lt_z (held s) l ≡ lt_z s l
      go (exact i e) = ap (λ (z : ℤ). lt_z z l) e
      go (above i e) = let a : lt_z (held s) l ≡ false = omega ints in let b : lt_z s l ≡ false = omega ints in a ∙ sym b
      go (below i e) = let a : lt_z (held s) l ≡ true = omega ints in let b : lt_z s l ≡ true = omega ints in a ∙ sym b

  pub lt_held : lt_z l (held s) ≡ lt_z l s
  lt_held = go (hold s)
    where
      go : Hold s → lt_z l (held s) ≡ lt_z l s
      go (exact i e) = ap (lt_z l) e
      go (above i e) = let a : lt_z l (held s) ≡ true = omega ints in let b : lt_z l s ≡ true = omega ints in a ∙ sym b
      go (below i e) = let a : lt_z l (held s) ≡ false = omega ints in let b : lt_z l s ≡ false = omega ints in a ∙ sym b

-- two numbers that are held alike
pub alike_lt : (r s l : ℤ) → Near l → held r ≡ held s → lt_z r l ≡ lt_z s l
alike_lt r s l n e = sym (held_lt r l n) ∙ ap (λ (z : ℤ). lt_z z l) e ∙ held_lt s l n

pub lt_alike : (r s l : ℤ) → Near l → held r ≡ held s → lt_z l r ≡ lt_z l s
lt_alike r s l n e = sym (lt_held r l n) ∙ ap (lt_z l) e ∙ lt_held s l n

-- ---- what a good range has in common with a span and with the span held: neither has anything, or both have the same
pub data Meeting (old s : Range) : Type 0 where
  neither : min_z old.high s.high <ℤ max_z old.low s.low → min_z old.high (held s.high) <ℤ max_z old.low (held s.low) → Meeting old s
  alike : max_z old.low s.low ≤ℤ min_z old.high s.high → max_z old.low (held s.low) ≡ max_z old.low s.low → min_z old.high (held s.high) ≡ min_z old.high s.high → Meeting old s

module _ (l h s t : ℤ) (nl : Near l) (nh : Near h) where
  low_alike : max_z l s ≤ℤ min_z h t → max_z l (held s) ≡ max_z l s
  low_alike k = go (hold s)
    where
      go : Hold s → max_z l (held s) ≡ max_z l s
      go (exact i e) = ap (max_z l) e
      go (above i e) = absurd (omega (ints, max_parts l s, min_parts h t))
      go (below i e) = omega (ints, max_parts l s, max_parts l (held s))

  high_alike : max_z l s ≤ℤ min_z h t → min_z h (held t) ≡ min_z h t
  high_alike k = go (hold t)
    where
      go : Hold t → min_z h (held t) ≡ min_z h t
      go (exact i e) = ap (min_z h) e
      go (above i e) = omega (ints, min_parts h t, min_parts h (held t))
      go (below i e) = absurd (omega (ints, max_parts l s, min_parts h t))

  still_none : l ≤ℤ h → min_z h t <ℤ max_z l s → min_z h (held t) <ℤ max_z l (held s)
  still_none o k = go (hold s) (hold t)
    where
      go : Hold s → Hold t → min_z h (held t) <ℤ max_z l (held s)
      go (exact i e) (exact j f) = omega (ints, max_parts l s, min_parts h t, max_parts l (held s), min_parts h (held t))
      go (exact i e) (above j f) = omega (ints, max_parts l s, min_parts h t, max_parts l (held s), min_parts h (held t))
      go (exact i e) (below j f) = omega (ints, max_parts l s, min_parts h t, max_parts l (held s), min_parts h (held t))
      go (above i e) (exact j f) = omega (ints, max_parts l s, min_parts h t, max_parts l (held s), min_parts h (held t))
      go (above i e) (above j f) = omega (ints, max_parts l s, min_parts h t, max_parts l (held s), min_parts h (held t))
      go (above i e) (below j f) = omega (ints, max_parts l s, min_parts h t, max_parts l (held s), min_parts h (held t))
      go (below i e) (exact j f) = omega (ints, max_parts l s, min_parts h t, max_parts l (held s), min_parts h (held t))
      go (below i e) (above j f) = omega (ints, max_parts l s, min_parts h t, max_parts l (held s), min_parts h (held t))
      go (below i e) (below j f) = omega (ints, max_parts l s, min_parts h t, max_parts l (held s), min_parts h (held t))

pub meeting : (old s : Range) → Good old → Meeting old s
meeting old s g =
    ⊎_elim
    (λ k. neither k (still_none old.low old.high s.low s.high g.low g.high g.ordered k))
    (λ k. alike k (low_alike old.low old.high s.low s.high g.low g.high k) (high_alike old.low old.high s.low s.high g.low g.high k))
    (lt_or_le (min_z old.high s.high) (max_z old.low s.low))
