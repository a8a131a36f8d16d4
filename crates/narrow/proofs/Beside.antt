-- A divisor's range trimmed beside 0: a factor whose product is not 0 is not 0, so a 0 at an end of its range is no value of it.
use mathlib.Core.Path.{◌≡◌, refl}
use mathlib.Core.Logic.{◌⊎◌, inl, inr, ⊎_elim}
use mathlib.Core.Bool.{Bool, true, false, cond}
use Prim.Native.Nat.{ℕ, zero, suc, ◌<◌}
use lib.IntN.{ℤ, pos, negsuc, ◌*ℤ◌}
use lib.Signed.{◌≤ℤ◌}
use Rattle.whole.proofs.Kit.{ints, times}
use Rattle.whole.proofs.Spans.{clear}
use Rattle.whole.specs.Ranges.{Point, In, range, holds_zero}
use Rattle.whole.specs.declared.Range.{Range}
use Rattle.problem.specs.Grounds.{differ}
use Rattle.problem.proofs.Placing.{same_number}
use Rattle.narrow.specs.Cuts.{stay, void, to}
use Rattle.narrow.specs.Narrowing.{end_zero_cut, trim_cut}
use Rattle.narrow.proofs.Cuts.{Allows}

-- w = u * v and w is not 0, so v is not: it is above 0 or below
beside_zero : (z : Range) (w u v : ℤ) → holds_zero z ≡ false → In z w → w ≡ u *ℤ v → (pos 1 ≤ℤ v) ⊎ (v ≤ℤ negsuc 0)
beside_zero z w u (pos zero) f i e = absurd (⊎_elim (λ h. omega (ints, times u (pos 0))) (λ h. omega (ints, times u (pos 0))) (clear z f))
beside_zero z w u (pos (suc n)) f i e = inl (omega ints)
beside_zero z w u (negsuc n) f i e = inr (omega ints)

-- a 0 at the end of a divisor's range is no value of it
module _ (n : ℕ) (p : Point) (y : ℕ) (Y : Range) (h : y < n) (i : In Y (p y)) where
  end_zero_allows : (pos 1 ≤ℤ p y) ⊎ (p y ≤ℤ negsuc 0) → Allows n p (end_zero_cut y Y)
  end_zero_allows v = go (differ Y.low (pos 0)) refl (differ Y.high (pos 0)) refl
    where
      go : (s : Bool) → differ Y.low (pos 0) ≡ s → (t : Bool) → differ Y.high (pos 0) ≡ t → Allows n p (cond s (cond t stay (to y (range Y.low (negsuc 0)))) (cond t (to y (range (pos 1) Y.high)) void))
      go true e true f = tt
      go true e false f = let k = same_number Y.high (pos 0) f in (h, record { above = i.above; below = ⊎_elim (λ u. absurd (omega ints)) (λ u. u) v })
      go false e true f = let k = same_number Y.low (pos 0) e in (h, record { above = ⊎_elim (λ u. u) (λ u. absurd (omega ints)) v; below = i.below })
      go false e false f =
          let k = same_number Y.low (pos 0) e in
          let l = same_number Y.high (pos 0) f in
          ⊎_elim (λ u. omega ints) (λ u. omega ints) v

  pub trim_allows : (Z : Range) (w u : ℤ) → In Z w → w ≡ u *ℤ p y → Allows n p (trim_cut y Y Z)
  trim_allows Z w u j e = go (holds_zero Z) refl
    where
      go : (t : Bool) → holds_zero Z ≡ t → Allows n p (cond t stay (end_zero_cut y Y))
      go true f = tt
      go false f = end_zero_allows (beside_zero Z w u (p y) f j e)
