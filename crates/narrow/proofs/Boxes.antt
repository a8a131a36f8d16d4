-- A box with one range put: a list differs from itself with one element set at that element only, so every other range is as it was.
use mathlib.Core.Path.{◌≡◌, refl, sym, ap, ◌∙◌}
use mathlib.Core.Logic.{◌⊎◌, inl, inr, ⊎_elim}
use mathlib.Core.List.{List, [], ◌∷◌}
use Prim.Native.Nat.{ℕ, zero, suc, ◌+◌, ◌*◌, ◌≤◌, ◌<◌}
use native.Mathlib.Omega.{arith}
use lib.ListN.{length, get_or, set, length-set, get_or-eq_default}
use lib.Seq.{get_or-set_same, get_or-set_other}
use lib.IntN.{ℤ, pos}
use lib.Signed.{◌≤ℤ◌}
use Rattle.whole.proofs.Kit.{ints}
use Rattle.whole.specs.Ranges.{range}
use Rattle.whole.specs.declared.Range.{Range}
use Rattle.problem.specs.Problem.{Box, low_at, high_at, range_at}
use Rattle.narrow.specs.Cuts.{put_at}
use Rattle.narrow.specs.Parts.{Smaller}

-- ---- each end is as it was, or is the one that was put
set_or : (l : List ℤ) (i j : ℕ) (v d : ℤ) → (get_or (set l i v) j d ≡ get_or l j d) ⊎ ((j ≡ i) × (get_or (set l i v) j d ≡ v))
set_or [] i j v d = inl refl
set_or (x ∷ l) zero zero v d = inr (refl, refl)
set_or (x ∷ l) zero (suc j) v d = inl refl
set_or (x ∷ l) (suc i) zero v d = inl refl
set_or (x ∷ l) (suc i) (suc j) v d = ⊎_elim inl (λ e. inr (ap suc e.0, e.1)) (set_or l i j v d)

module _ (b : Box) (q : ℕ) (r : Range) where
  pub put_long : length (put_at b q r) ≡ length b
  put_long = simp length-set

  pub low_or : (k : ℕ) → (low_at (put_at b q r) k ≡ low_at b k) ⊎ ((k ≡ q) × (low_at (put_at b q r) k ≡ r.low))
  low_or k =
      let e = get_or-set_other (set b (2 * q) r.low) (2 * q + 1) (2 * k) r.high (pos 0) (λ f. omega arith) in
      ⊎_elim (λ f. inl (e ∙ f)) (λ f. inr (omega (arith, f.0), e ∙ f.1)) (set_or b (2 * q) (2 * k) r.low (pos 0))

  pub high_or : (k : ℕ) → (high_at (put_at b q r) k ≡ high_at b k) ⊎ ((k ≡ q) × (high_at (put_at b q r) k ≡ r.high))
  high_or k =
      let e = get_or-set_other b (2 * q) (2 * k + 1) r.low (pos 0) (λ f. omega arith) in
      ⊎_elim (λ f. inl (f ∙ e)) (λ f. inr (omega (arith, f.0), f.1)) (set_or (set b (2 * q) r.low) (2 * q + 1) (2 * k + 1) r.high (pos 0))

  -- where the box has the quantity, both ends are
  pub put_low : 2 * q < length b → low_at (put_at b q r) q ≡ r.low
  put_low h =
      get_or-set_other (set b (2 * q) r.low) (2 * q + 1) (2 * q) r.high (pos 0) (λ e. omega arith)
      ∙ get_or-set_same b (2 * q) r.low (pos 0) h

  pub put_high : 2 * q + 1 < length b → high_at (put_at b q r) q ≡ r.high
  put_high h = get_or-set_same (set b (2 * q) r.low) (2 * q + 1) r.high (pos 0) (simp length-set h)

-- ---- a quantity that the box lacks reads as 0
pub low_none : (b : Box) (q : ℕ) → length b ≤ 2 * q → low_at b q ≡ pos 0
low_none b q h = get_or-eq_default b (pos 0) h

pub high_none : (b : Box) (q : ℕ) → length b ≤ 2 * q → high_at b q ≡ pos 0
high_none b q h = get_or-eq_default b (pos 0) (omega arith)

-- ---- boxes in boxes
-- b is as long as a, its ends have only moved inwards, and no range that had a value is left without
pub record Within (a b : Box) : Type 0 where
  pub long : length b ≡ length a
  pub low : (q : ℕ) → low_at a q ≤ℤ low_at b q
  pub filled : (q : ℕ) → low_at a q ≤ℤ high_at a q → low_at b q ≤ℤ high_at b q
  pub high : (q : ℕ) → high_at b q ≤ℤ high_at a q

pub within_trans : {a b c : Box} → Within a b → Within b c → Within a c
within_trans {a} {b} {c} h k = record {
  long = k.long ∙ h.long;
  low = λ q. omega (ints, h.low q, k.low q);
  filled = λ q i. k.filled q (h.filled q i);
  high = λ q. omega (ints, h.high q, k.high q);
}

-- b is smaller than a, where a is a list of ranges
abbrev pub Less : Box → Box → Type 0
Less a b = (n : ℕ) → length a ≡ 2 * n → Smaller n a b

pub smaller_within : {n : ℕ} {a b c : Box} → Smaller n a b → Within b c → Smaller n a c
smaller_within {n} {a} {b} {c} s w = record {
  place = s.place;
  counted = s.counted;
  less = ⊎_elim (λ h. inl (omega (ints, w.low s.place))) (λ h. inr (omega (ints, w.high s.place))) s.less;
}

-- ---- every range has one value
abbrev pub Single : Box → Type 0
Single b = (q : ℕ) → low_at b q ≡ high_at b q

pub single_range : (b : Box) → Single b → (q : ℕ) → range_at b q ≡ range (low_at b q) (low_at b q)
single_range b o q = ap (range (low_at b q)) (sym (o q))
