-- One cut: its range is what the old range and the span have in common, so ends move inwards only, and a value of both is kept.
use mathlib.Core.Path.{◌≡◌, refl, ap}
use mathlib.Core.Logic.{◌⊎◌, inl, inr, ⊎_elim}
use mathlib.Core.Bool.{Bool, true, false, cond}
use Prim.Native.Nat.{ℕ, ◌<◌}
use native.Mathlib.Decide.{dec_lt}
use native.Mathlib.Omega.{arith}
use lib.IntN.{ℤ}
use lib.Signed.{lt_z, ◌≤ℤ◌, ◌<ℤ◌}
use Rattle.whole.proofs.Kit.{ints, min_parts, max_parts}
use Rattle.whole.specs.Ranges.{Point, In, range}
use Rattle.whole.specs.declared.Range.{Range}
use Rattle.problem.specs.Problem.{Box, low_at, high_at, range_at, Inside}
use Rattle.narrow.specs.Cuts.{meet_of, put_at, Swept, empty, changed, unchanged, cut_to, cut_of, Cut, stay, void, to, act}
use Rattle.narrow.specs.Parts.{Smaller}
use Rattle.narrow.proofs.Boxes.{put_long, low_or, high_or, put_low, put_high, low_none, high_none, Within, Less}

-- ---- what a step asks changes nothing
abbrev pub Quiet : Box → Cut → Type 0
Quiet b stay = Unit {0}
Quiet b void = ⊥
Quiet b (to q s) = (s.low ≤ℤ low_at b q) × (high_at b q ≤ℤ s.high)

-- what can become of b: a range is empty; or it is within b, and less; or it is b still, and then Q holds
pub data Outcome (b : Box) (Q : Type 0) : Swept → Type 0 where
  ends : Outcome b Q empty
  moves : {b' : Box} → Within b b' → Less b b' → Outcome b Q (changed b')
  rests : Q → Outcome b Q (unchanged b)

-- ---- one cut
abbrev new_at : Box → ℕ → Range → Range
new_at b q s = meet_of (range_at b q) s

module _ (b : Box) (q : ℕ) (s : Range) (some : (new_at b q s).low ≤ℤ (new_at b q s).high) where
  put_within : Within b (put_at b q (new_at b q s))
  put_within =
      let lo = max_parts (low_at b q) s.low in
      let hi = min_parts (high_at b q) s.high in
      record {
        long = put_long b q (new_at b q s);
        low = λ k. ⊎_elim (λ e. omega ints) (λ e. omega (ints, ap (low_at b) e.0)) (low_or b q (new_at b q s) k);
        filled = λ k h. ⊎_elim
            (λ e. ⊎_elim (λ f. omega ints) (λ f. omega (ints, ap (low_at b) f.0)) (high_or b q (new_at b q s) k))
            (λ e. ⊎_elim (λ f. omega (ints, ap (high_at b) e.0)) (λ f. omega ints) (high_or b q (new_at b q s) k))
            (low_or b q (new_at b q s) k);
        high = λ k. ⊎_elim (λ e. omega ints) (λ e. omega (ints, ap (high_at b) e.0)) (high_or b q (new_at b q s) k);
      }

  put_smaller : (low_at b q <ℤ (new_at b q s).low) ⊎ ((new_at b q s).high <ℤ high_at b q) → Less b (put_at b q (new_at b q s))
  put_smaller h n e = go (dec_lt q n) h
    where
      go : Dec (q < n) → (low_at b q <ℤ (new_at b q s).low) ⊎ ((new_at b q s).high <ℤ high_at b q) → Smaller n b (put_at b q (new_at b q s))
      go (yes k) (inl h) = record { place = q; counted = k; less = inl (omega (ints, put_low b q (new_at b q s) (omega arith))) }
      go (yes k) (inr h) = record { place = q; counted = k; less = inr (omega (ints, put_high b q (new_at b q s) (omega arith))) }
      go (no k) (inl h) = absurd (omega (ints, low_none b q (omega arith), high_none b q (omega arith), min_parts (high_at b q) s.high))
      go (no k) (inr h) = absurd (omega (ints, low_none b q (omega arith), high_none b q (omega arith), max_parts (low_at b q) s.low))

cut_is : (q : ℕ) (s : Range) (b : Box) → Outcome b (Quiet b (to q s)) (cut_of q s b)
unfolding cut_of cut_to
cut_is q s b = go (lt_z (new_at b q s).high (new_at b q s).low) refl (lt_z (low_at b q) (new_at b q s).low) refl (lt_z (new_at b q s).high (high_at b q)) refl
  where
    go : (t : Bool) → lt_z (new_at b q s).high (new_at b q s).low ≡ t → (u : Bool) → lt_z (low_at b q) (new_at b q s).low ≡ u → (v : Bool) → lt_z (new_at b q s).high (high_at b q) ≡ v
        → Outcome b (Quiet b (to q s)) (cond t empty (cond u (changed (put_at b q (new_at b q s))) (cond v (changed (put_at b q (new_at b q s))) (unchanged b))))
    go true e u f v g = ends
    go false e true f v g = let h : (new_at b q s).low ≤ℤ (new_at b q s).high = omega ints in moves (put_within b q s h) (put_smaller b q s h (inl (omega ints)))
    go false e false f true g = let h : (new_at b q s).low ≤ℤ (new_at b q s).high = omega ints in moves (put_within b q s h) (put_smaller b q s h (inr (omega ints)))
    go false e false f false g = rests (omega (ints, max_parts (low_at b q) s.low), omega (ints, min_parts (high_at b q) s.high))

pub act_is : (k : Cut) (b : Box) → Outcome b (Quiet b k) (act k b)
act_is stay b = rests tt
act_is void b = ends
act_is (to q s) b = cut_is q s b

-- a quiet cut to one value, of a range of one value: it is that value
pub quiet_value : (b : Box) (q : ℕ) (s : Range) (v : ℤ) → low_at b q ≡ high_at b q → s ≡ range v v → Quiet b (to q s) → low_at b q ≡ v
quiet_value b q s v o e h = omega (ints, ap (λ (r : Range). r.low) e, ap (λ (r : Range). r.high) e)

-- ---- a point
-- what a step asks leaves the point's value: the step's quantity is one of the first n, and the value is in its range
abbrev pub Allows : ℕ → Point → Cut → Type 0
Allows n p stay = Unit {0}
Allows n p void = ⊥
Allows n p (to q s) = (q < n) × In s (p q)

-- not empty, and the point is inside
abbrev pub Keeps : ℕ → Point → Swept → Type 0
Keeps n p empty = ⊥
Keeps n p (changed b) = Inside n p b
Keeps n p (unchanged b) = Inside n p b

module _ (n : ℕ) (p : Point) where
  put_inside : (b : Box) (q : ℕ) (s : Range) → Inside n p b → In s (p q) → Inside n p (put_at b q (new_at b q s))
  put_inside b q s i j = record {
    each = λ k h. let x = i.each k h in record {
      above = ⊎_elim (λ e. omega ints) (λ e. omega (ints, ap (low_at b) e.0, ap p e.0, max_parts (low_at b q) s.low)) (low_or b q (new_at b q s) k);
      below = ⊎_elim (λ e. omega ints) (λ e. omega (ints, ap (high_at b) e.0, ap p e.0, min_parts (high_at b q) s.high)) (high_or b q (new_at b q s) k);
    };
  }

  cut_keeps : (b : Box) (q : ℕ) (s : Range) → Inside n p b → q < n → In s (p q) → Keeps n p (cut_of q s b)
  unfolding cut_of cut_to
  cut_keeps b q s i h j = go (lt_z (new_at b q s).high (new_at b q s).low) refl (lt_z (low_at b q) (new_at b q s).low) (lt_z (new_at b q s).high (high_at b q))
    where
      go : (t : Bool) → lt_z (new_at b q s).high (new_at b q s).low ≡ t → (u v : Bool) → Keeps n p (cond t empty (cond u (changed (put_at b q (new_at b q s))) (cond v (changed (put_at b q (new_at b q s))) (unchanged b))))
      go true e u v = let x = i.each q h in omega (ints, max_parts (low_at b q) s.low, min_parts (high_at b q) s.high)
      go false e true v = put_inside b q s i j
      go false e false true = put_inside b q s i j
      go false e false false = i

  pub act_keeps : (k : Cut) (b : Box) → Inside n p b → Allows n p k → Keeps n p (act k b)
  act_keeps stay b i h = i
  act_keeps void b i h = h
  act_keeps (to q s) b i h = cut_keeps b q s i h.0 h.1
