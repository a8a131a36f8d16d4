-- Ranges that can be computed with. A range is kept unless it is bad, so what is kept is good; a span and the span held are bad alike, and
-- what is kept of them is the same, since held ends are exact up to M and beyond M past it.
use mathlib.Core.Path.{◌≡◌, sym, ap₂, ◌∙◌}
use mathlib.Core.Bool.{false, ◌||◌}
use lib.IntN.{ℤ}
use lib.Signed.{lt_z, ◌≤ℤ◌}
use Rattle.whole.specs.Numbers.{M, minus_m, Near}
use Rattle.whole.specs.inner.Held.{held, held_span, Good}
use Rattle.whole.specs.declared.Range.{Range}
use Rattle.whole.proofs.Kit.{ints}
use Rattle.whole.proofs.Held.{held_mono, held_near, held_lt, lt_held}
use Rattle.whole.proofs.Spans.{ends_is}
use Rattle.problem.specs.Grounds.{beyond, bad_range}
use Rattle.problem.proofs.Tests.{or_first, or_second, by_bool}
use Rattle.lines.specs.inner.Emission.{kept}

-- ---- what is kept

near_of : (z : ℤ) → beyond z ≡ false → Near z
near_of z e =
    let h = or_first (lt_z z minus_m) (lt_z M z) e in
    let k = or_second (lt_z z minus_m) (lt_z M z) e in
    omega ints

pub good_of : (r : Range) → bad_range r.low r.high ≡ false → Good r
good_of r e =
    let h = or_first (lt_z r.high r.low) (beyond r.low || beyond r.high) e in
    let k = or_second (lt_z r.high r.low) (beyond r.low || beyond r.high) e in
    record {
      low = near_of r.low (or_first (beyond r.low) (beyond r.high) k);
      high = near_of r.high (or_second (beyond r.low) (beyond r.high) k);
      ordered = omega ints;
    }

-- ---- held spans
beyond_held : (z : ℤ) → beyond (held z) ≡ beyond z
beyond_held z = ap₂ ◌||◌ (held_lt z minus_m (omega ints)) (lt_held z M (omega ints))

module _ (s : Range) (o : s.low ≤ℤ s.high) where
  pub bad_held : bad_range (held s.low) (held s.high) ≡ bad_range s.low s.high
  bad_held =
      let m = held_mono s.low s.high o in
      let a : lt_z (held s.high) (held s.low) ≡ false = omega ints in
      let b : lt_z s.high s.low ≡ false = omega ints in
      ap₂ ◌||◌ (a ∙ sym b) (ap₂ ◌||◌ (beyond_held s.low) (beyond_held s.high))

  pub kept_held : kept (held_span s) ≡ kept s
  kept_held = by_bool (bad_range s.low s.high) (λ e. rw (bad_held, e)) (λ e. let g = good_of s e in rw (bad_held, e) (ends_is (held_near s.low g.low) (held_near s.high g.high)))
