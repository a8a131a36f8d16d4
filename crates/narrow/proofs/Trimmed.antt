-- A 0 at an end of a divisor's range: the code's tests tell where it goes, and a range with low 0 gets low 1, which is empty where its high is 0 too.
use mathlib.Core.Path.{◌≡◌, refl, sym, ap, subst, ◌∙◌}
use mathlib.Core.Logic.{◌⊎◌, inl, inr, ⊎_elim}
use mathlib.Core.List.{[], ◌∷◌}
use mathlib.Core.Bool.{Bool, true, false, not}
use Prim.Native.Nat.{ℕ}
use borrow.Author.Tests.{not-true, not-false}
use lib.IntN.{ℤ, pos, negsuc}
use lib.Signed.{lt_z, ◌≤ℤ◌, ◌<ℤ◌}
use Rattle.whole.specs.Ranges.{range, holds_zero}
use Rattle.whole.specs.declared.Range.{Range}
use Rattle.whole.proofs.Kit.{ints, min_parts, max_parts, lt_or_le}
use Rattle.whole.proofs.Spans.{ends_is}
use Rattle.problem.specs.Grounds.{differ}
use Rattle.problem.specs.Problem.{Box, range_at}
use Rattle.narrow.specs.Cuts.{meet_of, stay, void, to}
use Rattle.narrow.specs.Narrowing.{trim_cut, trim_step}
use Rattle.narrow.specs.inner.Done.{Has, Fine, Seen, Replaced, Done}
use Rattle.narrow.specs.inner.Product.{Trimming}
use Rattle.std.specs.Prelude.{Result}
use Rattle.narrow.specs.declared.Emptied.{Emptied}
use Rattle.narrow.proofs.Cutting.{done_replaced, done_void, done_span}

-- ---- the test of an end
is_zero : {a : ℤ} → a ≡ pos 0 → differ a (pos 0) ≡ false
is_zero e = ap (λ (x : ℤ). differ x (pos 0)) e

below_zero : {a : ℤ} → a <ℤ pos 0 → differ a (pos 0) ≡ true
below_zero {a} h = let e : lt_z a (pos 0) ≡ true = omega ints in rw e

above_zero : {a : ℤ} → pos 0 <ℤ a → differ a (pos 0) ≡ true
above_zero {a} h = let e : lt_z a (pos 0) ≡ false = omega ints in let f : lt_z (pos 0) a ≡ true = omega ints in rw (e, f)

-- ---- the cut
module _ (y : ℕ) (Y Z : Range) where
  trim_rests : holds_zero Z ≡ true → trim_cut y Y Z ≡ stay
  trim_rests g = rw g

  trim_high : holds_zero Z ≡ false → differ Y.low (pos 0) ≡ true → differ Y.high (pos 0) ≡ false → trim_cut y Y Z ≡ to y (range Y.low (negsuc 0))
  trim_high g e f = rw (g, e, f)

  trim_low : holds_zero Z ≡ false → differ Y.low (pos 0) ≡ false → differ Y.high (pos 0) ≡ true → trim_cut y Y Z ≡ to y (range (pos 1) Y.high)
  trim_low g e f = rw (g, e, f)

  trim_both : holds_zero Z ≡ false → differ Y.low (pos 0) ≡ false → differ Y.high (pos 0) ≡ false → trim_cut y Y Z ≡ void
  trim_both g e f = rw (g, e, f)

-- ---- whether it is made
module _ (Y Z : Range) where
  -- with a 0 at an end z tells
  pub trims_ended : (Y.low ≡ pos 0) ⊎ (Y.high ≡ pos 0) → {h : Bool} → h ≡ holds_zero Z → Trimming Y Z (not h)
  trims_ended s {h} e = record {
    clear = λ t. sym e ∙ not-true h t;
    ended = λ _. s;
    stays = λ t y. trim_rests y Y Z (sym e ∙ not-false h t);
  }

-- of the ranges that were read
pub trims_read : {Y Y' Z Z' : Range} {r : Bool} → Y ≡ Y' → Z ≡ Z' → Trimming Y Z r → Trimming Y' Z' r
trims_read {Y} {Y'} {Z} {Z'} {r} e f m = subst (λ (t : Range). Trimming t Z' r) e (subst (λ (t : Range). Trimming Y t r) f m)

-- ---- the step
module _ (y z : ℕ) (p : Bool) (b : Box) (f : Fine b) (has : Has b y) {Y : Range} (seen : Seen b y Y) (m : Trimming (range_at b y) (range_at b z) true) {new : Range} {r : Result Bool Emptied} {b' : Box} (d : Replaced y new b r b') where
  read : trim_step y z b ≡ trim_cut y Y (range_at b z)
  read = ap (λ (t : Range). trim_cut y t (range_at b z)) (sym seen.is)

  ended : (Y.low ≡ pos 0) ⊎ (Y.high ≡ pos 0)
  ended = subst (λ (t : Range). (t.low ≡ pos 0) ⊎ (t.high ≡ pos 0)) (sym seen.is) (m.ended refl)

  pub trim_high_done : Y.low <ℤ pos 0 → new ≡ range Y.low (negsuc 0) → Done (trim_step y z ∷ []) p b r b'
  trim_high_done h e =
      let s = range Y.low (negsuc 0) in
      let k : Y.high ≡ pos 0 = ⊎_elim (λ l. absurd (omega ints)) (λ l. l) ended in
      let i = ap (λ (t : Range). t.high) e in
      let g : s ≡ meet_of Y s = ends_is (omega (ints, max_parts Y.low Y.low)) (omega (ints, min_parts Y.high (negsuc 0))) in
      done_span (trim_step y z) (read ∙ trim_high y Y (range_at b z) (m.clear refl) (below_zero h) (is_zero k)) (done_replaced y s p b f has Y new seen (e ∙ g) d (inr (omega ints))) refl

  module _ (h : Y.low ≡ pos 0) (e : new ≡ range (pos 1) Y.high) where
    low_done : pos 0 <ℤ Y.high → Done (trim_step y z ∷ []) p b r b'
    low_done k =
        let s = range (pos 1) Y.high in
        let i = ap (λ (t : Range). t.low) e in
        let g : s ≡ meet_of Y s = ends_is (omega (ints, max_parts Y.low (pos 1))) (omega (ints, min_parts Y.high Y.high)) in
        done_span (trim_step y z) (read ∙ trim_low y Y (range_at b z) (m.clear refl) (is_zero h) (above_zero k)) (done_replaced y s p b f has Y new seen (e ∙ g) d (inl (omega ints))) refl

    both_done : Y.high ≡ pos 0 → Done (trim_step y z ∷ []) p b r b'
    both_done k =
        let i = ap (λ (t : Range). t.low) e in
        let j = ap (λ (t : Range). t.high) e in
        let g = d.none (omega ints) in
        rw (g.0, g.1) (done_void (trim_step y z) p b f (read ∙ trim_both y Y (range_at b z) (m.clear refl) (is_zero h) (is_zero k)))

  pub trim_low_done : pos 0 ≤ℤ Y.low → new ≡ range (pos 1) Y.high → Done (trim_step y z ∷ []) p b r b'
  trim_low_done h e =
      let o = seen.good.ordered in
      let i : Y.low ≡ pos 0 = ⊎_elim (λ l. l) (λ l. omega ints) ended in
      ⊎_elim (λ k. low_done i e k) (λ k. both_done i e (omega ints)) (lt_or_le (pos 0) Y.high)
