-- y that holds 0 leaves x, y above 0 moves no end of it, and y below 0 cuts it to the quotients.
use Rattle.narrow.proofs.Kept.{same}
use mathlib.Core.Path.{refl, ap₂, subst, ◌∙◌}
use mathlib.Core.Logic.{⊎_elim}
use lib.IntN.{pos}
use lib.Signed.{◌≤ℤ◌, ◌<ℤ◌}
use Rattle.whole.specs.declared.Range.{Range}
use Rattle.whole.specs.Ranges.{holds_zero}
use Rattle.whole.proofs.Kit.{ints, rn}
use Rattle.whole.proofs.Spans.{clear}
use Rattle.problem.specs.Problem.{range_at}
use Rattle.problem.proofs.Tests.{by_bool}
use Rattle.narrow.specs.Narrowing.{quotient_span, quotient_step}
use Rattle.narrow.proofs.Cutting.{done_stay, done_quiet, done_span}
use Rattle.narrow.proofs.Divided.{quotient_stay, quotient_to, no_zero_below}
use Rattle.narrow.proofs.product.cut_below.Goals as goal

pub returns-then-by-ge0 : goal.returns-then-by-ge0
returns-then-by-ge0 c =
    let s = c in
    let a = s.args in
    let b = a.frame.now.ends.now in
    let y = range_at b a.y in
    let m = s.requires.fact_4 in
    let seen = c.range_at-by.ensures in
    let r = rn c.range_at-by.result.high seen.good.high in
    let t = c.if-by-ge0.true in
    let h : pos 0 ≤ℤ y.high = subst (λ (r : Range). pos 0 ≤ℤ r.high) seen.is (omega ints) in
    record {
      kept = same;
      done = by_bool (holds_zero y)
          (λ e. done_stay (quotient_step a.x a.z a.y) a.changed b s.args.frame.now.fine (quotient_stay a.x (range_at b a.z) y e))
          (λ e. let k : pos 0 <ℤ y.low = ⊎_elim (λ k. k) (λ k. absurd (omega ints)) (clear y e) in
          done_quiet (quotient_step a.x a.z a.y) a.changed b s.args.frame.now.fine s.requires.fact_1 (quotient_to a.x (range_at b a.z) y e) (m.low refl k) (m.high refl k));
    }

pub returns : goal.returns
returns c =
    let s = c in
    let a = s.args in
    let b = a.frame.now.ends.now in
    let by = c.range_at-by in
    let r = rn by.result.high by.ensures.good.high in
    let t = c.if-by-ge0.false in
    let h : (range_at b a.y).high <ℤ pos 0 = subst (λ (r : Range). r.high <ℤ pos 0) by.ensures.is (omega ints) in
    record {
      kept = c.cut.ensures.kept;
      done = done_span (quotient_step a.x a.z a.y) (quotient_to a.x (range_at b a.z) (range_at b a.y) (no_zero_below (range_at b a.y) h)) c.cut.ensures.done
          (c.quotient_below-s.ensures ∙ ap₂ quotient_span c.range_at.ensures.is by.ensures.is);
    }
