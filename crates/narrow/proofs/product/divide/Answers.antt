-- The two ends written are those of what x and the quotients have in common, and one of them moves.
use Rattle.narrow.proofs.Kept.{replaced_some}
use mathlib.Core.Path.{◌≡◌, refl, ap₂, ◌∙◌}
use Rattle.whole.specs.Ranges.{range}
use Rattle.whole.proofs.Kit.{ints, at}
use Rattle.problem.specs.Problem.{range_at}
use Rattle.narrow.specs.Cuts.{meet_of}
use Rattle.narrow.specs.Narrowing.{quotient_span, quotient_step}
use Rattle.narrow.proofs.Cutting.{new_met, done_span, done_replaced}
use Rattle.narrow.proofs.Divided.{quotient_to, no_zero_above, moved_meets, moved_read}
use Rattle.narrow.proofs.product.divide.Goals as goal

pub replace-requires-clause-fact_2 : goal.replace-requires-clause-fact_2
replace-requires-clause-fact_2 c h =
    let a = c.args in
    let box = a.frame.now.ends.now in
    let x = range_at box a.x in
    let z = range_at box a.z in
    let y = range_at box a.y in
    let moving = c.if-not-moves.ensures in
    let seen = c.range_at-old.ensures in
    let old = c.range_at-old.result in
    let span = c.quotient_above-s.result in
    let low = c.max-low in
    let high = c.min-high in
    let new = range (at low.result) (at high.result) in
    let met : new ≡ meet_of old span = new_met span seen.good (omega ints) (omega ints) low.type_inv low.ensures.value high.type_inv high.ensures.value in
    let span_is : span ≡ quotient_span z y = c.quotient_above-s.ensures ∙ ap₂ quotient_span c.range_at.ensures.is c.range_at-2.ensures.is in
    (done_span (quotient_step a.x a.z a.y) (quotient_to a.x z y (no_zero_above y (moving.above refl)))
    (done_replaced a.x span a.changed box c.args.frame.now.fine c.requires.fact_1 old new seen met (replaced_some h)
    (moved_read seen.is (met ∙ ap₂ meet_of seen.is span_is) (moved_meets x (quotient_span z y) (moving.moved refl))))
    span_is).fine

pub returns : goal.returns
returns c =
    let a = c.args in
    let box = a.frame.now.ends.now in
    let x = range_at box a.x in
    let z = range_at box a.z in
    let y = range_at box a.y in
    let moving = c.if-not-moves.ensures in
    let seen = c.range_at-old.ensures in
    let old = c.range_at-old.result in
    let span = c.quotient_above-s.result in
    let low = c.max-low in
    let high = c.min-high in
    let new = range (at low.result) (at high.result) in
    let met : new ≡ meet_of old span = new_met span seen.good (omega ints) (omega ints) low.type_inv low.ensures.value high.type_inv high.ensures.value in
    let span_is : span ≡ quotient_span z y = c.quotient_above-s.ensures ∙ ap₂ quotient_span c.range_at.ensures.is c.range_at-2.ensures.is in
    record {
      kept = c.replace.ensures.kept;
      done = done_span (quotient_step a.x a.z a.y) (quotient_to a.x z y (no_zero_above y (moving.above refl)))
          (done_replaced a.x span a.changed box c.args.frame.now.fine c.requires.fact_1 old new seen met c.replace.ensures.value
          (moved_read seen.is (met ∙ ap₂ meet_of seen.is span_is) (moved_meets x (quotient_span z y) (moving.moved refl))))
          span_is;
    }
