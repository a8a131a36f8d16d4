-- Low below 0: the 0 is the high end. Else it is the low end.
use Rattle.narrow.proofs.Kept.{replaced_some}
use mathlib.Core.Path.{refl}
use Rattle.whole.proofs.Kit.{ints, rn}
use Rattle.whole.proofs.Spans.{ends_is}
use Rattle.narrow.proofs.Trimmed.{trim_high_done, trim_low_done}
use Rattle.narrow.proofs.product.trim.Goals as goal

pub replace-requires-clause-fact_2 : goal.replace-requires-clause-fact_2
replace-requires-clause-fact_2 c h =
    let a = c.args in
    let y = c.range_at-old in
    let l = rn y.result.low y.ensures.good.low in
    (trim_high_done a.y a.z a.changed a.frame.now.ends.now c.args.frame.now.fine c.requires.fact_1 y.ensures c.if-not-trims.ensures (replaced_some h) (omega ints) (ends_is l refl)).fine

pub replace-requires-2-clause-fact_2 : goal.replace-requires-2-clause-fact_2
replace-requires-2-clause-fact_2 c h =
    let a = c.args in
    let y = c.range_at-old in
    let l = rn y.result.low y.ensures.good.low in
    (trim_low_done a.y a.z a.changed a.frame.now.ends.now c.args.frame.now.fine c.requires.fact_1 y.ensures c.if-not-trims.ensures (replaced_some h) (omega ints)
    (ends_is refl (rn y.result.high y.ensures.good.high))).fine

pub returns-then-old-lt0 : goal.returns-then-old-lt0
returns-then-old-lt0 c =
    let a = c.args in
    let y = c.range_at-old in
    let l = rn y.result.low y.ensures.good.low in
    record { kept = c.replace.ensures.kept; done = trim_high_done a.y a.z a.changed a.frame.now.ends.now c.args.frame.now.fine c.requires.fact_1 y.ensures c.if-not-trims.ensures c.replace.ensures.value (omega ints) (ends_is l refl) }

pub returns : goal.returns
returns c =
    let a = c.args in
    let y = c.range_at-old in
    let l = rn y.result.low y.ensures.good.low in
    record {
      kept = c.replace-2.ensures.kept;
      done = trim_low_done a.y a.z a.changed a.frame.now.ends.now c.args.frame.now.fine c.requires.fact_1 y.ensures c.if-not-trims.ensures c.replace-2.ensures.value (omega ints)
          (ends_is refl (rn y.result.high y.ensures.good.high));
    }
