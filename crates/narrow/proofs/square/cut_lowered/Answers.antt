-- `narrow::square::cut_lowered` meets its contract: the square of the high end says whether it moves.
use Rattle.narrow.proofs.Kept.{same, replaced_some}
use mathlib.Core.Path.{ap, ◌∙◌}
use lib.IntN.{neg_ℤ}
use Rattle.whole.proofs.Quotients.{turn}
use Rattle.whole.specs.Numbers.{root_up}
use Rattle.whole.proofs.Spans.{ends_is}
use Rattle.narrow.proofs.Rooted.{square_least, lower_quiet, lower_done}
use Rattle.whole.proofs.Kit.{ints, rn}
use Rattle.narrow.proofs.square.cut_lowered.Goals as goal

pub replace-requires-clause-fact_2 : goal.replace-requires-clause-fact_2
replace-requires-clause-fact_2 c h =
    let k = c in
    let s = k in
    let a = s.args in
    let x = k.range_at-old in
    let z = c.range_at-least in
    let t = c.times in
    let up = c.up in
    let r = rn x.result.high x.ensures.good.high in
    let i = c.if-old-gt0.false in
    (lower_done a.x a.z a.changed a.frame.now.ends.now s.args.frame.now.fine s.requires.fact_1 x.ensures z.ensures (replaced_some h) (omega ints)
    (square_least x.result.high z.result.low t.result x.ensures.good.high z.ensures.good.low t.type_inv t.ensures c.if-least-times.false)
    (ends_is (rn x.result.low x.ensures.good.low) ((turn up.result up.ensures.near).is ∙ ap neg_ℤ (up.ensures.is ∙ ap root_up (rn z.result.low z.ensures.good.low))))).fine

pub returns-then-least-times : goal.returns-then-least-times
returns-then-least-times c =
    let k = c in
    let s = k in
    let a = s.args in
    let x = k.range_at-old in
    let z = c.range_at-least in
    let t = c.times in
    let r = rn x.result.high x.ensures.good.high in
    let i = c.if-old-gt0.false in
    record {
      kept = same;
      done = lower_quiet a.x a.z a.changed a.frame.now.ends.now s.args.frame.now.fine s.requires.fact_1 x.ensures z.ensures (omega ints)
          (square_least x.result.high z.result.low t.result x.ensures.good.high z.ensures.good.low t.type_inv t.ensures c.if-least-times.true);
    }

pub returns : goal.returns
returns c =
    let k = c in
    let s = k in
    let a = s.args in
    let x = k.range_at-old in
    let z = c.range_at-least in
    let t = c.times in
    let up = c.up in
    let r = rn x.result.high x.ensures.good.high in
    let i = c.if-old-gt0.false in
    record {
      kept = c.replace.ensures.kept;
      done = lower_done a.x a.z a.changed a.frame.now.ends.now s.args.frame.now.fine s.requires.fact_1 x.ensures z.ensures c.replace.ensures.value (omega ints)
          (square_least x.result.high z.result.low t.result x.ensures.good.high z.ensures.good.low t.type_inv t.ensures c.if-least-times.false)
          (ends_is (rn x.result.low x.ensures.good.low) ((turn up.result up.ensures.near).is ∙ ap neg_ℤ (up.ensures.is ∙ ap root_up (rn z.result.low z.ensures.good.low))));
    }
