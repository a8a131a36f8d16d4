-- The product keeps the order in both factors.
use mathlib.Core.Path.{sym, ap, ◌∙◌}
use Rattle.whole.specs.inner.Held.{held_span}
use Rattle.whole.proofs.Calls.{times_is}
use Rattle.whole.proofs.Spans.{ends_is, product_above_lem}
use Rattle.whole.proofs.span.product_above.Goals as goal

pub returns : goal.returns
returns c =
    let x = c.args.x in
    let y = c.args.y in
    let r = c.requires in
    let a = c.times in
    let b = c.times-2 in
    ends_is (times_is x.low y.low a.result r.good_1.low r.good_2.low a.type_inv a.ensures) (times_is x.high y.high b.result r.good_1.high r.good_2.high b.type_inv b.ensures)
    ∙ ap held_span (sym (product_above_lem x y r.pos_bound_1 r.pos_bound_2 r.good_1.ordered r.good_2.ordered))
