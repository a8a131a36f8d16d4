-- Holding goes through the least and the greatest.
use mathlib.Core.Path.{ap₂, ◌∙◌}
use Rattle.std.specs.Int.{int_min, int_max}
use Rattle.whole.proofs.Kit.{got, min4_is, max4_is}
use Rattle.whole.proofs.Calls.{times_is, product_low, product_high}
use Rattle.whole.proofs.Spans.{ends_is}
use Rattle.whole.proofs.span.product.Goals as goal

pub returns : goal.returns
returns c =
    let x = c.args.x in
    let y = c.args.y in
    let f = c.requires.fact_1 in
    let g = c.requires.fact_2 in
    let l = c.min-3 in
    let h = c.max-3 in
    let p = times_is x.low y.low c.times-p.result f.low g.low c.times-p.type_inv c.times-p.ensures in
    let q = times_is x.low y.high c.times-q.result f.low g.high c.times-q.type_inv c.times-q.ensures in
    let r = times_is x.high y.low c.times-r.result f.high g.low c.times-r.type_inv c.times-r.ensures in
    let s = times_is x.high y.high c.times-s.result f.high g.high c.times-s.type_inv c.times-s.ensures in
    ends_is
    (product_low x y p q r s l.result l.type_inv
    (l.ensures.value ∙ ap₂ int_min (got c.min.result c.min.type_inv ∙ c.min.ensures.value) (got c.min-2.result c.min-2.type_inv ∙ c.min-2.ensures.value) ∙ min4_is _ _ _ _))
    (product_high x y p q r s h.result h.type_inv
    (h.ensures.value ∙ ap₂ int_max (got c.max.result c.max.type_inv ∙ c.max.ensures.value) (got c.max-2.result c.max-2.type_inv ∙ c.max-2.ensures.value) ∙ max4_is _ _ _ _))
