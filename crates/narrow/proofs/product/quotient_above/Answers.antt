-- By the sign of z, one end of y gives the least of the four quotients, and one the greatest.
use mir.Val.{to_z}
use mir.Syntax.{w64}
use mathlib.Core.Path.{ap, ◌∙◌}
use lib.IntN.{ℤ}
use Rattle.whole.specs.Numbers.{floor_q, ceil_q}
use Rattle.whole.proofs.Spans.{ends_is}
use Rattle.whole.proofs.Kit.{ints, got, rn}
use Rattle.narrow.proofs.Divided.{Least, least_low, least_high, Greatest, greatest_high, greatest_low, least_is, greatest_is}
use Rattle.narrow.proofs.product.quotient_above.Goals as goal
use Rattle.narrow.proofs.product.quotient_above.Goals.{then-z-lt0, else-z-lt0, then-z-lt0-2, else-z-lt0-2}

pub returns : goal.returns
returns c =
    let z = c.args.z in
    let y = c.args.y in
    let gz = c.requires.fact_1 in
    let gy = c.requires.fact_2 in
    let zl = rn z.low gz.low in
    let zh = rn z.high gz.high in
    let yl = rn y.low gy.low in
    let yh = rn y.high gy.high in
    let l = to_z w64 c.if-z-lt0.least-bits in
    let g = to_z w64 c.if-z-lt0-2.greatest-bits in
    let p : Least z y l = elim c.if-z-lt0.branch [ then-z-lt0 w ↦ let t = w.if-z-lt0.true in least_low (omega ints) (w.least-is ∙ yl) | else-z-lt0 w ↦ let t = w.if-z-lt0.false in least_high (omega ints) (w.least-is ∙ yh) ] in
    let q : Greatest z y g = elim c.if-z-lt0-2.branch [ then-z-lt0-2 w ↦ let t = w.if-z-lt0-2.true in greatest_high (omega ints) (w.greatest-is ∙ yh) | else-z-lt0-2 w ↦ let t = w.if-z-lt0-2.false in greatest_low (omega ints) (w.greatest-is ∙ yl) ] in
    ends_is
    (got c.up.result c.up.type_inv ∙ c.up.ensures.is ∙ ap (λ (x : ℤ). ceil_q x l) zl ∙ least_is z y gz.ordered gy.ordered c.requires.fact_3 l p)
    (got c.down.result c.down.type_inv ∙ c.down.ensures.is ∙ ap (λ (x : ℤ). floor_q x g) zh ∙ greatest_is z y gz.ordered gy.ordered c.requires.fact_3 g q)
