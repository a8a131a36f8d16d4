-- With both signs turned, y is above 0: by the sign of z, one of its ends gives the least of the four quotients, and one the greatest.
use mir.Val.{to_z}
use mir.Syntax.{w64}
use mathlib.Core.Path.{ap, ◌∙◌}
use lib.IntN.{ℤ, neg_ℤ}
use Rattle.whole.specs.Numbers.{floor_q, ceil_q}
use Rattle.whole.proofs.Spans.{ends_is}
use Rattle.whole.proofs.Kit.{ints, got, rn, neg_positive, neg_negative}
use Rattle.narrow.proofs.Divided.{turned, Least, least_low, least_high, Greatest, greatest_high, greatest_low, least_below, greatest_below}
use Rattle.narrow.proofs.product.quotient_below.Goals as goal
use Rattle.narrow.proofs.product.quotient_below.Goals.{then-z-gt0, else-z-gt0, then-z-gt0-2, else-z-gt0-2}

pub returns : goal.returns
returns c =
    let z = c.args.z in
    let y = c.args.y in
    let gz = c.requires.fact_1 in
    let gy = c.requires.fact_2 in
    let zl = rn z.low gz.low in
    let zh = rn z.high gz.high in
    let yl = rn y.low gy.low in
    let yh = rn y.high gy.high in
    let l = to_z w64 c.if-z-gt0.least-bits in
    let g = to_z w64 c.if-z-gt0-2.greatest-bits in
    let p : Least (turned z) (turned y) (neg_ℤ l) = elim c.if-z-gt0.branch [ then-z-gt0 w ↦ let t = w.if-z-gt0.true in least_low (omega (ints, neg_positive z.high, neg_negative z.high)) (ap neg_ℤ (w.least-is ∙ yh)) | else-z-gt0 w ↦ let t = w.if-z-gt0.false in least_high (omega (ints, neg_positive z.high, neg_negative z.high)) (ap neg_ℤ (w.least-is ∙ yl)) ] in
    let q : Greatest (turned z) (turned y) (neg_ℤ g) = elim c.if-z-gt0-2.branch [ then-z-gt0-2 w ↦ let t = w.if-z-gt0-2.true in greatest_high (omega (ints, neg_positive z.low, neg_negative z.low)) (ap neg_ℤ (w.greatest-is ∙ yl)) | else-z-gt0-2 w ↦ let t = w.if-z-gt0-2.false in greatest_low (omega (ints, neg_positive z.low, neg_negative z.low)) (ap neg_ℤ (w.greatest-is ∙ yh)) ] in
    ends_is
    (got c.ceiling.result c.ceiling.type_inv ∙ c.ceiling.ensures.is ∙ ap (λ (x : ℤ). ceil_q x l) zh ∙ least_below z y gy c.requires.fact_3 l gz p)
    (got c.floor.result c.floor.type_inv ∙ c.floor.ensures.is ∙ ap (λ (x : ℤ). floor_q x g) zl ∙ greatest_below z y gy c.requires.fact_3 g gz q)
