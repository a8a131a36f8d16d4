-- y that is not above 0 moves nothing; else the end of y that gives the least tells of x's low end, and the one that gives the greatest of its high end.
use mir.Val.{to_z}
use mir.Syntax.{w64}
use mathlib.Core.Path.{◌≡◌, sym, ap₂, ◌∙◌}
use lib.IntN.{ℤ, pos, ◌*ℤ◌}
use lib.Signed.{lt_z, ◌<ℤ◌}
use Rattle.whole.proofs.Kit.{ints, rn}
use Rattle.narrow.proofs.Divided.{Least, least_low, least_high, Greatest, greatest_high, greatest_low, moves_low, moves_high, moves_read}
use Rattle.narrow.proofs.product.moves.Goals as goal
use Rattle.narrow.proofs.product.moves.Goals.{then-of-lt0, else-of-lt0, then-of-lt0-2, else-of-lt0-2}

pub returns-then-below : goal.returns-then-below
returns-then-below c =
    let x = c.range_at-old in
    let z = c.range_at-of in
    let y = c.range_at-by in
    let rx = rn x.result.low x.ensures.good.low in
    let rz = rn z.result.low z.ensures.good.low in
    let ry = rn y.result.low y.ensures.good.low in
    let t = c.if-by-le0.false in
    let k : pos 0 <ℤ y.result.low = omega ints in
    let l = to_z w64 c.if-of-lt0.least-bits in
    let p : Least z.result y.result l = elim c.if-of-lt0.branch [ then-of-lt0 w ↦ let u = w.if-of-lt0.true in least_low (omega ints) (w.least-is ∙ ry) | else-of-lt0 w ↦ let u = w.if-of-lt0.false in least_high (omega ints) (w.least-is ∙ rn y.result.high y.ensures.good.high) ] in
    let e : c.below.result ≡ lt_z (x.result.low *ℤ l) z.result.low = c.below.ensures ∙ ap₂ (λ (u v : ℤ). lt_z (u *ℤ l) v) rx rz in
    moves_read x.ensures.is z.ensures.is y.ensures.is (moves_low x.result z.result y.result z.ensures.good.ordered y.ensures.good k l p (sym e ∙ c.if-below.true))

pub returns : goal.returns
returns c =
    let x = c.range_at-old in
    let z = c.range_at-of in
    let y = c.range_at-by in
    let rx = rn x.result.low x.ensures.good.low in
    let rz = rn z.result.low z.ensures.good.low in
    let ry = rn y.result.low y.ensures.good.low in
    let t = c.if-by-le0.false in
    let k : pos 0 <ℤ y.result.low = omega ints in
    let l = to_z w64 c.if-of-lt0.least-bits in
    let p : Least z.result y.result l = elim c.if-of-lt0.branch [ then-of-lt0 w ↦ let u = w.if-of-lt0.true in least_low (omega ints) (w.least-is ∙ ry) | else-of-lt0 w ↦ let u = w.if-of-lt0.false in least_high (omega ints) (w.least-is ∙ rn y.result.high y.ensures.good.high) ] in
    let e : c.below.result ≡ lt_z (x.result.low *ℤ l) z.result.low = c.below.ensures ∙ ap₂ (λ (u v : ℤ). lt_z (u *ℤ l) v) rx rz in
    let rh = rn z.result.high z.ensures.good.high in
    let g = to_z w64 c.if-of-lt0-2.greatest-bits in
    let q : Greatest z.result y.result g = elim c.if-of-lt0-2.branch [ then-of-lt0-2 w ↦ let u = w.if-of-lt0-2.true in greatest_high (omega ints) (w.greatest-is ∙ rn y.result.high y.ensures.good.high) | else-of-lt0-2 w ↦ let u = w.if-of-lt0-2.false in greatest_low (omega ints) (w.greatest-is ∙ ry) ] in
    moves_read x.ensures.is z.ensures.is y.ensures.is
    (moves_high x.result z.result y.result z.ensures.good.ordered y.ensures.good k l g p q (sym e ∙ c.if-below.false)
    c.above.result (c.above.ensures ∙ ap₂ (λ (u v : ℤ). lt_z v (u *ℤ g)) (rn x.result.high x.ensures.good.high) rh))
