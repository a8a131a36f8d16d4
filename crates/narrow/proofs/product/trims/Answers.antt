-- y above 0, round it or below it has no 0 at an end; else z tells.
use mathlib.Core.Path.{◌≡◌}
use mathlib.Core.Logic.{◌⊎◌, inl, inr}
use lib.IntN.{pos}
use Rattle.whole.proofs.Kit.{ints, rn}
use Rattle.narrow.proofs.Trimmed.{trims_ended, trims_read}
use Rattle.narrow.proofs.product.trims.Goals as goal
use Rattle.narrow.proofs.product.trims.Goals.{then-by-lt0+else-by-gt0-2+else-by-lt0-2, else-by-lt0}

pub returns : goal.returns
returns c =
    let y = c.range_at-by in
    let z = c.range_at in
    let l = rn y.result.low y.ensures.good.low in
    let h = rn y.result.high y.ensures.good.high in
    let t = c.if-by-gt0.false in
    let e : (y.result.low ≡ pos 0) ⊎ (y.result.high ≡ pos 0) = elim c.if-by-lt0.branch [ then-by-lt0+else-by-gt0-2+else-by-lt0-2 w ↦ let u = w.if-by-gt0-2.false in let v = w.if-by-lt0-2.false in inr (omega ints) | else-by-lt0 w ↦ let u = w.if-by-lt0.false in inl (omega ints) ] in
    trims_read y.ensures.is z.ensures.is (trims_ended y.result z.result e c.holds_zero.ensures)
