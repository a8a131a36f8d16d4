-- No test against a near number tells a number from one that is held alike.
use mathlib.Core.Path.{ap₂, ◌∙◌}
use lib.IntN.{ℤ, ◌*ℤ◌}
use lib.Signed.{lt_z}
use Rattle.whole.specs.inner.Held.{held}
use Rattle.whole.proofs.Kit.{rd, got}
use Rattle.whole.proofs.Held.{alike_lt}
use Rattle.whole.proofs.product.below.Goals as goal

pub returns : goal.returns
returns c =
    let r = c.reached in
    let s = c.args in
    ap₂ lt_z (got r.result r.type_inv) (rd c.ranges.z)
    ∙ alike_lt r.result (s.a *ℤ s.b) s.z c.requires.fact_3 (r.ensures ∙ ap₂ (λ (x y : ℤ). held (x *ℤ y)) (rd c.ranges.a) (rd c.ranges.b))
