-- No test against a near number tells a number from one that is held alike.
use mathlib.Core.Path.{ap₂, ◌∙◌}
use lib.IntN.{ℤ, ◌*ℤ◌}
use lib.Signed.{lt_z}
use Rattle.whole.specs.inner.Held.{held}
use Rattle.whole.proofs.Kit.{rd, got}
use Rattle.whole.proofs.Held.{lt_alike}
use Rattle.whole.proofs.product.above.Goals as goal

pub returns : goal.returns
returns c =
    let r = c.reached in
    let s = c.args in
    ap₂ lt_z (rd c.ranges.z) (got r.result r.type_inv)
    ∙ lt_alike r.result (s.a *ℤ s.b) s.z c.requires.fact_3 (r.ensures ∙ ap₂ (λ (x y : ℤ). held (x *ℤ y)) (rd c.ranges.a) (rd c.ranges.b))
