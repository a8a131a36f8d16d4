-- Numbers that are held alike are held as one, and the definition is the larger of the one bound and the smaller of the other and the number.
use mathlib.Core.Path.{ap, ap₂, ◌∙◌}
use lib.IntN.{ℤ, pos, negsuc, ◌*ℤ◌}
use Rattle.std.specs.Int.{int_min, int_max}
use Rattle.whole.specs.inner.Held.{held}
use Rattle.whole.proofs.Kit.{rd, got}
use Rattle.whole.proofs.Held.{clamp_is}
use Rattle.whole.proofs.product.times.Goals as goal

pub returns : goal.returns
returns c =
    let p = c.plain in
    let h = c.clamp in
    got h.result h.type_inv ∙ h.ensures.value
    ∙ ap (λ (z : ℤ). int_max (negsuc 1_000_000_000_000) (int_min z (pos 1_000_000_000_001))) (got p.result p.type_inv)
    ∙ clamp_is p.result ∙ ap held (p.ensures ∙ ap₂ (λ (x y : ℤ). x *ℤ y) (rd c.ranges.a) (rd c.ranges.b))
