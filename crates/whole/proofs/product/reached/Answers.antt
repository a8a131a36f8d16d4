-- A small factor leaves the plain product within 64 bits, and of two that are not small only the signs count.
use mathlib.Core.Path.{ap, ◌∙◌}
use lib.IntN.{ℤ, ◌*ℤ◌}
use Rattle.whole.specs.inner.Held.{held}
use Rattle.whole.proofs.Kit.{rd, call2}
use Rattle.whole.proofs.Held.{held_held}
use Rattle.whole.proofs.product.reached.Goals as goal

pub returns : goal.returns
returns c =
    ap held (call2 (λ (x y : ℤ). held (x *ℤ y)) c.beyond.result c.beyond.type_inv c.beyond.ensures (rd c.ranges.a) (rd c.ranges.b))
    ∙ held_held (c.args.a *ℤ c.args.b)
