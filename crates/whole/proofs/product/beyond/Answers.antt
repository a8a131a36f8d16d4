-- Each factor is past the root of M, so their signs tell on which side the product is.
use mathlib.Core.Path.{sym, ap₂, ◌∙◌}
use mathlib.Core.Bool.{beq}
use lib.IntN.{ℤ, pos}
use lib.Signed.{lt_z}
use Rattle.whole.proofs.Kit.{rd}
use Rattle.whole.proofs.Products.{large_abs, one_side, two_sides}
use Rattle.whole.proofs.product.beyond.Goals as goal

pub returns-then-a-b : goal.returns-then-a-b
returns-then-a-b c =
    one_side c.args.a c.args.b (large_abs c.args.a c.requires.pos_value) (large_abs c.args.b c.requires.pos_value_2)
    (ap₂ (λ (x y : ℤ). beq (lt_z x (pos 0)) (lt_z y (pos 0))) (sym (rd c.ranges.a)) (sym (rd c.ranges.b)) ∙ c.if-a-b.true)

pub returns-else-a-b : goal.returns-else-a-b
returns-else-a-b c =
    two_sides c.args.a c.args.b (large_abs c.args.a c.requires.pos_value) (large_abs c.args.b c.requires.pos_value_2)
    (ap₂ (λ (x y : ℤ). beq (lt_z x (pos 0)) (lt_z y (pos 0))) (sym (rd c.ranges.a)) (sym (rd c.ranges.b)) ∙ c.if-a-b.false)
