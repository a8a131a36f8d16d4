-- Each turn adds what one quantity more takes to be halved.
use mathlib.Core.Path.{ap}
use native.Mathlib.Omega.{arith}
use Rattle.whole.specs.Numbers.{least_power}
use Rattle.whole.specs.Ranges.{values}
use Rattle.whole.specs.declared.Range.{Range}
use Rattle.search.proofs.Deep.{depth_none, depth_more}
use Rattle.search.proofs.room.depth.Goals as goal

pub loop-q-init : goal.loop-q-init
loop-q-init c = omega (arith, depth_none c.args.ranges.now)

pub loop-q-preserved : goal.loop-q-preserved
loop-q-preserved c =
    let h = c.halvings-sum.ensures in
    omega (arith, depth_more c.args.ranges.now c.loop-q.q, ap (λ (x : Range). least_power (values x)) c.range_at.ensures.is)
