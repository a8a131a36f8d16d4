-- Every step ends at the root rounded down or above it, and each one from above falls; where the square is not above n, it is the root.
use native.Mathlib.Omega.{arith}
use Rattle.whole.proofs.Newton.{step_reaches, again}
use Rattle.whole.proofs.root.root.Goals as goal

pub loop-r-init : goal.loop-r-init
loop-r-init c = step_reaches c.args.n c.guess.result c.step-r.result c.step-r.ensures (omega arith) c.guess.ensures

pub loop-r-preserved : goal.loop-r-preserved
loop-r-preserved c =
    let l = c.loop-r in
    let n = c.args.n in
    step_reaches n l.r c.step-r-in-loop-r.result c.step-r-in-loop-r.ensures (omega arith) (again n l.r l.invariant c.loop-r-test.true)
