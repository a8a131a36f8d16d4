-- `narrow::sweep_primitives` meets its contract. The invariant: the steps of the primitives from place i on, from the box in hand, come to what all steps come to.
use Rattle.std.specs.Prelude.{false}
use Rattle.narrow.specs.inner.Done.{Kept}
use Rattle.narrow.proofs.Sweeping.{Going, primitives_left}
use Rattle.narrow.proofs.sweep_primitives.Given as goal

abbrev pub invariant-loop-i : goal.invariant-loop-i
invariant-loop-i l = Kept l.initial.frame.ends l.frame.ends × Going (primitives_left l.problem.primitives.now 0) (primitives_left l.problem.primitives.now l.i) false l.initial.frame.ends.now l.changed l.frame.ends.now
