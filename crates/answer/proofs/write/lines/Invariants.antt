-- Each turn puts the first of the lines that are left.
use Prim.Native.Nat.{◌*◌}
use lib.ListN.{drop}
use Rattle.answer.specs.inner.Writing.{lines_for}
use Rattle.answer.proofs.Writing.{Left}
use Rattle.answer.proofs.write.lines.Given as goal

abbrev pub invariant-loop-q : goal.invariant-loop-q
invariant-loop-q l = Left (lines_for l.names l.point) l.initial.out l.at (lines_for (drop (8 * l.q) l.names) (drop l.q l.point)) l.out l.next
