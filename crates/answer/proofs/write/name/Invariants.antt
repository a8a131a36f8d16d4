-- Each turn puts the first of the bytes that are left before the padding.
use lib.ListN.{drop}
use Rattle.answer.specs.inner.Writing.{unpadded}
use Rattle.answer.proofs.Writing.{Left}
use Rattle.answer.proofs.write.name.Given as goal

abbrev pub invariant-loop-b : goal.invariant-loop-b
invariant-loop-b l = Left (unpadded l.bs) l.initial.out l.at (unpadded (drop l.b-index l.bs)) l.out l.next
