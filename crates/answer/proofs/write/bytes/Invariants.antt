-- Each turn puts the first of the bytes that are left.
use lib.ListN.{drop}
use Rattle.answer.proofs.Writing.{Left}
use Rattle.answer.proofs.write.bytes.Given as goal

abbrev pub invariant-loop-b : goal.invariant-loop-b
invariant-loop-b l = Left l.bs l.initial.out l.at (drop l.b-index l.bs) l.out l.next
