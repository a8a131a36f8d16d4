-- `narrow::clause::narrow` meets its contract: a position more that is false changes nothing, the first that is not is kept, a second one ends the reading, and at the end none or the one kept decides.
use Rattle.narrow.proofs.Kept.{same}
use native.Mathlib.Omega.{arith}
use Rattle.narrow.proofs.Reading.{read_none, read_false, read_open, read_many, clause_none, clause_one}
use Rattle.narrow.proofs.clause.narrow.Goals as goal
use Rattle.narrow.proofs.clause.narrow.Goals.{then-not-is_false+else-open-n, else-not-is_false}

pub loop-k-init : goal.loop-k-init
loop-k-init c = (read_none _ _ _, λ h. absurd (omega arith))

pub returns-then-open-n : goal.returns-then-open-n
returns-then-open-n c =
    record { kept = same; done = read_many c.requires c.loop-k.invariant.0 (omega arith) c.literal_at.ensures c.args.changed c.args.frame.now.fine c.if-not-is_false.ensures (omega arith) }

pub loop-k-preserved : goal.loop-k-preserved
loop-k-preserved c =
    let x = c.literal_at in
    elim c.if-not-is_false.branch [ then-not-is_false+else-open-n w ↦ rw w.open-is (read_open c.requires c.loop-k.invariant.0 (omega arith) x.ensures w.if-not-is_false.ensures (omega arith), λ _. omega arith) | else-not-is_false w ↦ rw w.open-is (read_false c.requires c.loop-k.invariant.0 (omega arith) x.ensures w.if-not-is_false.ensures, λ h. omega (arith, c.loop-k.invariant.1 h)) ]

pub returns-then-open-n-2 : goal.returns-then-open-n-2
returns-then-open-n-2 c = record { kept = same; done = clause_none c.requires c.loop-k.invariant.0 (omega arith) c.args.changed c.args.frame.now.fine (omega arith) }

pub returns : goal.returns
returns c = record { kept = c.cut_literal.ensures.kept; done = clause_one c.requires c.loop-k.invariant.0 (omega arith) c.args.changed (omega arith) c.literal_at-2.ensures c.cut_literal.ensures.done }
