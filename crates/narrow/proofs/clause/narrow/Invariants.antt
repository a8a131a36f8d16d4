-- `narrow::clause::narrow` meets its contract. The invariant: the positions read that are not false are none, or the one at `open`, which is one of those read.
use Rattle.std.proofs.Common.{◌<◌}
use Rattle.narrow.proofs.Reading.{Read}
use Rattle.narrow.proofs.clause.narrow.Given as goal

abbrev pub invariant-loop-k : goal.invariant-loop-k
invariant-loop-k l = Read l.frame.ends.now l.literals l.n l.open l.k × (l.open < l.n → l.open < l.k)
