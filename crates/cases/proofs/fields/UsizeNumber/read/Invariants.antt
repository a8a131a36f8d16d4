-- The digits that are left go on with the count so far.
use Rattle.std.proofs.Common.{◌≡◌, length}
use Rattle.cases.specs.Counts.{count_on}
use Rattle.cases.proofs.fields.UsizeNumber.read.Given as goal

abbrev pub invariant-loop-byte : goal.invariant-loop-byte
invariant-loop-byte l = count_on l.count l.rest ≡ count_on 0 l.fn.bytes

abbrev pub decreases-loop-byte : goal.decreases-loop-byte
decreases-loop-byte l = length l.rest
