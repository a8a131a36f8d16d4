-- The walk through the lines keeps `Walking`.
use Rattle.std.specs.Iterator.Adapters.{enumerate_source, enumerate_count}
use Rattle.std.specs.Slice.Iter.{split_inclusive_rest}
use Rattle.translate.proofs.WalkCode.{Walking}
use Rattle.translate.proofs.walk.read_lines.Given as goal

abbrev pub invariant-loop-i : goal.invariant-loop-i
invariant-loop-i l =
    Walking l.version l.text l.lists.equations.ranges l.lists.equations.primitives l.lists.lengths l.lists.literals l.lists.keys l.done (enumerate_count l.i-iterator) (split_inclusive_rest (enumerate_source l.i-iterator))
