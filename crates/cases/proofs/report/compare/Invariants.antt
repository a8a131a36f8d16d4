-- The cases that were taken and those that are left are few enough to be counted.
use Rattle.std.proofs.Common.{◌^◌, ◌+◌, ◌≤◌}
use denote.Param.Always.{always_mut}
use Rattle.std.specs.Iterator.{size}
use Rattle.cases.proofs.report.compare.Given as goal

abbrev pub invariant-loop-case : goal.invariant-loop-case
invariant-loop-case g l =
    (goal.iterator-loop-case g).can_next l.case-iterator ×
    (goal.iterator-loop-case g).is_finite l.case-iterator ×
    (always_mut g.F.FnMut l.initial.agrees → always_mut g.F.FnMut l.agrees) ×
    (l.agreed ≤ l.count) ×
    (l.count + size (g.I.Iterator.remaining l.case-iterator) ≤ 2 ^ 63)
