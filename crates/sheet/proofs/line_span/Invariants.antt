-- The stretch of the line is that of the line as counted from `start` on, where the lines before it are passed.
use Prim.Native.Nat.{◌+◌, ◌-◌, ◌≤◌}
use mathlib.Core.Path.{◌≡◌}
use lib.ListN.{length}
use Rattle.sheet.specs.Lines.{span_of}
use Rattle.sheet.proofs.Lines.{span_from}
use Rattle.sheet.proofs.line_span.Given as goal

abbrev pub invariant-loop-earlier : goal.invariant-loop-earlier
invariant-loop-earlier l = (l.start ≤ length l.text + 1) × (span_of l.text l.line ≡ span_from l.text l.start (l.line - l.earlier))
