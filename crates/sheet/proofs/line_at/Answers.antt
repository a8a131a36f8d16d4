-- The stretch that `line_span` finds lies in the text, what stands there is the line, and the part handed back starts where it does.
use mathlib.Core.Path.{refl, ap}
use native.Mathlib.Omega.{arith}
use Rattle.sheet.specs.declared.Stretch.{Stretch}
use Rattle.sheet.proofs.Lines.{span_held}
use Rattle.sheet.proofs.line_at.Goals as goal

pub slice_bounds-result-count : goal.slice_bounds-result-count
slice_bounds-result-count c = rw c.line_span-start.ensures (span_held c.args.text.now c.args.line).ordered

pub slice_bounds-result-start : goal.slice_bounds-result-start
slice_bounds-result-start c = rw c.line_span-start.ensures (span_held c.args.text.now c.args.line).ordered

pub slice_bounds-result-end : goal.slice_bounds-result-end
slice_bounds-result-end c = rw c.line_span-start.ensures (span_held c.args.text.now c.args.line).inside

pub returns : goal.returns
returns c =
    let held = span_held c.args.text.now c.args.line in
    (rw c.line_span-start.ensures held.line, (refl, omega (arith, ap (λ (s : Stretch). s.start) c.line_span-start.ensures)))
