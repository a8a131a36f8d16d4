-- The stretch of the line is that of the line as counted from `start` on, where the lines before it are passed.
use Prim.Native.Nat.{◌+◌, ◌-◌}
use mathlib.Core.Path.{◌≡◌, sym, ◌∙◌, ap}
use native.Mathlib.Omega.{arith}
use Rattle.sheet.proofs.Places.{place_fits}
use Rattle.sheet.proofs.Lines.{span_from, span_start, span_first, span_later, span_zero, span_missing}
use Rattle.sheet.proofs.line_span.Goals as goal

pub loop-earlier-init : goal.loop-earlier-init
loop-earlier-init c =
    let all : c.args.line ≡ c.args.line - 0 = omega arith in
    (omega arith, span_start c.args.text.now c.args.line ∙ ap (span_from c.args.text.now 0) all)

pub returns-then-text-start : goal.returns-then-text-start
returns-then-text-start c =
    let k = c.loop-earlier in
    sym (k.invariant.1 ∙ span_missing c.args.text.now k.start c.if-text-start.true (c.args.line - k.earlier))

pub returns-then-earlier-line : goal.returns-then-earlier-line
returns-then-earlier-line c =
    let text = c.args.text.now in
    let k = c.loop-earlier in
    let one : c.args.line - k.earlier ≡ 1 = omega (arith, c.if-earlier-line.true) in
    rw c.line_end-end.ensures (sym (k.invariant.1 ∙ ap (span_from text k.start) one ∙ span_first text k.start c.if-text-start.false))

pub overflow_add-start : goal.overflow_add-start
overflow_add-start c =
    let fits = place_fits 10 c.args.text.now c.loop-earlier.start (omega arith) in
    omega (arith, c.line_end-end.ensures)

pub loop-earlier-preserved : goal.loop-earlier-preserved
loop-earlier-preserved c =
    let text = c.args.text.now in
    let k = c.loop-earlier in
    let fits = place_fits 10 text k.start (omega arith) in
    let left : c.args.line - k.earlier - 1 ≡ c.args.line - (k.earlier + 1) = omega arith in
    let on = span_later text k.start c.if-text-start.false (c.args.line - k.earlier) (omega arith) (λ e. c.if-earlier-line.false (omega arith)) in
    rw c.line_end-end.ensures (omega arith, k.invariant.1 ∙ on ∙ ap (span_from text _) left)

pub returns : goal.returns
returns c =
    let k = c.loop-earlier in
    sym (k.invariant.1 ∙ span_zero c.args.text.now k.start (c.args.line - k.earlier) (omega arith))
