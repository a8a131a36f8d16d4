-- Each way out is one law of LineCode.antt: too deep, a range line, a rule, or none of the forms.
use mathlib.Core.Path.{sym, ap, ◌∙◌}
use Rattle.sheet.specs.declared.Token.TheVariants.{Fixed}
use Rattle.lines.proofs.LineCode.{line_deep, line_range, line_must, line_if, line_other, not_fixed, other_mark}
use Rattle.lines.proofs.line.by_first.Goals as goal

pub returns-then-deep : goal.returns-then-deep
returns-then-deep c =
    let s = c in
    line_deep s.args.version s.args.line.now s.args.done s.args.lists.now.equations.ranges s.args.lists.now.equations.primitives s.args.lists.now.lengths s.args.lists.now.literals s.args.lists.now.keys _ _ _ _ _ (sym c.deep.ensures ∙ c.if-deep.true)

pub returns-in_default : goal.returns-in_default
returns-in_default c =
    let s = c in
    let n = c.next-first in
    line_other s.args.version s.args.line.now s.args.done s.args.lists.now.equations.ranges s.args.lists.now.equations.primitives s.args.lists.now.lengths s.args.lists.now.literals s.args.lists.now.keys _ _ _ _ _
    (sym c.deep.ensures ∙ c.if-deep.false) n.result.token n.result.next (n.ensures.0, n.ensures.1)
    (not_fixed n.result.token c.in_default.not-Fixed)

pub returns-in-Range : goal.returns-in-Range
returns-in-Range c =
    let s = c in
    let n = c.next-first in
    line_range s.args.version s.args.line.now s.args.done s.args.lists.now.equations.ranges s.args.lists.now.equations.primitives s.args.lists.now.lengths s.args.lists.now.literals s.args.lists.now.keys _ _ _ _ _
    (sym c.deep.ensures ∙ c.if-deep.false) n.result.token n.result.next (n.ensures.0, n.ensures.1)
    c.range_line.result (c.in-Fixed.is ∙ ap Fixed c.in-Range.is) c.range_line.ensures

pub returns-in-Must : goal.returns-in-Must
returns-in-Must c =
    let s = c in
    let n = c.next-first in
    line_must s.args.version s.args.line.now s.args.done s.args.lists.now.equations.ranges s.args.lists.now.equations.primitives s.args.lists.now.lengths s.args.lists.now.literals s.args.lists.now.keys _ _ _ _ _
    (sym c.deep.ensures ∙ c.if-deep.false) n.result.token n.result.next (n.ensures.0, n.ensures.1)
    c.rule_line.result (c.in-Fixed.is ∙ ap Fixed c.in-Must.is) (c.rule_line.ensures s.args.version)

pub returns-in-If : goal.returns-in-If
returns-in-If c =
    let s = c in
    let n = c.next-first in
    line_if s.args.version s.args.line.now s.args.done s.args.lists.now.equations.ranges s.args.lists.now.equations.primitives s.args.lists.now.lengths s.args.lists.now.literals s.args.lists.now.keys _ _ _ _ _
    (sym c.deep.ensures ∙ c.if-deep.false) n.result.token n.result.next (n.ensures.0, n.ensures.1)
    c.rule_line-in-If.result (c.in-Fixed.is ∙ ap Fixed c.in-If.is) (c.rule_line-in-If.ensures s.args.version)

pub returns-in_default-mark : goal.returns-in_default-mark
returns-in_default-mark c =
    let s = c in
    let n = c.next-first in
    line_other s.args.version s.args.line.now s.args.done s.args.lists.now.equations.ranges s.args.lists.now.equations.primitives s.args.lists.now.lengths s.args.lists.now.literals s.args.lists.now.keys _ _ _ _ _
    (sym c.deep.ensures ∙ c.if-deep.false) n.result.token n.result.next (n.ensures.0, n.ensures.1)
    (rw c.in-Fixed.is (other_mark c.in-Fixed.mark c.in_default-mark.not-Range c.in_default-mark.not-Must c.in_default-mark.not-If))
