-- Holding goes through the smaller and the larger, and leaves 0.
use mathlib.Core.Path.{sym, ◌∙◌}
use Rattle.whole.proofs.Kit.{min_is, max_is}
use Rattle.whole.proofs.Calls.{times_is, square_high, square_low, square_zero}
use Rattle.whole.proofs.Spans.{ends_is}
use Rattle.whole.proofs.span.square.Goals as goal

pub returns-then-holds_zero : goal.returns-then-holds_zero
returns-then-holds_zero c =
    let x = c.args.x in
    let h = c.max-high in
    let p = times_is x.low x.low c.times-p.result c.requires.low c.requires.low c.times-p.type_inv c.times-p.ensures in
    let q = times_is x.high x.high c.times-q.result c.requires.high c.requires.high c.times-q.type_inv c.times-q.ensures in
    ends_is (square_zero x (sym c.holds_zero.ensures ∙ c.if-holds_zero.true)) (square_high x p q h.result h.type_inv (h.ensures.value ∙ max_is _ _))

pub returns : goal.returns
returns c =
    let x = c.args.x in
    let h = c.max-high in
    let l = c.min in
    let p = times_is x.low x.low c.times-p.result c.requires.low c.requires.low c.times-p.type_inv c.times-p.ensures in
    let q = times_is x.high x.high c.times-q.result c.requires.high c.requires.high c.times-q.type_inv c.times-q.ensures in
    ends_is
    (square_low x p q l.result l.type_inv (l.ensures.value ∙ min_is _ _) (sym c.holds_zero.ensures ∙ c.if-holds_zero.false))
    (square_high x p q h.result h.type_inv (h.ensures.value ∙ max_is _ _))
