-- The first byte, and with `-` the one behind it, decide which of the three a piece can be.
use mathlib.Core.Path.{sym, ◌∙◌, ap}
use Rattle.sheet.specs.Tokens.{number_of, as_number, as_negative}
use Rattle.sheet.proofs.Digits.{all_behind}
use Rattle.sheet.proofs.Words.{token_number, token_negative, token_word, behind_drop, minus_some}
use Rattle.sheet.proofs.tokens.read.Goals as goal

pub returns-then-digit_at : goal.returns-then-digit_at
returns-then-digit_at c = c.positive.ensures ∙ ap as_number c.number.ensures ∙ sym (token_number c.args.w.now (sym c.digit_at.ensures ∙ c.if-digit_at.true))

pub slice_bounds-number-count : goal.slice_bounds-number-count
slice_bounds-number-count c = minus_some c.args.w.now (sym c.minus_first.ensures ∙ c.if-minus_first.true)

pub slice_bounds-number-start : goal.slice_bounds-number-start
slice_bounds-number-start c = minus_some c.args.w.now (sym c.minus_first.ensures ∙ c.if-minus_first.true)

pub returns-then-minus_first : goal.returns-then-minus_first
returns-then-minus_first c =
    let w = c.args.w.now in
    let e = all_behind w ∙ sym (behind_drop w) in
    c.negative.ensures ∙ ap as_negative (c.number-then-minus_first.ensures ∙ ap number_of e)
    ∙ sym (token_negative w (sym c.digit_at.ensures ∙ c.if-digit_at.false) (sym c.minus_first.ensures ∙ c.if-minus_first.true))

pub returns : goal.returns
returns c = c.word.ensures ∙ sym (token_word c.args.w.now (sym c.digit_at.ensures ∙ c.if-digit_at.false) (sym c.minus_first.ensures ∙ c.if-minus_first.false))
