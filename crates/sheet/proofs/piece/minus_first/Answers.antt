-- The first byte decides, and the one behind it.
use mathlib.Core.Path.{sym, ◌∙◌, ap}
use borrow.Author.Tests.{ne_eqb}
use Rattle.sheet.specs.Tokens.{digit_first}
use Rattle.sheet.proofs.Digits.{minus_none, minus_here, minus_other, all_behind}
use Rattle.sheet.proofs.piece.minus_first.Goals as goal

pub returns-in_default : goal.returns-in_default
returns-in_default c = sym (minus_none c.args.w.now c.in_default.len_below)

pub returns-then-first-eq45 : goal.returns-then-first-eq45
returns-then-first-eq45 c = c.digit_at.ensures ∙ ap digit_first (all_behind c.args.w.now) ∙ sym (minus_here c.args.w.now c.if-first-eq45.true)

pub returns-else-first-eq45 : goal.returns-else-first-eq45
returns-else-first-eq45 c = ne_eqb _ 45 c.if-first-eq45.false ∙ sym (minus_other c.args.w.now c.if-first-eq45.false)
