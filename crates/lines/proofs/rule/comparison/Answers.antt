-- `rule::comparison` meets its contract: what is listed of a comparison is what its two sides make, their difference, and the literals of its sign.
use mathlib.Core.Path.{◌≡◌, sym, ◌∙◌, ap}
use Rattle.sheet.specs.Reading.{token_no, head_no, sign_of}
use Rattle.sheet.specs.inner.Steps.{tokens_from}
use Rattle.sheet.specs.declared.Token.TheVariants.{Fixed}
use Rattle.lines.specs.inner.Comparisons.{listing_of, turned_by}
use Rattle.lines.proofs.ComparisonCode.{comparison_no, comparison_unsigned, comparison_half, comparison_is, sign_told, sign_untold}
use Rattle.lines.proofs.rule.comparison.Goals as goal

pub returns-in_err-left : goal.returns-in_err-left
returns-in_err-left c =
    let s = c in
    rw c.from_residual.ensures (comparison_no (token_no (Fixed s.args.mark)) s.args.keys.now s.args.line.now s.args.at (listing_of c.args.tally c.args.equations.now.ranges c.args.equations.now.primitives c.args.firsts.now c.args.seconds.now) _ _ _ _ (rw c.in_err-left.was at c.expr.ensures))

pub returns-in_err-sign : goal.returns-in_err-sign
returns-in_err-sign c =
    let s = c in
    let x = c.in_ok-left.left in
    let n : token_no c.next-step.result.token ≡ head_no (tokens_from s.args.line.now x.next) = ap token_no c.next-step.ensures.0 in
    let w = sign_untold (token_no c.next-step.result.token) (sym c.sign_of.ensures ∙ c.in_err-sign.was) in
    rw c.from_residual-in_err-sign.ensures
    (comparison_unsigned (token_no (Fixed s.args.mark)) s.args.keys.now s.args.line.now s.args.at (listing_of c.args.tally c.args.equations.now.ranges c.args.equations.now.primitives c.args.firsts.now c.args.seconds.now) x.next x.emitted _ _ (rw c.in_ok-left.was at c.expr.ensures) _ _ (rw n at w))

pub returns-in_err-right : goal.returns-in_err-right
returns-in_err-right c =
    let s = c in
    let x = c.in_ok-left.left in
    let n : token_no c.next-step.result.token ≡ head_no (tokens_from s.args.line.now x.next) = ap token_no c.next-step.ensures.0 in
    let w = sign_told (token_no c.next-step.result.token) c.in_ok-sign.sign (sym c.sign_of.ensures ∙ c.in_ok-sign.was) in
    rw c.from_residual-in_err-right.ensures
    (comparison_half (token_no (Fixed s.args.mark)) s.args.keys.now s.args.line.now s.args.at (listing_of c.args.tally c.args.equations.now.ranges c.args.equations.now.primitives c.args.firsts.now c.args.seconds.now) x.next x.emitted _ _ (rw c.in_ok-left.was at c.expr.ensures) _ (rw n at w.0) c.next-step.ensures.1 _ _ _ _ (rw c.in_err-right.was at c.expr-2.ensures))

pub returns : goal.returns
returns c =
    let s = c in
    let x = c.in_ok-left.left in
    let n : token_no c.next-step.result.token ≡ head_no (tokens_from s.args.line.now x.next) = ap token_no c.next-step.ensures.0 in
    let w = sign_told (token_no c.next-step.result.token) c.in_ok-sign.sign (sym c.sign_of.ensures ∙ c.in_ok-sign.was) in
    comparison_is (token_no (Fixed s.args.mark)) s.args.keys.now s.args.line.now s.args.at (listing_of c.args.tally c.args.equations.now.ranges c.args.equations.now.primitives c.args.firsts.now c.args.seconds.now) x.next x.emitted _ _ (rw c.in_ok-left.was at c.expr.ensures) _ (rw n at w.0) c.next-step.ensures.1 _ _ _ _ _ _ _ _ _ _ _ (rw c.in_ok-right.was at c.expr-2.ensures) c.difference-gap.ensures (c.turned.ensures ∙ ap (turned_by (token_no (Fixed s.args.mark))) (w.1 ∙ ap sign_of n)) (c.list.ensures _ _)
