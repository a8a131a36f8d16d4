-- `rule::comparisons` meets its contract. The loop's invariant: what is listed from here on is what is listed from the loop's start on. The tokens that are left fall.
use mathlib.Core.Path.{◌≡◌, sym, ◌∙◌, ap}
use borrow.Author.Tests.{eqb-true, eqb-false}
use Rattle.sheet.specs.Reading.{token_no, head_no}
use Rattle.sheet.specs.inner.Steps.{tokens_from}
use Rattle.sheet.specs.declared.Token.TheVariants.{Fixed}
use Rattle.lines.specs.inner.Comparisons.{listing_of}
use Rattle.lines.proofs.ComparisonCode.{walks_turn, more_end, more_no, all_no, all_on}
use Rattle.lines.proofs.rule.comparisons.Goals as goal

pub returns-in_err-all : goal.returns-in_err-all
returns-in_err-all c =
    let s = c in
    rw c.from_residual.ensures (all_no (token_no (Fixed s.args.mark)) s.args.keys.now s.args.line.now s.args.at (listing_of c.args.tally c.args.equations.now.ranges c.args.equations.now.primitives c.args.firsts.now c.args.seconds.now) _ _ _ _ (rw c.in_err-all.was at c.comparison.ensures))

pub returns-then-not-is : goal.returns-then-not-is
returns-then-not-is c =
    let s = c in
    let l = c.loop-mark in
    let n : token_no c.next-step.result.token ≡ head_no (tokens_from s.args.line.now l.all.next) = ap token_no c.next-step.ensures.0 in
    let other = eqb-false _ _ (sym c.is.ensures ∙ c.if-not-is.true) in
    all_on (token_no (Fixed s.args.mark)) s.args.keys.now s.args.line.now s.args.at (listing_of c.args.tally c.args.equations.now.ranges c.args.equations.now.primitives c.args.firsts.now c.args.seconds.now) _ _ _ _ _ _ _ _ _ _ _ (rw c.in_ok-all.was at c.comparison.ensures)
    (l.invariant.on _ _ _ _ _ (more_end (token_no (Fixed s.args.mark)) s.args.keys.now s.args.line.now l.all.next l.all.tally l.equations.ranges l.equations.primitives l.firsts l.seconds (rw n at other)))

pub returns-in_err-all-2 : goal.returns-in_err-all-2
returns-in_err-all-2 c =
    let s = c in
    let l = c.loop-mark in
    let n : token_no c.next-step.result.token ≡ head_no (tokens_from s.args.line.now l.all.next) = ap token_no c.next-step.ensures.0 in
    let more = eqb-true _ _ (sym c.is.ensures ∙ c.if-not-is.false) in
    rw c.from_residual-in_err-all-2.ensures
    (all_on (token_no (Fixed s.args.mark)) s.args.keys.now s.args.line.now s.args.at (listing_of c.args.tally c.args.equations.now.ranges c.args.equations.now.primitives c.args.firsts.now c.args.seconds.now) _ _ _ _ _ _ _ _ _ _ _ (rw c.in_ok-all.was at c.comparison.ensures)
    (l.invariant.on _ _ _ _ _ (more_no (token_no (Fixed s.args.mark)) s.args.keys.now s.args.line.now l.all.next _ (listing_of l.all.tally l.equations.ranges l.equations.primitives l.firsts l.seconds) (sym n ∙ more) c.next-step.ensures.1 _ _ _ _ (rw c.in_err-all-2.was at c.comparison-in-loop-mark.ensures))))

pub loop-mark-preserved : goal.loop-mark-preserved
loop-mark-preserved c =
    let s = c in
    let l = c.loop-mark in
    let n : token_no c.next-step.result.token ≡ head_no (tokens_from s.args.line.now l.all.next) = ap token_no c.next-step.ensures.0 in
    let more = eqb-true _ _ (sym c.is.ensures ∙ c.if-not-is.false) in
    walks_turn (token_no (Fixed s.args.mark)) s.args.keys.now s.args.line.now l.all.next l.all.tally l.equations.ranges l.equations.primitives l.firsts l.seconds _ _ _ _ _ _ _ l.invariant (sym n ∙ more) c.next-step.ensures.1 (rw c.in_ok-all-2.was at c.comparison-in-loop-mark.ensures) c.comparison-in-loop-mark.auto.firsts c.comparison-in-loop-mark.auto.seconds
