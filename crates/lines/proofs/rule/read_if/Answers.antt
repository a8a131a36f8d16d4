-- `rule::read_if` meets its contract: the rule is the conditions and, behind `then`, the demands, if nothing follows them.
use mathlib.Core.Path.{◌≡◌}
use Rattle.std.proofs.Common.{rules}
use Rattle.sheet.specs.inner.Steps.{tokens_from}
use Rattle.sheet.specs.declared.Mark.TheVariants.{Then}
use Rattle.sheet.specs.declared.Token.TheVariants.{Fixed}
use Rattle.lines.specs.inner.Comparisons.{listing_of}
use Rattle.lines.proofs.RuleCode.{if_is}
use Rattle.lines.proofs.FirstTokens.{head_is}
use Rattle.lines.proofs.rule.read_if.Goals as goal

pub returns : goal.returns
returns c =
    let s = c in
    let x = c.in_ok-conditions.conditions in
    let mark : c.next-step.result.token ≡ Fixed Then = search rules in
    if_is s.args.keys.now s.args.line.now s.args.at (listing_of (record { making = c.args.making; count = 0; equals = 0 }) c.args.equations.now.ranges c.args.equations.now.primitives c.args.firsts.now c.args.seconds.now) x.next x.tally _ _ _ _ (rw c.in_ok-conditions.was at c.comparisons.ensures) _ (head_is (tokens_from s.args.line.now x.next) _ c.next-step.ensures.0 (Fixed Then) mark) c.next-step.ensures.1 _ _ _ _ _ _ _ (rw c.in_ok-demands.was at c.comparisons-2.ensures) c.ended.ensures
