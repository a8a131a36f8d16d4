-- `rule::read_must` meets its contract: the rule is the demands, if nothing follows them.
use Rattle.lines.specs.inner.Comparisons.{listing_of}
use Rattle.lines.proofs.RuleCode.{must_is}
use Rattle.lines.proofs.rule.read_must.Goals as goal

pub returns : goal.returns
returns c =
    let s = c in
    must_is s.args.keys.now s.args.line.now s.args.at (listing_of (record { making = c.args.making; count = 0; equals = 0 }) c.args.equations.now.ranges c.args.equations.now.primitives c.args.firsts.now c.args.seconds.now) _ _ _ _ _ _ _ (rw c.in_ok-demands.was at c.comparisons.ensures) c.ended.ensures
