-- What was judged sound can be read, and a leading number that ground 8 is not met by counts quantities.
use mathlib.Core.Path.{sym}
use Rattle.whole.proofs.Kit.{rd}
use Rattle.search.proofs.Judged.{judges, judges_leadable, read_leading, leading_led}
use Rattle.search.proofs.judge.Goals as goal

pub bad_leading-requires : goal.bad_leading-requires
bad_leading-requires c = judges_leadable (judges _ _ _ _ (sym c.in_ok-judge.ensures))

pub needed-requires : goal.needed-requires
needed-requires c =
    let fits = c.ranges.leading in
    let good = read_leading c.args.problem.ranges.now c.args.problem.primitives.now _ _ (rd fits) c.bad_leading.ensures _ c.if-bad_leading.false in
    leading_led (record { good = good; fits = fits }) (judges _ _ _ _ (sym c.in_ok-judge.ensures)).started
