-- `Problem::judge` meets its contract: ground 3 is given where grounds 1 and 2 were tested and are not met.
use mathlib.Core.Path.{sym, ◌∙◌}
use Rattle.std.proofs.Common.{rules}
use Rattle.problem.proofs.Unmet.{met_3}
use Rattle.problem.proofs.Problem.judge.Goals as goal

pub returns-then-bad_ranges : goal.returns-then-bad_ranges
returns-then-bad_ranges c =
    let s = c.args.self in
    met_3 s.ranges.now s.primitives.now s.lengths.now s.literals.now (sym c.bad_quantities.ensures ∙ c.if-bad_quantities.false) (search rules) (sym c.bad_ranges.ensures ∙ c.if-bad_ranges.true)
