-- With each call the tokens that are left fall, or else the rank does; a loop keeps what its tokens have made so far.
use Prim.Native.Nat.{◌+◌, ◌*◌}
use lib.ListN.{length}
use Rattle.sheet.specs.Reading.{sum_f, prod_f}
use Rattle.meaning.specs.Plain.{plain_e, plain_t}
use Rattle.lines.proofs.ExpressionCode.{Going}
use Rattle.sheet.specs.inner.Steps.{tokens_from}
use Rattle.lines.proofs.expression.+atom_expr_factor_term.Given as goal

abbrev pub decreases-atom : goal.decreases-atom
decreases-atom l = 8 * length (tokens_from l.line.now l.at) + 1

abbrev pub decreases-expr : goal.decreases-expr
decreases-expr l = 8 * length (tokens_from l.line.now l.at) + 6

abbrev pub decreases-factor : goal.decreases-factor
decreases-factor l = 8 * length (tokens_from l.line.now l.at) + 2

abbrev pub decreases-term : goal.decreases-term
decreases-term l = 8 * length (tokens_from l.line.now l.at) + 4

abbrev pub invariant-expr-loop-mark : goal.invariant-expr-loop-mark
invariant-expr-loop-mark l = Going sum_f (plain_e l.keys) 5 (length l.keys) l.line l.initial.left.next l.initial.left.emitted l.initial.equations.ranges l.initial.equations.primitives l.left.next l.left.emitted l.equations.ranges l.equations.primitives

abbrev pub decreases-expr-loop-mark : goal.decreases-expr-loop-mark
decreases-expr-loop-mark l = length (tokens_from l.line l.left.next)

abbrev pub invariant-term-loop-step : goal.invariant-term-loop-step
invariant-term-loop-step l = Going prod_f (plain_t l.keys) 3 (length l.keys) l.line l.initial.left.next l.initial.left.emitted l.initial.equations.ranges l.initial.equations.primitives l.left.next l.left.emitted l.equations.ranges l.equations.primitives

abbrev pub decreases-term-loop-step : goal.decreases-term-loop-step
decreases-term-loop-step l = length (tokens_from l.line l.left.next)
