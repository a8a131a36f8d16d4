-- `narrow::sweep_clauses` meets its contract: the literals left have room for the clause in hand, whose step is taken off the front of those that are left, and none is left at the end.
use Rattle.narrow.proofs.Kept.{kept_then}
use Rattle.whole.proofs.Kit.{ints}
use Rattle.narrow.proofs.Sweeping.{going_on, going_end, going_empty, clauses_on, clauses_none, ahead_cast, ahead_room, ahead_fits, ahead_on, ahead_lits}
use native.Mathlib.Omega.{arith}
use Rattle.narrow.proofs.sweep_clauses.Goals as goal

pub overflow_cast-length : goal.overflow_cast-length
overflow_cast-length c = ahead_cast c.loop-length.invariant.0 (omega arith) (omega ints)

pub overflow_mul-length : goal.overflow_mul-length
overflow_mul-length c = omega (arith, ahead_fits c.loop-length.invariant.0 (omega arith) (omega ints))

pub split_at-requires : goal.split_at-requires
split_at-requires c = ahead_room c.loop-length.invariant.0 (omega arith) (omega ints)

pub narrow-requires : goal.narrow-requires
narrow-requires c =
    let e = c.split_at.ensures in
    let k = c.loop-length.invariant.1.0.size in
    ahead_lits c.loop-length.invariant.0 (omega arith) (omega ints) e.front e.back c.loop-length.frame.ends.now (omega arith)

pub returns-in_err-changed : goal.returns-in_err-changed
returns-in_err-changed c =
    let a = c.loop-length.invariant in
    let e = c.split_at.ensures in
    record { kept = kept_then c.loop-length.invariant.1.0 c.in_err-changed.ensures.kept; done = going_empty a.1.1 _ (clauses_on a.0 (omega arith) (omega ints) e.front e.back) c.in_err-changed.ensures.done c.from_residual.ensures.0 }

pub loop-length-preserved : goal.loop-length-preserved
loop-length-preserved c =
    let a = c.loop-length.invariant in
    let e = c.split_at.ensures in
    (ahead_on a.0 (omega arith) (omega ints) e.front e.back, (kept_then a.1.0 c.in_ok-changed.ensures.kept, going_on a.1.1 (clauses_on a.0 (omega arith) (omega ints) e.front e.back) c.in_ok-changed.ensures.done c.in_ok-changed.ensures.kept.size))

pub returns : goal.returns
returns c = record { kept = c.loop-length.invariant.1.0; done = going_end c.loop-length.invariant.1.1 (clauses_none c.args.problem.lengths.now c.loop-length.length-index c.loop-length.left.now (omega arith)) }
