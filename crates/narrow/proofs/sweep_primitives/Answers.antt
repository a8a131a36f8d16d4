-- `narrow::sweep_primitives` meets its contract: a primitive's steps are taken off the front of those that are left, and none is left at the end.
use Rattle.narrow.proofs.Kept.{kept_then}
use Rattle.narrow.proofs.Sweeping.{going_on, going_end, going_empty, primitives_on, primitives_none, primitive_readable, primitive_sited}
use native.Mathlib.Omega.{arith}
use Rattle.narrow.proofs.sweep_primitives.Goals as goal

pub primitive_at-requires : goal.primitive_at-requires
primitive_at-requires c = primitive_readable c.requires c.loop-i.i (omega arith)

pub narrow_primitive-requires : goal.narrow_primitive-requires
narrow_primitive-requires c =
    let g = c.loop-i.invariant.0.size in
    primitive_sited c.requires c.loop-i.i (omega arith) c.loop-i.frame.ends.now (omega arith) c.primitive_at.result c.primitive_at.ensures

pub returns-in_err-changed : goal.returns-in_err-changed
returns-in_err-changed c =
    let p = c.primitive_at in
    record { kept = kept_then c.loop-i.invariant.0 c.in_err-changed.ensures.kept; done = going_empty c.loop-i.invariant.1 _ (primitives_on c.args.problem.primitives.now c.loop-i.i p.result p.ensures (omega arith)) c.in_err-changed.ensures.done c.from_residual.ensures.0 }

pub loop-i-preserved : goal.loop-i-preserved
loop-i-preserved c =
    let p = c.primitive_at in
    (kept_then c.loop-i.invariant.0 c.in_ok-changed.ensures.kept, going_on c.loop-i.invariant.1 (primitives_on c.args.problem.primitives.now c.loop-i.i p.result p.ensures (omega arith)) c.in_ok-changed.ensures.done c.in_ok-changed.ensures.kept.size)

pub returns : goal.returns
returns c = record { kept = c.loop-i.invariant.0; done = going_end c.loop-i.invariant.1 (primitives_none c.args.problem.primitives.now c.loop-i.i (omega arith)) }
