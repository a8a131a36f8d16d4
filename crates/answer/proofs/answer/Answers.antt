-- What the translation answered and left decides: a refusal is written as it is, and of an accepted sheet the fronts of the lists are solved and reported.
use mathlib.Core.Path.{sym}
use native.Mathlib.Omega.{arith}
use lib.Seq.{length-take-le}
use Rattle.answer.proofs.Writing.{puts_as}
use Rattle.translate.proofs.AcceptedFronts.{taken}
use Rattle.answer.proofs.Accepted.{zeros_full, refused_output, few_when, accepted_output}
use Rattle.answer.proofs.Short.{answers}
use Rattle.answer.proofs.answer.Goals as goal

pub overflow_mul-q : goal.overflow_mul-q
overflow_mul-q c = let f = few_when c.translate-translated.ensures c.in-Ok.is in omega arith

pub overflow_mul-p : goal.overflow_mul-p
overflow_mul-p c = let f = few_when c.translate-translated.ensures c.in-Ok.is in omega arith

pub overflow_mul-l : goal.overflow_mul-l
overflow_mul-l c = let f = few_when c.translate-translated.ensures c.in-Ok.is in omega arith

pub overflow_mul-d : goal.overflow_mul-d
overflow_mul-d c = let f = few_when c.translate-translated.ensures c.in-Ok.is in omega arith

pub slice_bounds-ranges-end : goal.slice_bounds-ranges-end
slice_bounds-ranges-end c = let f = few_when c.translate-translated.ensures c.in-Ok.is in omega (arith, c.translate-translated.auto.ranges)

pub slice_bounds-problem-end : goal.slice_bounds-problem-end
slice_bounds-problem-end c =
    let f = few_when c.translate-translated.ensures c.in-Ok.is in
    sym (length-take-le _ _ (omega (arith, c.translate-translated.auto.ranges)))

pub slice_bounds-primitives-end : goal.slice_bounds-primitives-end
slice_bounds-primitives-end c = let f = few_when c.translate-translated.ensures c.in-Ok.is in omega (arith, c.translate-translated.auto.primitives)

pub slice_bounds-problem-end-in-Ok : goal.slice_bounds-problem-end-in-Ok
slice_bounds-problem-end-in-Ok c =
    let f = few_when c.translate-translated.ensures c.in-Ok.is in
    sym (length-take-le _ _ (omega (arith, c.translate-translated.auto.primitives)))

pub slice_bounds-lengths-end : goal.slice_bounds-lengths-end
slice_bounds-lengths-end c = let f = few_when c.translate-translated.ensures c.in-Ok.is in omega (arith, c.translate-translated.auto.lengths)

pub slice_bounds-problem-end-in-Ok-2 : goal.slice_bounds-problem-end-in-Ok-2
slice_bounds-problem-end-in-Ok-2 c =
    let f = few_when c.translate-translated.ensures c.in-Ok.is in
    sym (length-take-le _ _ (omega (arith, c.translate-translated.auto.lengths)))

pub slice_bounds-literals-end : goal.slice_bounds-literals-end
slice_bounds-literals-end c = let f = few_when c.translate-translated.ensures c.in-Ok.is in omega (arith, c.translate-translated.auto.literals)

pub slice_bounds-problem-end-in-Ok-3 : goal.slice_bounds-problem-end-in-Ok-3
slice_bounds-problem-end-in-Ok-3 c =
    let f = few_when c.translate-translated.ensures c.in-Ok.is in
    sym (length-take-le _ _ (omega (arith, c.translate-translated.auto.literals)))

pub slice_bounds-names-end : goal.slice_bounds-names-end
slice_bounds-names-end c = let f = few_when c.translate-translated.ensures c.in-Ok.is in omega (arith, c.translate-translated.auto.names)

pub slice_bounds-solved-end-in-Ok : goal.slice_bounds-solved-end-in-Ok
slice_bounds-solved-end-in-Ok c =
    let f = few_when c.translate-translated.ensures c.in-Ok.is in
    sym (length-take-le _ _ (omega (arith, c.translate-translated.auto.names)))

pub returns-in-Err : goal.returns-in-Err
returns-in-Err c =
    answers _ _ _ _ c.refused-arg-1.given.0.1
    (puts_as _ _ (refused_output _ _ _ _ _ _ zeros_full _ _ _ _ _ _ c.translate-translated.ensures _ _ c.in-Err.is c.from.ensures) c.refused.ensures)

pub returns-in-Ok : goal.returns-in-Ok
returns-in-Ok c =
    answers _ _ _ _ c.solved-arg-1.given.0.1
    (puts_as _ _ (accepted_output _ _ _ _ _ _ _ (taken _ _ _ _ _ _ _ _ _ _ _ _ _ c.translate-translated.ensures c.in-Ok.is)) c.solved.ensures)
