-- The walk's answer decides: a fault, no quantity declared, or the fronts of what is held.
use Rattle.std.proofs.lemmas.Result.{err_from_is_err_and}
use Rattle.translate.proofs.AcceptCode.{walk_refused, walk_standing}
use Rattle.translate.proofs.walk.fill.Goals as goal

pub accept-counts-requires-clause-standing : goal.accept-counts-requires-clause-standing
accept-counts-requires-clause-standing c = walk_standing c.read_lines.ensures _ c.in_ok-done.was

pub returns-in_err-done : goal.returns-in_err-done
returns-in_err-done c =
    let p = err_from_is_err_and c.from_residual.result c.from_residual.ensures.1 in
    rw (p.1, p.2) (walk_refused c.read_lines.ensures _ c.in_err-done.was _ _ _ _ _)
