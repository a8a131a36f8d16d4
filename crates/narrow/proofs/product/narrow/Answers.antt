-- `narrow::product::narrow` meets its contract: where the fourth cut leaves an empty range, it was a trim of x, and nothing follows.
use mathlib.Core.List.{[], ◌∷◌}
use Rattle.narrow.specs.Narrowing.{quotient_step}
use Rattle.narrow.proofs.Cutting.{done_then, done_ended}
use Rattle.narrow.proofs.Kept.{kept_then}
use Rattle.narrow.proofs.product.narrow.Goals as goal

pub returns-in_err-changed-4 : goal.returns-in_err-changed-4
returns-in_err-changed-4 c =
    let first = c.in_ok-changed.ensures in
    let second = c.in_ok-changed-2.ensures in
    let third = c.in_ok-changed-3.ensures in
    let fourth = c.in_err-changed-4.ensures in
    record {
      kept = kept_then first.kept (kept_then second.kept (kept_then third.kept fourth.kept));
      done = done_ended (done_then first.done (done_then second.done (done_then third.done fourth.done))) (quotient_step c.args.y c.args.z c.args.x ∷ []) c.from_residual-in_err-changed-4.ensures.0;
    }
