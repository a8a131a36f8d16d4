-- `narrow::sweep_all` meets its contract: the steps of the clauses follow those of the primitives, and where these leave an empty range nothing follows.
use Rattle.narrow.proofs.Kept.{kept_then}
use mathlib.Core.List.{map}
use Rattle.problem.specs.Lists.{literals_of, clauses_of}
use Rattle.narrow.specs.Narrowing.{clause_step}
use Rattle.narrow.proofs.Cutting.{done_then, done_ended}
use Rattle.narrow.proofs.sweep_all.Goals as goal

pub returns-in_err-changed : goal.returns-in_err-changed
returns-in_err-changed c =
    let p = c.args.problem in
    record { kept = c.in_err-changed.ensures.kept; done = done_ended c.in_err-changed.ensures.done (map clause_step (clauses_of p.lengths.now (literals_of p.literals.now))) c.from_residual.ensures.0 }

pub returns : goal.returns
returns c = record { kept = kept_then c.in_ok-changed.ensures.kept c.sweep_clauses.ensures.kept; done = done_then c.in_ok-changed.ensures.done c.sweep_clauses.ensures.done }
