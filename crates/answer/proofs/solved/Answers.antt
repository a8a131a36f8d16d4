-- What the solve answers or refuses is reported, and its declared values are written.
use mathlib.Core.Path.{◌∙◌}
use native.Mathlib.Omega.{arith}
use mir.Facts.{to_z_pos}
use mir.Syntax.{w64}
use Rattle.answer.proofs.Writing.{puts_as}
use Rattle.answer.proofs.Reporting.{report_answered, report_refused, solve_reported}
use Rattle.answer.proofs.solved.Goals as goal

pub returns-in-Ok : goal.returns-in-Ok
returns-in-Ok c =
    let lead = to_z_pos w64 (omega (arith, c.requires.few, c.requires.named)) in
    puts_as _ _ (report_answered _ _ _ _ c.in-Ok.is ∙ solve_reported _ _ _ _ _ _ _ _ _ c.requires lead c.solve-solved.auto.point c.solve-solved.ensures) c.report.ensures

pub returns-in-Err : goal.returns-in-Err
returns-in-Err c =
    let lead = to_z_pos w64 (omega (arith, c.requires.few, c.requires.named)) in
    puts_as _ _ (report_refused _ _ _ _ _ c.in-Err.is c.from.ensures ∙ solve_reported _ _ _ _ _ _ _ _ _ c.requires lead c.solve-solved.auto.point c.solve-solved.ensures) c.refused.ensures
