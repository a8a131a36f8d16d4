-- Each answer has its first line, and where a point is given its value lines behind it.
use Rattle.answer.proofs.Writing.{puts_as, puts_then}
use Rattle.answer.proofs.Reporting.{report_none, report_found, report_stopped}
use Rattle.answer.proofs.report.Goals as goal

pub returns-in-None : goal.returns-in-None
returns-in-None c = puts_as _ _ (report_none _ _ _ _ c.in-None.is) c.counted.ensures

pub returns-in-Found : goal.returns-in-Found
returns-in-Found c =
    let first = c in
    puts_as _ _ (report_found _ _ _ _ first.in-Found.is) (puts_then _ _ first.counted-next.ensures c.lines.ensures)

pub returns-in-Stopped : goal.returns-in-Stopped
returns-in-Stopped c =
    let first = c in
    puts_as _ _ (report_stopped _ _ _ _ first.in-Stopped.is) (puts_then _ _ first.counted-next-in-Stopped.ensures c.lines-in-Stopped.ensures)
