-- The mark and the space are there or not, and behind them the version decides.
use mathlib.Core.Path.{sym, ◌∙◌}
use Rattle.translate.proofs.VersionLine.{first_marked}
use Rattle.translate.proofs.text.first_line.Goals as goal

pub returns-in_err-strip_prefix : goal.returns-in_err-strip_prefix
returns-in_err-strip_prefix c = c.from_residual.ensures ∙ sym (first_marked c.args.line.now ∙ rw c.in_err-strip_prefix.ensures.cases)

pub returns : goal.returns
returns c =
    let a = c.in_ok-strip_prefix.ensures.cases in
    c.version.ensures ∙ rw a.1 (sym (first_marked c.args.line.now ∙ rw a.0))
