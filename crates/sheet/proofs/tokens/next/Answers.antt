-- A step gives the first token and the place of the others.
use mathlib.Core.Path.{◌∙◌, ap}
use Rattle.sheet.specs.inner.Steps.{tokens_from}
use Rattle.sheet.specs.declared.Step.{Step}
use Rattle.sheet.proofs.Steps.{next_head, next_rest}
use Rattle.sheet.proofs.tokens.next.Goals as goal

pub returns : goal.returns
returns c =
    let l = c.args.line.now in
    let at = c.args.at in
    (ap (λ (s : Step). s.token) c.step_at.ensures ∙ next_head l at, ap (λ (s : Step). tokens_from l s.next) c.step_at.ensures ∙ next_rest l at, c.step_at.ensures)
