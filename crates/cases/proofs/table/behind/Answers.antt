-- `position` finds the first such byte, and what stands behind it is the rest of the table.
use mathlib.Core.Path.{◌≡◌}
use Rattle.std.specs.Prelude.{◌==◌, position}
use Rattle.std.proofs.Common.{rules, arith}
use Rattle.std.proofs.lemmas.Grind.{common_steps}
use Rattle.std.proofs.lemmas.Iterator.{YieldsList-from_slice}
use Rattle.std.proofs.lemmas.Iterator.Search.{position_from_yields_List}
use Rattle.cases.proofs.table.behind.Goals as goal

pub returns-in_err-place-clause-value : goal.returns-in_err-place-clause-value
returns-in_err-place-clause-value c =
    let found : c.position.result ≡ position (λ b. b == c.args.byte) c.args.table.now =
    position_from_yields_List (λ b. b == c.args.byte) _ _ c.position.result c.position.ensures.ran (YieldsList-from_slice c.args.table.now cc) (λ x b q k. search rules)
    in
    rw (← found, c.in_err-place.was) (search rules)

pub returns-clause-value : goal.returns-clause-value
returns-clause-value c =
    let found : c.position.result ≡ position (λ b. b == c.args.byte) c.args.table.now =
    position_from_yields_List (λ b. b == c.args.byte) _ _ c.position.result c.position.ensures.ran (YieldsList-from_slice c.args.table.now cc) (λ x b q k. search rules)
    in
    rw (← found, c.in_ok-place.was) (grind (arith, common_steps))
