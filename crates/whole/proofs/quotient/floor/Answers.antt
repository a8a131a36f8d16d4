-- A divisor other than 0 is above 0 or, with both signs turned, becomes so.
use mathlib.Core.Path.{ap₂, ◌∙◌}
use Rattle.whole.specs.Numbers.{floor_q}
use Rattle.whole.proofs.Quotients.{floor_turned, turn, read}
use Rattle.whole.proofs.quotient.floor.Goals as goal

pub returns : goal.returns
returns c =
    let s = c.args in
    read c.down-2.ensures (ap₂ floor_q (turn s.a c.requires.fact_1).is (turn s.b c.requires.fact_2).is ∙ floor_turned s.a s.b c.requires.fact_3)
