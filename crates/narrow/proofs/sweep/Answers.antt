-- `narrow::sweep` meets its contract: each status says what the steps came to.
use mathlib.Core.Path.{refl}
use Rattle.narrow.proofs.Sweeping.{sweep_done}
use Rattle.narrow.proofs.sweep.Goals as goal

pub returns-in-Err : goal.returns-in-Err
returns-in-Err c = sweep_done c.in-Err.ensures refl

pub returns-in-Ok-true : goal.returns-in-Ok-true
returns-in-Ok-true c = sweep_done c.in-Ok-true.ensures (rw c.in-Ok-true.field-0-test refl)

pub returns-in-Ok-false : goal.returns-in-Ok-false
returns-in-Ok-false c = sweep_done c.in-Ok-false.ensures (rw c.in-Ok-false.field-0-test refl)
