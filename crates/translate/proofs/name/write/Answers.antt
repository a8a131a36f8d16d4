-- The names so far stand at the front, and each turn puts one more behind them.
use mathlib.Core.Path.{refl}
use Rattle.translate.proofs.NamesWritten.{names_none, names_next}
use Rattle.translate.proofs.name.write.Goals as goal

pub loop-i-init : goal.loop-i-init
loop-i-init c = names_none c.args.names.now

pub loop-i-preserved : goal.loop-i-preserved
loop-i-preserved c =
    names_next c.args.keys.now c.args.names.now c.loop-i.i c.loop-i-test.true c.requires c.loop-i.names _ _ _ refl refl c.loop-i.invariant c.pad.ensures
