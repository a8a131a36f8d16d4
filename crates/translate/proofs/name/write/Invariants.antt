-- The names so far stand at the front, and each turn puts one more behind them.
use mathlib.Core.Path.{◌≡◌}
use lib.ListN.{take}
use Rattle.meaning.specs.Lists.{name_bytes}
use Rattle.translate.specs.Translate.{filled}
use Rattle.translate.proofs.name.write.Given as goal

abbrev pub invariant-loop-i : goal.invariant-loop-i
invariant-loop-i l = l.names ≡ filled (name_bytes (take l.i l.keys)) l.initial.names
