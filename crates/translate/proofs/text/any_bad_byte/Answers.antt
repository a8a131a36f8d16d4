-- Each byte is tested in turn.
use Rattle.std.proofs.Common.{rules, tests}
use mathlib.Core.Path.{◌∙◌}
use Rattle.std.proofs.lemmas.Iterator.{YieldsList-from_slice}
use Rattle.std.proofs.lemmas.Iterator.Search.{any_from_yields_List}
use Rattle.meaning.specs.Grounds.{bad_byte}
use Rattle.translate.proofs.BadBytes.{any_tested}
use Rattle.translate.proofs.text.any_bad_byte.Goals as goal

pub returns : goal.returns
returns c =
    any_from_yields_List bad_byte _ _ _ c.any.ensures.ran (YieldsList-from_slice c.args.text.now cc) (λ x b q k. search (rules, tests)) ∙ any_tested c.args.text.now
