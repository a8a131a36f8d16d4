-- Whether all bytes are letters is whether each of them is.
use mathlib.Core.Path.{◌∙◌, sym}
use borrow.Author.Tests.{tests}
use Rattle.std.proofs.Common.{rules}
use Rattle.std.proofs.lemmas.Iterator.{YieldsList-from_slice}
use Rattle.std.proofs.lemmas.Iterator.Search.{all_from_yields_List}
use Rattle.std.specs.Char.{is_ascii_lowercase}
use Rattle.sheet.proofs.Words.{lower_all}
use Rattle.sheet.proofs.piece.lower.Goals as goal

pub returns : goal.returns
returns c =
    let w = c.args.w.now in
    all_from_yields_List is_ascii_lowercase _ _ _ c.all.ensures.ran (YieldsList-from_slice w cc) (λ x b q k. search (rules, tests)) ∙ sym (lower_all w)
