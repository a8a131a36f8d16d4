-- `writing::place_of` meets its contract: the first of the names that is this one, or their number.
use mathlib.Core.Path.{◌≡◌, ◌∙◌}
use lib.Dec.{eqb}
use Rattle.std.specs.Prelude.{position}
use Rattle.std.proofs.Common.{rules}
use Rattle.std.proofs.lemmas.Iterator.{YieldsList-from_slice}
use Rattle.std.proofs.lemmas.Iterator.Search.{position_from_yields_List}
use Rattle.lines.proofs.HelperCode.{place_found}
use Rattle.lines.proofs.writing.place_of.Goals as goal

pub returns : goal.returns
returns c =
    let found : c.position.result ≡ position (λ k. eqb k c.args.name) c.args.keys.now =
    position_from_yields_List (λ k. eqb k c.args.name) _ _ c.position.result c.position.ensures.ran (YieldsList-from_slice c.args.keys.now cc) (λ x b q k. search rules)
    in
    rw found at c.unwrap_or.ensures ∙ place_found c.args.name c.args.keys.now
