-- `problem::bad_ranges` meets its contract: each two numbers are tested as a range.
use mathlib.Core.Path.{◌∙◌}
use Prim.Native.Nat.{◌/◌}
use lib.ListN.{length}
use Rattle.std.proofs.Common.{rules, tests}
use Rattle.std.proofs.lemmas.Iterator.{YieldsList-from_slice}
use Rattle.std.proofs.lemmas.Iterator.Search.{any_from_yields_List}
use Rattle.std.specs.Simd.{first_chunks}
use Rattle.problem.proofs.Groups.{bad_two, by_twos}
use Rattle.problem.proofs.bad_ranges.Goals as goal

pub returns : goal.returns
returns c =
    let rs = c.args.ranges.now in
    any_from_yields_List bad_two _ _ _ c.any.ensures.ran (YieldsList-from_slice (first_chunks 2 (length rs / 2) rs) cc) (λ x b q k. search (rules, tests)) ∙ by_twos rs
