-- `problem::bad_primitives` meets its contract: each four numbers are tested as a primitive.
use mathlib.Core.Path.{◌∙◌}
use Prim.Native.Nat.{◌/◌}
use lib.ListN.{length}
use Rattle.std.proofs.Common.{rules, tests}
use Rattle.std.proofs.lemmas.Iterator.{YieldsList-from_slice}
use Rattle.std.proofs.lemmas.Iterator.Search.{any_from_yields_List}
use Rattle.std.specs.Simd.{first_chunks}
use Rattle.problem.proofs.Groups.{bad_four, by_fours}
use Rattle.problem.proofs.bad_primitives.Goals as goal

pub returns : goal.returns
returns c =
    let ps = c.args.primitives.now in
    any_from_yields_List (bad_four c.args.n) _ _ _ c.any.ensures.ran (YieldsList-from_slice (first_chunks 4 (length ps / 4) ps) cc) (λ x b q k. search (rules, tests)) ∙ by_fours c.args.n ps
