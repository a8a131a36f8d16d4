-- `problem::bad_literals` meets its contract: each three numbers are tested as a literal.
use mathlib.Core.Path.{◌∙◌}
use Prim.Native.Nat.{◌/◌}
use lib.ListN.{length}
use Rattle.std.proofs.Common.{rules, tests}
use Rattle.std.proofs.lemmas.Iterator.{YieldsList-from_slice}
use Rattle.std.proofs.lemmas.Iterator.Search.{any_from_yields_List}
use Rattle.std.specs.Simd.{first_chunks}
use Rattle.problem.proofs.Groups.{bad_three, by_threes}
use Rattle.problem.proofs.bad_literals.Goals as goal

pub returns : goal.returns
returns c =
    let ls = c.args.literals.now in
    any_from_yields_List (bad_three c.args.n) _ _ _ c.any.ensures.ran (YieldsList-from_slice (first_chunks 3 (length ls / 3) ls) cc) (λ x b q k. search (rules, tests)) ∙ by_threes c.args.n ls
