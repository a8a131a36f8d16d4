-- `leading::is_made` meets its contract: each primitive is tested.
use mathlib.Core.Path.{◌∙◌, refl}
use Prim.Native.Nat.{◌/◌}
use native.Mathlib.Omega.{arith}
use lib.ListN.{length}
use Rattle.std.proofs.Common.{rules, tests}
use Rattle.std.proofs.lemmas.Iterator.{YieldsList-from_range}
use Rattle.std.proofs.lemmas.Iterator.Search.{any_from_yields_List}
use Rattle.problem.specs.Leading.{makes}
use Rattle.problem.specs.inner.Placed.{primitive_at}
use Rattle.problem.proofs.Groups.{by_places}
use Rattle.problem.proofs.leading.is_made.Goals as goal

pub returns : goal.returns
returns c =
    let ps = c.args.primitives.now in
    any_from_yields_List (λ i. makes (primitive_at ps i) c.args.q) _ _ _ c.any.ensures.ran (YieldsList-from_range 0 (length ps / 4) (length ps / 4) refl (omega arith)) (λ x b q k. search (rules, tests)) ∙ by_places ps c.args.q
