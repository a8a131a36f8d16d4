-- `problem::bad_quantities` meets its contract: of an even list with a quantity, its last test is that of `bad_quantities`.
use mathlib.Core.Path.{refl}
use borrow.Author.Tests.{ne_eqb, le-ltb}
use lib.Dec.{ltb}
use Rattle.problem.specs.Problem.{quantities}
use Rattle.problem.proofs.Tests.{or_no}
use Rattle.problem.proofs.bad_quantities.Goals as goal

pub returns-else-n-lt1 : goal.returns-else-n-lt1
returns-else-n-lt1 c =
    let n = quantities c.args.ranges.now in
    or_no _ _ (ne_eqb _ _ c.if-n-lt1.false.0) (or_no (ltb n 1) (ltb 128 n) (le-ltb _ _ c.if-n-lt1.false.1) refl)
