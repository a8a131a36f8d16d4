-- `leading::is_result` meets its contract: of a product only z is a result.
use Rattle.std.proofs.Common.{arith}
use Rattle.std.proofs.lemmas.Bool.Decides.{nat_tests}
use Rattle.problem.proofs.leading.is_result.Goals as goal

pub returns-in-Product : goal.returns-in-Product
returns-in-Product c = rw c.in-Product.is (grind (arith, nat_tests))
