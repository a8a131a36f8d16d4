-- How far the ends of a near range are apart is read back as itself, and its length is the exponent.
use lib.IntN.{pos, ◌-ℤ◌}
use lib.Signed.{◌≤ℤ◌}
use Rattle.whole.proofs.Kit.{ints, at, minus, Holds, near_difference, cast_is}
use Rattle.whole.proofs.Powers.{halved}
use Rattle.whole.proofs.power.halvings.Goals as goal

wide : (c : goal.After-struct_told-1) → Holds (at c.args.r.high -ℤ at c.args.r.low) (c.args.r.high -ℤ c.args.r.low)
wide c = let s = c.before.before in near_difference s.args.r.high s.args.r.low s.requires.high s.requires.low

from_zero : (c : goal.After-struct_told-1) → pos 0 ≤ℤ (c.args.r.high -ℤ c.args.r.low)
from_zero c = let s = c.before.before in omega (ints, s.requires.ordered, minus s.args.r.high s.args.r.low)

pub returns : goal.returns
returns c = halved c.args.r _ c.requires (cast_is (wide c) (from_zero c))
