-- What the square is too large, by twice the power, is less than the number itself, so the rest is above 0.
use native.Mathlib.Omega.{arith}
use Rattle.whole.proofs.Newton.{above_fits, start}
use Rattle.whole.proofs.root.guess.Goals as goal

pub overflow_mul-result : goal.overflow_mul-result
overflow_mul-result c = let b = c.before in omega (arith, above_fits b.args.n b.half_length-j.result c.above-g.result b.half_length-j.ensures c.above-g.ensures)

pub returns : goal.returns
returns c = let b = c.before in start b.args.n b.half_length-j.result c.above-g.result b.requires.0 b.half_length-j.ensures c.above-g.ensures
