-- n is below 2 to its length, and the length is at most one more than twice its half.
use Rattle.whole.proofs.Newton.{nearest}
use Rattle.whole.proofs.root.half_length.Goals as goal

pub returns : goal.returns
returns c = nearest c.args.n c.requires
