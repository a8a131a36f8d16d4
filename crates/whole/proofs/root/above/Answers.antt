-- A step does not end below the root rounded down, so one more is above the root.
use Rattle.whole.proofs.Newton.{above_root}
use Rattle.whole.proofs.root.above.Goals as goal

pub returns : goal.returns
returns c = above_root c.args.n c.args.j c.requires
