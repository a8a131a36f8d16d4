-- `narrow::square::narrow` meets its contract: the four cuts are done one after the other, and a cut to a span of squares leaves z's high end no lower than 0.
use Rattle.narrow.proofs.Rooted.{square_leaves}
use native.Mathlib.Omega.{arith}
use Rattle.narrow.proofs.square.narrow.Goals as goal

pub cut_root-requires-clause-fact_3 : goal.cut_root-requires-clause-fact_3
cut_root-requires-clause-fact_3 c = square_leaves c.args.z c.args.x c.requires.fact_1 (omega arith) c.in_ok-changed.ensures.done
