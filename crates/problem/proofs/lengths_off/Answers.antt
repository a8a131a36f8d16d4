-- `problem::lengths_off` meets its contract: each way out of a turn is one law of Scanning.antt.
use lib.IntN.{pos}
use lib.ListN.{get_or}
use mathlib.Core.Path.{◌≡◌}
use Rattle.std.proofs.Common.{rules}
use Rattle.whole.proofs.Kit.{at}
use native.Mathlib.Omega.{arith}
use Rattle.problem.proofs.Scanning.{sum_small, below_0, signs_on, sums_on, too_long, lengths_end}
use Rattle.problem.proofs.lengths_off.Goals as goal
use Rattle.problem.proofs.lengths_off.Goals.{then-n-lt0-via-then-n-lt0, then-n-lt0-via-else-n-lt0+then-n-gt1024}

pub returns-then-n-lt0 : goal.returns-then-n-lt0
returns-then-n-lt0 c =
    let ns = c.args.lengths.now in
    let l = c.loop-n in
    let n = get_or ns l.n-index (pos 0) in
    let v = l.invariant in
    let e : at n ≡ n = search rules in
    elim c.then-n-lt0.branch [
      | then-n-lt0-via-then-n-lt0 w ↦ below_0 ns c.args.size l.sum l.n-index v.1 v.2 c.loop-n-test.true e w.if-n-lt0.true
      | then-n-lt0-via-else-n-lt0+then-n-gt1024 w ↦ too_long ns c.args.size l.sum l.n-index v.1 v.2 c.loop-n-test.true e w.if-n-lt0.false w.if-n-gt1024.true (omega arith)
    ]

pub loop-n-preserved : goal.loop-n-preserved
loop-n-preserved c =
    let ns = c.args.lengths.now in
    let l = c.loop-n in
    let n = get_or ns l.n-index (pos 0) in
    let v = l.invariant in
    let e : at n ≡ n = search rules in (
      sum_small (at n) l.sum l.n-index v.0 c.if-n-lt0.false c.if-n-gt1024.false,
      signs_on ns c.args.size l.sum l.n-index v.1 v.2 c.loop-n-test.true e c.if-n-lt0.false,
      sums_on ns c.args.size l.sum l.n-index v.1 v.2 c.loop-n-test.true e c.if-n-lt0.false,
    )

pub returns : goal.returns
returns c =
    let l = c.loop-n in
    lengths_end c.args.lengths.now c.args.size l.sum l.n-index l.invariant.1 l.invariant.2 (omega arith)
