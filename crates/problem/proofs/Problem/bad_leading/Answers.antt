-- `Problem::bad_leading` meets its contract: where the leading number is 1 to n, each quantity after the leading ones is tested.
use mathlib.Core.Path.{refl, sym, ◌∙◌}
use mathlib.Core.Bool.{not, true≢false}
use Prim.Native.Nat.{◌-◌}
use native.Mathlib.Omega.{arith}
use lib.IntN.{nat_abs}
use mir.Facts.{to_z_pos}
use mir.Syntax.{w64}
use Rattle.std.proofs.Common.{rules, tests}
use Rattle.std.proofs.lemmas.Iterator.{YieldsList-from_range}
use Rattle.std.proofs.lemmas.Iterator.Search.{any_from_yields_List}
use Rattle.whole.proofs.Kit.{at, rd}
use Rattle.problem.specs.Problem.{quantities}
use Rattle.problem.specs.Lists.{primitives_of}
use Rattle.problem.specs.Leading.{defined}
use Rattle.problem.proofs.Defining.{later_undefined}
use Rattle.problem.proofs.Problem.bad_leading.Goals as goal
use Rattle.problem.proofs.Problem.bad_leading.Goals.{then-leading-lt1, else-leading-lt1}

pub returns-else-n-leading : goal.returns-else-n-leading
returns-else-n-leading c =
    let rs = c.args.self.ranges.now in
    let ps = c.args.self.primitives.now in
    let l = nat_abs (at c.args.leading) in
    let n = quantities rs in
    let found = any_from_yields_List (λ q. not (defined rs (primitives_of ps) q)) _ _ _ c.any.ensures.ran (YieldsList-from_range l n (n - l) refl refl) (λ x b q k. search (rules, tests)) in
    elim c.if-leading-lt1.branch [
      | then-leading-lt1 w ↦ absurd (true≢false (sym w.if-leading-lt1.true ∙ sym w.value-is ∙ c.if-n-leading.false))
      | else-leading-lt1 w ↦ found ∙ later_undefined rs ps c.args.leading (rd c.ranges.leading) (to_z_pos w64 (omega arith)) w.if-leading-lt1.false (sym w.value-is ∙ c.if-n-leading.false)
    ]
