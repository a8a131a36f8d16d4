-- `Equations::constant` meets its contract: the number fits, and the helper has it as both ends.
use native.Mathlib.Omega.{arith}
use mir.Syntax.{w64}
use mir.Facts.{to_z_pos}
use Rattle.lines.proofs.HelperCode.{constant_is}
use Rattle.lines.proofs.parts.Equations.constant.Goals as goal

pub returns : goal.returns
returns c =
    λ d.
    let s = c in
    constant_is s.args.n s.args.self.now.ranges s.args.self.now.primitives s.args.making (to_z_pos w64 {n = s.args.n} (omega arith)) c.helper.ensures d
