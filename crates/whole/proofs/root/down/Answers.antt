-- A number that is not below 0 is its own size, whose root is small enough to be read back.
use mathlib.Core.Path.{◌≡◌, sym, subst}
use native.Mathlib.Omega.{arith}
use lib.IntN.{pos, nat_abs}
use mir.Syntax.{w64}
use mir.Val.{to_z}
use mir.Facts.{to_z_pos}
use Rattle.whole.specs.Numbers.{root_down}
use Rattle.whole.specs.inner.Held.{Is}
use Rattle.whole.proofs.Kit.{ints, at, index_is}
use Rattle.whole.proofs.Roots.{down_found, down_zero}
use Rattle.whole.proofs.root.down.Goals as goal

pub returns-then-z-lt0 : goal.returns-then-z-lt0
returns-then-z-lt0 c = down_zero c.args.z (omega ints)

pub returns : goal.returns
returns c =
    let s = c.before.before in
    let z = s.args.z in
    let r = c.root.result in
    let e : to_z w64 r ≡ pos r = to_z_pos w64 (omega arith) in
    subst (Is (root_down z)) (sym e) (down_found z (nat_abs (at z)) r s.requires (index_is z s.ranges.z (omega ints)) c.root.ensures)
