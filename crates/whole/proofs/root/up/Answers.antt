-- The root rounded down is the root rounded up where its square reaches the number, and else one short of it.
use mathlib.Core.Path.{◌≡◌, sym, ap, subst, ◌∙◌}
use Prim.Native.Nat.{◌≤◌}
use lib.IntN.{pos, nat_abs, ◌+ℤ◌, ◌*ℤ◌}
use Rattle.whole.specs.Numbers.{root_down, root_up}
use Rattle.whole.specs.inner.Held.{Is}
use Rattle.whole.proofs.Kit.{ints, at, plus, apart, nat_abs_is, abs_prod, fits_abs, Holds, rd, rn, lit, sum, prod}
use Rattle.whole.proofs.Roots.{down_small, up_next, up_same}
use Rattle.whole.proofs.root.up.Goals as goal

r-is : (c : goal.After-down-r) → at c.down-r.result ≡ root_down c.args.z
r-is c = rn c.down-r.result c.down-r.ensures.near ∙ c.down-r.ensures.is ∙ ap root_down (rd c.ranges.z)

p : (c : goal.After-down-r) → Holds (at c.down-r.result *ℤ at c.down-r.result) (root_down c.args.z *ℤ root_down c.args.z)
p c =
    let d = root_down c.args.z in
    let h = down_small c.args.z c.requires in
    let k : nat_abs d ≤ 1_000_000 = omega (ints, nat_abs_is d, apart d) in
    prod (r-is c) (r-is c) (fits_abs (d *ℤ d) 1_000_000_000_000 tt (abs_prod d d k k))

s : (c : goal.After-down-r) → Holds (at c.down-r.result +ℤ pos 1) (root_down c.args.z +ℤ pos 1)
s c =
    let d = root_down c.args.z in
    let h = down_small c.args.z c.requires in
    sum (r-is c) (lit (pos 1)) (omega (ints, plus d (pos 1)))

pub overflow_mul-r : goal.overflow_mul-r
overflow_mul-r c = (p c).fits

pub returns-then-r-z : goal.returns-then-r-z
returns-then-r-z c =
    let z = c.args.z in
    let h = p c.before in
    subst (Is (root_up z)) (sym (s c.before).is) (up_next z c.requires (omega ints))

pub returns-else-r-z : goal.returns-else-r-z
returns-else-r-z c =
    let z = c.args.z in
    let h = p c.before in
    subst (Is (root_up z)) (sym (r-is c.before)) (up_same z c.requires (omega ints))
