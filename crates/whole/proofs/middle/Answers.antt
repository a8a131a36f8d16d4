-- A shift by one place halves and rounds down, also below 0.
use lib.IntN.{pos, ◌+ℤ◌}
use lib.Signed.{shr_z}
use Rattle.whole.proofs.Kit.{ints, plus, half, halves, near_sum}
use Rattle.whole.specs.Meaning.{Middle}
use Rattle.whole.proofs.Meaning.{middle_only}
use Rattle.whole.proofs.middle.Goals as goal

pub returns : goal.returns
returns c =
    let l = c.args.low in
    let h = c.args.high in
    let m = shr_z (l +ℤ h) 2 in
    let s = half (near_sum l h c.requires.fact_1 c.requires.fact_2).is (omega (ints, plus l h)) in
    let k : Middle l h m = omega (ints, halves (l +ℤ h), plus m m, plus (m +ℤ m) (pos 2)) in
    let e = middle_only l h m k in
    omega (ints, halves (l +ℤ h), plus l h)
