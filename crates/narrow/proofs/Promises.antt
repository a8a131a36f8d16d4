-- The promises of this crate: each is a law of SweepLaws.antt or of Rounding.antt.
use Rattle.narrow.specs.Promises.{SweepShrinks, SweepSmaller, SweepSame, SweepSome, SweepInside, SweepSettled, QuotientRounded}
use Rattle.narrow.proofs.SweepLaws as laws
use Rattle.narrow.proofs.Rounding.{rounded}

pub sweep_shrinks : SweepShrinks
sweep_shrinks n ps cs b b' long f e = laws.sweep_shrinks n ps cs b long f b' e

pub sweep_smaller : SweepSmaller
sweep_smaller n ps cs b b' long e = laws.sweep_smaller n ps cs b long b' e

pub sweep_same : SweepSame
sweep_same = laws.sweep_same

pub sweep_some : SweepSome
sweep_some n p ps cs b s t i h k e = laws.sweep_some n p ps cs s t b i h k e

pub sweep_inside : SweepInside
sweep_inside n p ps cs b b' s t i h k e = laws.sweep_inside n p ps cs s t b i h k b' e

pub sweep_settled : SweepSettled
sweep_settled = laws.sweep_settled

pub quotient_rounded : QuotientRounded
quotient_rounded = rounded
