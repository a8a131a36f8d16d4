-- In the piece the byte decides; past its end nothing stands.
use Rattle.std.proofs.Common.{rules}
use Rattle.sheet.proofs.Digits.{digit_here, digit_none}
use Rattle.sheet.proofs.piece.digit_at.Goals as goal

pub returns : goal.returns
returns c = search (rules, digit_here, digit_none)
