-- What is asked of the whole line is asked of the tokens behind the pieces so far, with what was opened and closed at those.
use mathlib.Core.Path.{◌≡◌}
use Prim.Native.Nat.{◌≤◌}
use lib.ListN.{length, drop}
use Rattle.sheet.specs.Tokens.{tokens_of}
use Rattle.sheet.specs.Depth.{deep_from, too_deep}
use Rattle.sheet.proofs.depth.deep.Given as goal

abbrev pub invariant-loop-piece : goal.invariant-loop-piece
invariant-loop-piece l =
    (goal.iterator-loop-piece).can_next l.piece-iterator
    × (goal.iterator-loop-piece).is_finite l.piece-iterator
    × (l.opened ≤ length l.yielded)
    × (l.closed ≤ length l.yielded)
    × (too_deep (tokens_of l.line) ≡ deep_from l.opened l.closed (drop (length l.yielded) (tokens_of l.line)))
