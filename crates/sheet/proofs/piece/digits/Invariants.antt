-- The value of the whole is what the bytes from i on make of v, until a byte that is no digit, a value above M, or the end decides.
use Prim.Native.Nat.{◌≤◌}
use mathlib.Core.Path.{◌≡◌}
use lib.ListN.{drop}
use Rattle.sheet.specs.Tokens.{digits_of}
use Rattle.sheet.proofs.piece.digits.Given as goal

abbrev pub invariant-loop-i : goal.invariant-loop-i
invariant-loop-i l = (l.v ≤ 1_000_000_000_000) × (digits_of l.first l.more ≡ digits_of l.v (drop l.i l.more))
