-- The key of the whole is what the bytes to come make of the key of those before; i bytes make less than 256 to the i.
use Prim.Native.Nat.{◌^◌, ◌<◌}
use mathlib.Core.Path.{◌≡◌}
use lib.ListN.{drop}
use Rattle.sheet.specs.Tokens.{key_of}
use Rattle.sheet.proofs.piece.key.Given as goal

abbrev pub invariant-loop-b : goal.invariant-loop-b
invariant-loop-b l = (l.k < 256 ^ l.b-index) × (key_of 0 l.w ≡ key_of l.k (drop l.b-index l.w))
