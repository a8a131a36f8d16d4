-- A lent box that is still the same list, as long as it was; and a range that is written, as it is not empty.
use mathlib.Core.Path.{refl, ◌∙◌}
use Prim.Native.Nat.{ℕ}
use lib.Signed.{◌≤ℤ◌}
use Rattle.std.specs.Prelude.{true, Ok}
use Rattle.std.specs.Borrow.{MutBor}
use Rattle.whole.specs.declared.Range.{Range}
use Rattle.whole.proofs.Kit.{ints}
use Rattle.problem.specs.Problem.{Box}
use Rattle.narrow.specs.Cuts.{put_at}
use Rattle.narrow.specs.inner.Done.{Kept, Replaced}

pub same : {m : MutBor Box} → Kept m m
same = record { name = refl; size = refl }

pub kept_then : {a b c : MutBor Box} → Kept a b → Kept b c → Kept a c
kept_then k l = record { name = l.name ∙ k.name; size = l.size ∙ k.size }

pub replaced_some : {q : ℕ} {r : Range} {b : Box} → r.low ≤ℤ r.high → Replaced q r b (Ok true) (put_at b q r)
replaced_some h = record { none = λ k. absurd (omega ints); some = λ k. (refl, refl) }
