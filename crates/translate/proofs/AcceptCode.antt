-- What the walk through the lines holds is a sheet that stands in the lists; and where the walk ends otherwise, the lists lent stay as they came.
use Rattle.std.specs.Prelude.{Result, Ok, Err}
use mathlib.Core.Path.{◌≡◌, refl, ap}
use mathlib.Core.List.{List}
use Prim.Native.Nat.{ℕ}
use lib.IntN.{ℤ}
use Rattle.meaning.specs.Grounds.{Outcome, refused, some_declared}
use Rattle.meaning.specs.declared.Refusal.{Refusal}
use Rattle.lines.specs.declared.parts.Progress.{Progress}
use Rattle.lines.specs.inner.Stored.{Standing, Holds}
use Rattle.translate.specs.declared.Refused.{Refused}
use Rattle.translate.specs.inner.Walk.{LinesRead, Gives}

pub same_gives : (o : Outcome) (rs ps ns ls : List ℤ) (bytes : List ℕ) (g : Refusal) (k : ℕ) → o ≡ refused g k → Gives o rs ps ns ls bytes rs ps ns ls bytes (Err (record { refusal = g; line = k }))
same_gives o rs ps ns ls bytes g k e = rw e (record { result = refl; ranges = refl; primitives = refl; lengths = refl; literals = refl; names = refl })

module _ {o : Outcome} {rs ps ns ls : List ℤ} {keys : List ℕ} {w : Result Progress Refused} (h : LinesRead o rs ps ns ls keys w) where
  pub walk_standing : (d : Progress) → w ≡ Ok d → Standing d rs ps ns ls keys
  walk_standing d e =
      let held : Holds o d rs ps ns ls keys = rw e at h.says in
      record { draft = held.draft; stored = held.stored; proper = held.proper; full = h.full }

  pub walk_refused : (e : Refused) → w ≡ Err e → (rs₀ ps₀ ns₀ ls₀ : List ℤ) (bytes₀ : List ℕ) → Gives (some_declared o) rs₀ ps₀ ns₀ ls₀ bytes₀ rs₀ ps₀ ns₀ ls₀ bytes₀ (Err e)
  walk_refused e is rs₀ ps₀ ns₀ ls₀ bytes₀ =
      let f : o ≡ refused e.refusal e.line = rw is at h.says in
      same_gives (some_declared o) rs₀ ps₀ ns₀ ls₀ bytes₀ e.refusal e.line (ap some_declared f)
