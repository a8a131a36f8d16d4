-- What is held has room in the lists: quantities are at most 128, and every count is bound by theirs.
use mathlib.Core.List.{List}
use Prim.Native.Nat.{ℕ, ◌*◌, ◌≤◌}
use native.Mathlib.Omega.{arith}
use lib.IntN.{ℤ}
use Rattle.meaning.specs.Draft.{Draft}
use Rattle.lines.specs.inner.Stored.{Stored, Proper}
use Rattle.lines.specs.declared.parts.Progress.{Progress}

-- how far the fronts go
pub record Room (g : Progress) : Type 0 where
  pub ranges : 2 * g.quantities ≤ 256
  pub primitives : 4 * g.primitives ≤ 1024
  pub lengths : g.clauses ≤ 256
  pub literals : g.literals ≤ 512
  pub declared : g.declared ≤ 128

pub room : {s : Draft} {g : Progress} {rs ps ns ls : List ℤ} {keys : List ℕ} → Stored s g rs ps ns ls keys → Proper s → Room g
room h p =
    record {
      ranges = omega (arith, h.few);
      primitives = omega (arith, h.few, h.quantities, h.primitives, p.primitives);
      lengths = omega (arith, h.few, h.quantities, h.clauses, p.clauses);
      literals = omega (arith, h.few, h.quantities, h.literals, p.literals);
      declared = omega (arith, h.few, h.quantities, h.declared, h.alike);
    }
