-- The point buffer of a solve that is answered has a number for each quantity: every box of the search has that many ranges.
use mathlib.Core.Path.{◌≡◌}
use mathlib.Core.List.{List}
use Prim.Native.Nat.{ℕ}
use lib.IntN.{ℤ}
use lib.ListN.{length}
use Rattle.std.specs.Prelude.{Ok}
use Rattle.problem.specs.Problem.{quantities}
use Rattle.problem.specs.Lists.{problem_of}
use Rattle.problem.specs.Grounds.{judge_of}
use Rattle.search.specs.Search.{Outcome, stopped, found, none, search_of}
use Rattle.search.specs.Solve.{point_of}
use Rattle.search.proofs.Choice.{lows_length}
use Rattle.search.proofs.Run.{boxes_of}
use Rattle.search.proofs.Demand2.{Stack, stack}
use Rattle.search.proofs.Judged.{judges}
use Rattle.search.proofs.Instance.{start_part, sweep_lawful}

pub point_long : (rs ps ns ls : List ℤ) → judge_of rs ps ns ls ≡ Ok tt → (k : ℕ) (p : List ℤ) → length p ≡ quantities rs
    → length (point_of (search_of (problem_of rs ps ns ls) k) p) ≡ quantities rs
point_long rs ps ns ls sound k p e =
    let j = judges rs ps ns ls sound in
    by (search_of (problem_of rs ps ns ls) k) (stack (sweep_lawful rs ps ns ls j) (start_part j.started) k)
  where
    by : (o : Outcome) → Stack (quantities rs) (quantities rs) rs (boxes_of o) → length (point_of o p) ≡ quantities rs
    by (stopped c ws) s = lows_length c (quantities rs) s.0.long
    by (found c ws left) s = lows_length c (quantities rs) s.0.long
    by (none left) s = e
