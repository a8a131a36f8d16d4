-- For the code: boxes that can be computed with, and what a function that does some steps says and leaves.
use Rattle.std.specs.Prelude.{◌≡◌, Bool, true, false, Result, Ok, Err, List, ℕ, ◌+◌, ◌*◌, ◌<◌, length, ◌≤ℤ◌, ◌<ℤ◌}
use Rattle.std.specs.Borrow.{MutBor}
use Rattle.whole.specs.inner.Held.{Good}
use Rattle.whole.specs.declared.Range.{Range}
use Rattle.problem.specs.Problem.{Box, range_at}
use Rattle.problem.specs.declared.Primitive.{Primitive}
use Rattle.problem.specs.declared.Primitive.TheVariants.{Sum, Product, Square}
use Rattle.problem.specs.declared.Literal.{Literal}
use Rattle.narrow.specs.Cuts.{put_at, Swept, empty, changed, unchanged, Step, steps}
use Rattle.narrow.specs.Sweep.{sweep_of}
use Rattle.narrow.specs.declared.Status.{Status}
use Rattle.narrow.specs.declared.Status.TheVariants.{Empty, Changed, Same}
use Rattle.narrow.specs.declared.Emptied.{Emptied}

-- the box has the quantity
abbrev pub Has : Box → ℕ → Type 0
Has b q = 2 * q + 1 < length b

-- the box has the primitive's quantities
abbrev pub Sited : Box → Primitive → Type 0
Sited b (Sum z x y) = Has b z × (Has b x × Has b y)
Sited b (Product z x y) = Has b z × (Has b x × Has b y)
Sited b (Square z x) = Has b z × Has b x

-- every range of the box can be computed with
pub record Fine (b : Box) : Type 0 where
  pub good : (q : ℕ) → Has b q → Good (range_at b q)

-- a range that was read
pub record Seen (b : Box) (q : ℕ) (r : Range) : Type 0 where
  pub is : r ≡ range_at b q
  pub good : Good r

-- a range that was replaced: an empty one leaves the box, any other is written
pub record Replaced (q : ℕ) (r : Range) (b₀ : Box) (s : Result Bool Emptied) (b : Box) : Type 0 where
  pub none : r.high <ℤ r.low → (s ≡ Err (record {})) × (b ≡ b₀)
  pub some : r.low ≤ℤ r.high → (s ≡ Ok true) × (b ≡ put_at b₀ q r)

-- a status, with the box it leaves
abbrev pub swept_as : Status → Box → Swept
swept_as Empty b = empty
swept_as Changed b = changed b
swept_as Same b = unchanged b

-- whether a range has changed, or that one is empty, with the box it leaves
abbrev pub left_as : Result Bool Emptied → Box → Swept
left_as (Err e) b = empty
left_as (Ok true) b = changed b
left_as (Ok false) b = unchanged b

-- steps done, before which a range may have changed: what they come to, and that the box stays fine, also where it is empty and its contents no
-- longer matter
pub record Done (ss : List Step) (c₀ : Bool) (b₀ : Box) (r : Result Bool Emptied) (b : Box) : Type 0 where
  pub says : left_as r b ≡ steps (left_as (Ok c₀) b₀) ss
  pub fine : Fine b

-- a lent box that is still the same list of ends, as long as it was
pub record Kept (m₀ m : MutBor Box) : Type 0 where
  pub name : m.ghost_name ≡ m₀.ghost_name
  pub size : length m.now ≡ length m₀.now

-- steps done in a lent box
pub record Narrowed (ss : List Step) (c₀ : Bool) (m₀ : MutBor Box) (r : Result Bool Emptied) (m : MutBor Box) : Type 0 where
  pub kept : Kept m₀ m
  pub done : Done ss c₀ m₀.now r m.now

-- a sweep done: what it comes to, and that the box stays fine
pub record Sweeps (ps : List Primitive) (cs : List (List Literal)) (b₀ : Box) (r : Status) (b : Box) : Type 0 where
  pub says : swept_as r b ≡ sweep_of ps cs b₀
  pub fine : Fine b
