-- The quantities that primitives and clauses name, as numbers below n.
use Rattle.std.specs.Prelude.{List, ℕ, ◌<◌}
use Rattle.whole.specs.Lists.{AllOf}
use Rattle.problem.specs.declared.Primitive.{Primitive}
use Rattle.problem.specs.declared.Primitive.TheVariants.{Sum, Product, Square}
use Rattle.problem.specs.declared.Literal.{Literal}
use Rattle.problem.specs.declared.Literal.TheVariants.{AtMost, AtLeast}

-- the quantity of a literal
abbrev pub quantity_of : Literal → ℕ
quantity_of (AtMost q c) = q
quantity_of (AtLeast q c) = q

-- the primitive's quantities are among the first n
abbrev pub SitedIn : ℕ → Primitive → Type 0
SitedIn n (Sum z x y) = (z < n) × ((x < n) × (y < n))
SitedIn n (Product z x y) = (z < n) × ((x < n) × (y < n))
SitedIn n (Square z x) = (z < n) × (x < n)

abbrev pub SitedAll : ℕ → List Primitive → Type 0
SitedAll n ps = AllOf (SitedIn n) ps

-- the literals' quantities are
abbrev pub PlacedIn : ℕ → List Literal → Type 0
PlacedIn n ls = AllOf (λ (l : Literal). quantity_of l < n) ls

abbrev pub PlacedAll : ℕ → List (List Literal) → Type 0
PlacedAll n cs = AllOf (PlacedIn n) cs
