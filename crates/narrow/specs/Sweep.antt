-- A sweep visits primitives in order, then clauses in order: document 01, "The search".
use Rattle.std.specs.Prelude.{List, [], ◌∷◌, ◌++◌, map}
use Rattle.problem.specs.Problem.{Box}
use Rattle.problem.specs.declared.Primitive.{Primitive}
use Rattle.problem.specs.declared.Literal.{Literal}
use Rattle.narrow.specs.Cuts.{Swept, unchanged, Step, steps}
use Rattle.narrow.specs.Narrowing.{primitive_steps, clause_step}

-- the steps of all primitives
unfoldable pub all_steps : List Primitive → List Step
all_steps [] = []
all_steps (p ∷ ps) = primitive_steps p ++ all_steps ps

abbrev pub sweep_steps : List Primitive → List (List Literal) → List Step
sweep_steps ps cs = all_steps ps ++ map clause_step cs

-- what a sweep of a box comes to
unfoldable pub sweep_of : List Primitive → List (List Literal) → Box → Swept
sweep_of ps cs b = steps (unchanged b) (sweep_steps ps cs)
