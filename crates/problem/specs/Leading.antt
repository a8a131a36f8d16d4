-- Leading quantities: document 02, L6. Each quantity after them is one value, or the result of a primitive over lower-numbered ones.
use Rattle.std.specs.Prelude.{Bool, true, false, not, ◌&&◌, ◌||◌, List, [], ◌∷◌, ℕ, zero, suc, ◌-◌, eqb, ltb, ℤ, pos}
use Rattle.std.specs.Int.Signed.{lt_z}
use Rattle.whole.specs.Numbers.{positive_part}
use Rattle.problem.specs.Problem.{Box, low_at, high_at, quantities}
use Rattle.problem.specs.Lists.{primitives_of}
use Rattle.problem.specs.declared.Primitive.{Primitive}
use Rattle.problem.specs.declared.Primitive.TheVariants.{Sum, Product, Square}

-- q is the result of a primitive over lower-numbered ones: z of any kind, or x or y of a sum
abbrev pub makes : Primitive → ℕ → Bool
makes (Sum z x y) q =
    (eqb z q && (ltb x q && ltb y q)) || ((eqb x q && (ltb z q && ltb y q)) || (eqb y q && (ltb z q && ltb x q)))
makes (Product z x y) q = eqb z q && (ltb x q && ltb y q)
makes (Square z x) q = eqb z q && ltb x q

-- of one of these
unfoldable pub made : List Primitive → ℕ → Bool
made [] q = false
made (p ∷ ps) q = makes p q || made ps q

-- its starting range is one value, or it is such a result
abbrev pub defined : Box → List Primitive → ℕ → Bool
defined b ps q = not (lt_z (low_at b q) (high_at b q)) || made ps q

-- k quantities from q on, each so defined
unfoldable pub defined_from : Box → List Primitive → ℕ → ℕ → Bool
defined_from b ps zero q = true
defined_from b ps (suc k) q = defined b ps q && defined_from b ps k (suc q)

-- 8: a leading number outside 1 to n, or a later quantity not so defined
abbrev pub bad_leading : List ℤ → List ℤ → ℤ → Bool
bad_leading rs ps lead =
    (lt_z lead (pos 1) || lt_z (pos (quantities rs)) lead)
    || not (defined_from rs (primitives_of ps) (quantities rs - positive_part lead) (positive_part lead))
