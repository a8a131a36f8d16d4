-- For the code: what grounds 1 to 5 leave of the lists that a sweep reads, and primitives and literals by their place.
use Rattle.std.specs.Prelude.{◌≡◌, false, List, ℕ, ◌+◌, ◌*◌, ◌≤◌, ◌<◌, length, get_or, ℤ, pos, ◌≤ℤ◌}
use Rattle.problem.specs.Problem.{quantities}
use Rattle.problem.specs.Lists.{primitive_of, literal_of}
use Rattle.problem.specs.Grounds.{bad_lists, bad_primitives, bad_literals}
use Rattle.problem.specs.declared.Primitive.{Primitive}
use Rattle.problem.specs.declared.Literal.{Literal}

-- place i of a primitive list can be read
pub record Readable (ps : List ℤ) (i : ℕ) : Type 0 where
  pub inside : 4 * i + 3 < length ps
  pub z : pos 0 ≤ℤ get_or ps (4 * i + 1) (pos 0)
  pub x : pos 0 ≤ℤ get_or ps (4 * i + 2) (pos 0)
  pub y : pos 0 ≤ℤ get_or ps (4 * i + 3) (pos 0)

-- every primitive of a list can be read
pub record ReadableAll (ps : List ℤ) : Type 0 where
  pub each : (i : ℕ) → 4 * i + 3 < length ps → Readable ps i

-- what grounds 1 and 4 leave for ground 8: 128 quantities at most, and primitives that can be read
pub record Leadable (rs ps : List ℤ) : Type 0 where
  pub few : quantities rs ≤ 128
  pub readable : ReadableAll ps

-- quantity q of a range list, and primitives that can be read
pub record Definable (rs ps : List ℤ) (q : ℕ) : Type 0 where
  pub inside : q < quantities rs
  pub readable : ReadableAll ps

-- place i of a literal list can be read
pub record ReadableLiteral (ls : List ℤ) (i : ℕ) : Type 0 where
  pub inside : 3 * i + 2 < length ls
  pub quantity : pos 0 ≤ℤ get_or ls (3 * i) (pos 0)

-- none of grounds 2, 4 and 5, for n quantities
pub record Placed (n : ℕ) (ps ns ls : List ℤ) : Type 0 where
  pub lists : bad_lists ps ns ls ≡ false
  pub primitives : bad_primitives n ps ≡ false
  pub literals : bad_literals n ls ≡ false

-- the primitive at a place, and the literal
abbrev pub primitive_at : List ℤ → ℕ → Primitive
primitive_at ps i =
    primitive_of (get_or ps (4 * i) (pos 0)) (get_or ps (4 * i + 1) (pos 0)) (get_or ps (4 * i + 2) (pos 0)) (get_or ps (4 * i + 3) (pos 0))

abbrev pub literal_at : List ℤ → ℕ → Literal
literal_at ls i = literal_of (get_or ls (3 * i) (pos 0)) (get_or ls (3 * i + 1) (pos 0)) (get_or ls (3 * i + 2) (pos 0))
