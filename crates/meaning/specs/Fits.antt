-- Room for an accepted sheet: its lists fit those of document 01's full sizes, and its names differ.
use Rattle.std.specs.Prelude.{◌≡◌, ℕ, ◌*◌, ◌<◌, ◌≤◌, length, get_or}
use Rattle.meaning.specs.Lists.{literals_in}
use Rattle.meaning.specs.Draft.{Draft, quantities_in}

-- 256, 1,024, 256 and 3,072 numbers; 1,024 name bytes
pub record Fits (s : Draft) : Type 0 where
  pub ranges : 2 * quantities_in s ≤ 256
  pub primitives : 4 * length s.made.primitives ≤ 1_024
  pub lengths : length s.made.clauses ≤ 256
  pub literals : 3 * length (literals_in s.made.clauses) ≤ 3_072
  pub names : 8 * length s.names ≤ 1_024
  -- at least one name, as many as declared ranges, and none twice
  pub some : 0 < length s.names
  pub many : length s.names ≡ length s.declared
  pub distinct : (q r : ℕ) → q < length s.names → r < length s.names → get_or s.names q 0 ≡ get_or s.names r 0 → q ≡ r
