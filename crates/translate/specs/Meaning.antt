-- What the answer of the public call means for the sheet: document 01, "Translation" and the table of a sheet's refusals.
use Rattle.std.specs.Prelude.{◌≡◌, true, false, List, ℕ, ◌*◌, ℤ, pos, length, take, Ok}
use Rattle.problem.specs.Lists.{problem_of}
use Rattle.problem.specs.Grounds.{judge_of}
use Rattle.problem.specs.Leading.{bad_leading}
use Rattle.sheet.specs.Grammar.{Line}
use Rattle.meaning.specs.Lists.{name_bytes}
use Rattle.meaning.specs.Draft.{declared_in}
use Rattle.meaning.specs.Grounds.{short_lists, top_in}
use Rattle.meaning.specs.Refused.{RefusedAt}
use Rattle.meaning.specs.Demand3.{Spells, Faithful}
use Rattle.translate.specs.declared.Counts.{Counts}

-- the number of the ground and the line given: 19 goes before all others
pub data RefusedFor (t : List ℕ) (rs ps ns ls : List ℤ) (bytes : List ℕ) : ℕ → ℕ → Type 0 where
  -- a lent list shorter than its full size
  lists : short_lists rs ps ns ls bytes ≡ true → RefusedFor t rs ps ns ls bytes 19 0
  -- the sheet's own ground
  sheet : {g k : ℕ} → short_lists rs ps ns ls bytes ≡ false → RefusedAt t g k → RefusedFor t rs ps ns ls bytes g k

-- the front of each list that an acceptance with these counts fills
abbrev pub range_front : Counts → List ℤ → List ℤ
range_front c rs = take (2 * c.quantities) rs

abbrev pub primitive_front : Counts → List ℤ → List ℤ
primitive_front c ps = take (4 * c.primitives) ps

abbrev pub length_front : Counts → List ℤ → List ℤ
length_front c ns = take c.clauses ns

abbrev pub literal_front : Counts → List ℤ → List ℤ
literal_front c ls = take (3 * c.literals) ls

abbrev pub name_front : Counts → List ℕ → List ℕ
name_front c bytes = take (8 * c.declared) bytes

-- what the fronts mean for the sheet
pub record Translation (t : List ℕ) (c : Counts) (rs ps ns ls : List ℤ) (bytes : List ℕ) : Type 0 where
  -- its lines spell these trees
  pub trees : List Line
  pub spells : Spells t trees
  -- the declared names, in order, 8 bytes each
  pub declared : c.declared ≡ length (declared_in trees)
  pub names : name_front c bytes ≡ name_bytes (declared_in trees)
  -- a solve refuses the fronts on none of its grounds 1 to 5
  pub sound : judge_of (range_front c rs) (primitive_front c ps) (length_front c ns) (literal_front c ls) ≡ Ok tt
  -- nor on 8, the declared quantities being the leading ones
  pub leads : bad_leading (range_front c rs) (primitive_front c ps) (pos c.declared) ≡ false
  -- and their problem says what the sheet says
  pub faithful :
      Faithful (top_in t) trees (declared_in trees) (problem_of (range_front c rs) (primitive_front c ps) (length_front c ns) (literal_front c ls))
