-- For the code: the local lists hold the sheet as read so far, and what the answer to a line says of them.
use Rattle.std.specs.Prelude.{◌≡◌, Bool, true, false, cond, List, [], ◌++◌, ℕ, ◌+◌, ◌*◌, ◌≤◌, eqb, ℤ, pos, length, take, replicate, Result, Ok, Err}
use Rattle.std.proofs.Math.Option.{Option}
use Rattle.whole.specs.Lists.{AllOf}
use Rattle.whole.specs.inner.Held.{Good}
use Rattle.sheet.specs.Grammar.{Line}
use Rattle.sheet.specs.Reading.{«whole», all_f, as_must, then_of}
use Rattle.sheet.specs.declared.Token.{Token}
use Rattle.meaning.specs.Translation.{nothing}
use Rattle.meaning.specs.Lists.{range_list, primitive_list, length_list, literals_in, literal_list}
use Rattle.meaning.specs.Draft.{Draft, quantities_in}
use Rattle.meaning.specs.Grounds.{Outcome, refused, read, top_of, line_outcome, one_line}
use Rattle.meaning.specs.declared.Refusal.{Refusal}
use Rattle.lines.specs.declared.parts.Making.{Making}
use Rattle.lines.specs.declared.parts.Progress.{Progress}

-- ---- what is held
-- the lists' fronts are the sheet's, with the counts of a progress
pub record Stored (s : Draft) (g : Progress) (rs ps ns ls : List ℤ) (keys : List ℕ) : Type 0 where
  pub declared : g.declared ≡ length s.names
  pub alike : length s.declared ≡ length s.names
  pub quantities : g.quantities ≡ quantities_in s
  pub primitives : g.primitives ≡ length s.made.primitives
  pub clauses : g.clauses ≡ length s.made.clauses
  pub literals : g.literals ≡ length (literals_in s.made.clauses)
  pub ruled : g.ruled ≡ s.ruled
  pub range_front : take (2 * g.quantities) rs ≡ range_list (s.declared ++ s.made.ranges)
  pub primitive_front : take (4 * g.primitives) ps ≡ primitive_list s.made.primitives
  pub length_front : take g.clauses ns ≡ length_list s.made.clauses
  pub literal_front : take (3 * g.literals) ls ≡ literal_list (literals_in s.made.clauses)
  pub key_front : take g.declared keys ≡ s.names
  pub few : g.quantities ≤ 128

-- what every sheet that is read has
pub record Proper (s : Draft) : Type 0 where
  pub good : AllOf Good s.declared
  pub primitives : length s.made.primitives ≤ length s.made.ranges
  pub clauses : length s.made.clauses ≤ 2 * length s.made.ranges
  pub literals : length (literals_in s.made.clauses) ≤ 4 * length s.made.ranges
  -- before the first rule nothing is made
  pub unruled : s.ruled ≡ false → s.made ≡ nothing

-- the lists have their full sizes
pub record Full (rs ps ns ls : List ℤ) (keys : List ℕ) : Type 0 where
  pub ranges : length rs ≡ 256
  pub primitives : length ps ≡ 1024
  pub lengths : length ns ≡ 256
  pub literals : length ls ≡ 3072
  pub names : length keys ≡ 128

-- some sheet is held
pub record Standing (g : Progress) (rs ps ns ls : List ℤ) (keys : List ℕ) : Type 0 where
  pub draft : Draft
  pub stored : Stored draft g rs ps ns ls keys
  pub proper : Proper draft
  pub full : Full rs ps ns ls keys

-- the outcome is a sheet, and the lists hold it
pub record Holds (o : Outcome) (g : Progress) (rs ps ns ls : List ℤ) (keys : List ℕ) : Type 0 where
  pub draft : Draft
  pub outcome : o ≡ read draft
  pub stored : Stored draft g rs ps ns ls keys
  pub proper : Proper draft

-- ---- a line
-- what the answer to line k says of its outcome
abbrev pub LineSays : ℕ → Outcome → List ℤ → List ℤ → List ℤ → List ℤ → List ℕ → Result Progress Refusal → Type 0
LineSays k o rs ps ns ls keys (Ok g) = Holds o g rs ps ns ls keys
LineSays k o rs ps ns ls keys (Err g) = o ≡ refused g k

-- the answer to a line, whatever sheet was held before it and whatever its number; f gives the outcome
pub record Answers
    (f : Draft → ℕ → Outcome) (g : Progress) (rs₀ ps₀ ns₀ ls₀ : List ℤ) (keys₀ : List ℕ) (rs ps ns ls : List ℤ) (keys : List ℕ)
    (r : Result Progress Refusal)
    : Type 0 where
  pub says : (s : Draft) (k : ℕ) → Stored s g rs₀ ps₀ ns₀ ls₀ keys₀ → Proper s → LineSays k (f s k) rs ps ns ls keys r

-- the outcome of a line in a sheet of some version
abbrev pub line_by : ℕ → List ℕ → Draft → ℕ → Outcome
line_by version line s k = one_line (top_of version) s k line

-- of a tree, where there is one
abbrev pub tree_by : ℕ → Option Line → Draft → ℕ → Outcome
tree_by version o s k = line_outcome (top_of version) s k o

-- the tokens behind `if`, or behind `must`, as a rule
abbrev pub rule_f : Bool → ℕ → List Token → Option Line
rule_f true k ts = then_of k (all_f k 20 ts)
rule_f false k ts = as_must («whole» (all_f k 21 ts))

-- a quantity more has a place among the ranges and the names
pub record DeclaresIn (g : Progress) (rs : List ℤ) (keys : List ℕ) : Type 0 where
  pub within : g.declared ≤ g.quantities
  pub few : g.quantities ≤ 128
  pub ranges : length rs ≡ 256
  pub names : length keys ≡ 128

-- the counts with n clauses of c literals each, and the numbers that were written for them
abbrev pub clauses_for : ℕ → ℕ
clauses_for e = cond (eqb e 0) 1 2

pub record Appended (g : Progress) (m : Making) (c e : ℕ) (ns₀ ls₀ seconds ns ls : List ℤ) (r : Progress) : Type 0 where
  pub declared : r.declared ≡ g.declared
  pub quantities : r.quantities ≡ m.used
  pub primitives : r.primitives ≡ m.count
  pub clauses : r.clauses ≡ g.clauses + clauses_for e
  pub literals : r.literals ≡ g.literals + clauses_for e * c
  pub ruled : r.ruled ≡ true
  pub length_front : take r.clauses ns ≡ take g.clauses ns₀ ++ replicate (clauses_for e) (pos c)
  pub literal_front : take (3 * r.literals) ls ≡ take (3 * (g.literals + c)) ls₀ ++ cond (eqb e 0) [] (take (3 * c) seconds)

-- the lists have room for a rule's clauses
pub record Roomy (g : Progress) (c : ℕ) (ns ls seconds : List ℤ) : Type 0 where
  pub clauses : g.clauses + 2 ≤ length ns
  pub literals : 3 * (g.literals + 2 * c) ≤ length ls
  pub second : 3 * c ≤ length seconds
  pub small : c ≤ 256
  pub few : g.literals ≤ 512
