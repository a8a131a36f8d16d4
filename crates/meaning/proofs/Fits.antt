-- What is accepted fits the caller's lists and fits the solver's grounds 1 to 5 and 8: each line left room, and as the lowest values have helpers in every range, no range is empty.
use mathlib.Core.Path.{◌≡◌, sym, ap, subst, ◌∙◌}
use mathlib.Core.Bool.{false}
use mathlib.Core.List.{List, [], ◌∷◌, ◌++◌}
use Prim.Native.Nat.{ℕ, suc, ◌<◌, ◌≤◌}
use native.Mathlib.Omega.{arith}
use lib.ListN.{length, length-append}
use lib.IntN.{pos}
use lib.Signed.{◌≤ℤ◌}
use Rattle.whole.specs.Lists.{AllOf}
use Rattle.whole.specs.Ranges.{Point, range}
use Rattle.whole.specs.declared.Range.{Range}
use Rattle.whole.proofs.Kit.{ints}
use Rattle.problem.specs.Problem.{low_at, high_at, range_at, Inside}
use Rattle.problem.specs.Lists.{problem_of}
use Rattle.problem.specs.Grounds.{judge_of}
use Rattle.problem.specs.Leading.{bad_leading}
use Rattle.std.specs.Prelude.{Ok}
use Rattle.meaning.specs.Lists.{range_list, primitive_list, length_list, literal_list, literals_in}
use Rattle.meaning.specs.Plain.{place_of}
use Rattle.meaning.specs.Draft.{Draft, quantities_in, problem_in}
use Rattle.meaning.specs.Fits.{Fits}
use Rattle.meaning.specs.Grounds.{top_of, read, outcome_of}
use Rattle.meaning.proofs.Elements.{all_join, all_at}
use Rattle.meaning.proofs.NamePlaces.{Distinct}
use Rattle.meaning.proofs.FlatLists.{range_at_lem, inside_each, round}
use Rattle.meaning.proofs.Pieces.{Within}
use Rattle.meaning.proofs.Faultless.{text_read}
use Rattle.meaning.proofs.Demand3.{values}
use Rattle.meaning.proofs.NamedQuantities.{Known, Good}
use Rattle.meaning.proofs.HelpersDefined.{AllDefined}
use Rattle.meaning.proofs.LinesFit.{Ordered, NearEnds, top_near, room_read}
use Rattle.meaning.proofs.SolverGrounds.{sound, leads}

-- ---- no range is empty
ordered_all : (p : Point) (k : ℕ) (rs : List Range) → Within p k rs → AllOf Ordered rs
ordered_all p k [] h = tt
ordered_all p k (r ∷ rs) h = (omega (ints, h.0), ordered_all p (suc k) rs h.1)

-- each declared quantity at its lowest
lowest : List Range → Point
lowest d q = (range_at (range_list d) q).low

lowest_in : (d : List Range) → AllOf Ordered d → Inside (length d) (lowest d) (range_list d)
unfolding lowest
lowest_in d h =
    record {
      each = λ q l.
          let o : low_at (range_list d) q ≤ℤ high_at (range_list d) q = subst Ordered (sym (range_at_lem d q)) (all_at Ordered d (range (pos 0) (pos 0)) q l h) in
          record { above = omega ints; below = o };
    }

-- ---- what is accepted
pub record Passes (s : Draft) : Type 0 where
  pub many : length s.names ≡ length s.declared
  pub distinct : Distinct s.names
  pub some : 0 < length s.names
  pub names : length s.names ≤ 128
  pub within : length s.names ≤ quantities_in s
  pub quantities : 1 ≤ quantities_in s
  pub few : quantities_in s ≤ 128
  pub primitives : length s.made.primitives ≤ 127
  pub clauses : length s.made.clauses ≤ 254
  pub literals : length (literals_in s.made.clauses) ≤ 508
  pub ordered : AllOf Ordered (s.declared ++ s.made.ranges)
  pub near : AllOf NearEnds (s.declared ++ s.made.ranges)
  pub known : AllOf (Known (quantities_in s)) s.made.primitives
  pub good : AllOf (Good (quantities_in s)) (literals_in s.made.clauses)
  pub defined : AllDefined (length s.declared) s.made

pub fits : (t : List ℕ) (s : Draft) → outcome_of t ≡ read s → Passes s
fits t s e =
    let r = text_read t s e in
    let h = room_read (top_of r.version) (top_near r.version) 2 _ s r.lines in
    let v = values t s e (lowest s.declared) (lowest_in s.declared h.ordered) in
    let rs = s.declared ++ s.made.ranges in
    record {
      many = h.many;
      distinct = h.distinct;
      some = r.some;
      names = omega (arith, h.many, h.few);
      within = omega (arith, h.many);
      quantities = omega (arith, r.some, h.many);
      few = h.few;
      primitives = omega (arith, r.some, h.many, h.few, h.small);
      clauses = omega (arith, r.some, h.many, h.few, h.small);
      literals = omega (arith, r.some, h.many, h.few, h.small);
      ordered = ordered_all v.0 0 rs (inside_each v.0 rs (quantities_in s) (sym (length-append s.declared s.made.ranges)) v.2);
      near = all_join NearEnds s.declared s.made.ranges h.near h.near_made;
      known = h.known;
      good = h.good;
      defined = h.defined;
    }

-- as lists of full size see it
pub room : (t : List ℕ) (s : Draft) → outcome_of t ≡ read s → Fits s
room t s e =
    let f = fits t s e in
    record {
      ranges = omega (arith, f.few);
      primitives = omega (arith, f.primitives);
      lengths = omega (arith, f.clauses);
      literals = omega (arith, f.literals);
      names = omega (arith, f.names);
      some = f.some;
      many = f.many;
      distinct = λ q r i j same. sym (f.distinct.found q i) ∙ ap (place_of s.names) same ∙ f.distinct.found r j;
    }

-- none of the solver's grounds 1 to 5
pub accepted_sound : (t : List ℕ) (s : Draft) → outcome_of t ≡ read s → judge_of (range_list (s.declared ++ s.made.ranges)) (primitive_list s.made.primitives) (length_list s.made.clauses) (literal_list (literals_in s.made.clauses)) ≡ Ok tt
accepted_sound t s e =
    let f = fits t s e in
    let n = length-append s.declared s.made.ranges in
    sound (s.declared ++ s.made.ranges) s.made.primitives s.made.clauses
    (record {
      some = omega (arith, f.some, f.many);
      few = omega (arith, f.few);
      primitives = omega (arith, f.primitives);
      clauses = omega (arith, f.clauses);
      literals = omega (arith, f.literals);
      ordered = f.ordered;
      near = f.near;
      known = rw n f.known;
      good = rw n f.good;
    })

-- nor 8
pub accepted_leads : (t : List ℕ) (s : Draft) → outcome_of t ≡ read s → bad_leading (range_list (s.declared ++ s.made.ranges)) (primitive_list s.made.primitives) (pos (length s.declared)) ≡ false
accepted_leads t s e =
    let f = fits t s e in
    leads s.declared s.made.ranges s.made.primitives f.defined (omega (arith, f.some, f.many))

-- the four lists read back give the problem
pub read_back : (s : Draft) → problem_of (range_list (s.declared ++ s.made.ranges)) (primitive_list s.made.primitives) (length_list s.made.clauses) (literal_list (literals_in s.made.clauses)) ≡ problem_in s
read_back s = round (s.declared ++ s.made.ranges) s.made.primitives s.made.clauses
