-- Demand 3: what is kept of a sheet line by line says that its problem and the sheet as written say the same.
use mathlib.Core.Path.{◌≡◌, refl, sym, ap, ◌∙◌}
use mathlib.Core.List.{List, [], ◌∷◌, ◌++◌, map}
use Prim.Native.Nat.{ℕ, ◌<◌, ◌≤◌}
use native.Mathlib.Omega.{arith}
use native.Mathlib.Nat.{zero-add}
use lib.ListN.{length, get_or, length-append}
use Rattle.whole.specs.Lists.{AllOf}
use Rattle.whole.specs.Ranges.{Point, In}
use Rattle.problem.specs.Problem.{Problem, quantities, Inside, Holds, Satisfies}
use Rattle.problem.specs.Order.{Alike, Before}
use Rattle.sheet.specs.Lines.{lines_of}
use Rattle.sheet.specs.Tokens.{Value, tokens_of}
use Rattle.sheet.specs.Grammar.{Line, spell_line}
use Rattle.sheet.specs.Meaning.{Assignment, Obeys}
use Rattle.meaning.specs.Plain.{place_of}
use Rattle.meaning.specs.Lists.{range_list}
use Rattle.meaning.specs.Draft.{Draft, blank, quantities_in, after, draft_of, declared_in, problem_in}
use Rattle.meaning.specs.Grounds.{top_of, version_in, top_in, read, read_lines, behind_first, outcome_of}
use Rattle.meaning.specs.Demand3.{Spells, Extends, Faithful}
use Rattle.meaning.proofs.Elements.{each_join, each_left, each_right, each_map}
use Rattle.meaning.proofs.NamePlaces.{Distinct}
use Rattle.meaning.proofs.FlatLists.{quantities_is, inside_each, each_inside}
use Rattle.meaning.proofs.Pieces.{Within, Shows, SatisfiesFrom}
use Rattle.meaning.proofs.Extension.{extension, extension_same, extension_shows, alike_on}
use Rattle.meaning.proofs.LinesSay.{Kept, kept_blank}
use Rattle.meaning.proofs.LineCarries.{carried}
use Rattle.meaning.proofs.Faultless.{Faultless, text_read}
use Rattle.meaning.proofs.LineInduction.{after_one_more, names_declared, by_lines}
use Rattle.meaning.proofs.LinesFit.{top_near, room_read}

-- how many quantities the problem has
pub counted : (s : Draft) → quantities (problem_in s).ranges ≡ quantities_in s
counted s = quantities_is (s.declared ++ s.made.ranges) ∙ length-append s.declared s.made.ranges

-- a point as an assignment: each declared name has the value of its quantity
by_point_lem : (names : List ℕ) → Distinct names → (p : Point) → Extends names (λ n. p (place_of names n)) p
by_point_lem names d p q l = ap p (sym (d.found q l))

-- the ranges of a sheet: those declared, then the helpers'
module _ (s : Draft) (p : Point) (n : ℕ) (e : n ≡ length (s.declared ++ s.made.ranges)) where
  ranges_there : Within p 0 s.declared → Within p (length s.declared) s.made.ranges → Inside n p (problem_in s).ranges
  ranges_there w h =
      each_inside p (s.declared ++ s.made.ranges) n e (each_join (λ q r. In r (p q)) s.declared s.made.ranges 0 (length s.declared) (zero-add _) w h)

  ranges_back : Inside n p (problem_in s).ranges → Within p 0 s.declared × Within p (length s.declared) s.made.ranges
  ranges_back h =
      let i = inside_each p (s.declared ++ s.made.ranges) n e h in (
        each_left (λ q r. In r (p q)) s.declared s.made.ranges 0 i,
        each_right (λ q r. In r (p q)) s.declared s.made.ranges 0 (length s.declared) (zero-add _) i,
      )

module _ (s : Draft) (p : Point) where
  whole : Within p 0 s.declared → SatisfiesFrom (length s.declared) p s.made → Satisfies (problem_in s) p
  whole w h =
      record {
        ranges = ranges_there s p (quantities (problem_in s).ranges) (quantities_is (s.declared ++ s.made.ranges)) w h.ranges;
        equations = h.primitives;
        clauses = h.clauses;
      }

  apart : Satisfies (problem_in s) p → Within p 0 s.declared × SatisfiesFrom (length s.declared) p s.made
  apart h =
      let w = ranges_back s p (quantities (problem_in s).ranges) (quantities_is (s.declared ++ s.made.ranges)) h.ranges in
      (w.0, record { ranges = w.1; primitives = h.equations; clauses = h.clauses })

module _ (top : ℕ) (ls : List Line) (s : Draft) (k : Kept top ls s) where
  -- a point with its helpers' values behind it
  helped_by : Point → Point
  helped_by p = extension (length s.declared) p (k.helped p)

  helped_same : (p : Point) → Alike (length s.declared) (helped_by p) p
  unfolding helped_by
  helped_same p = extension_same (length s.declared) p (k.helped p)

  helped_shows : (p : Point) → Shows (helped_by p) (length s.declared) (k.helped (helped_by p))
  unfolding helped_by
  helped_shows p = rw (k.same (helped_by p) p (helped_same p)) (extension_shows (length s.declared) p (k.helped p))

  pub faithful : Distinct s.names → Faithful top ls s.names (problem_in s)
  faithful d =
      record {
        there = λ v o.
            let b : Point = λ q. v (get_or s.names q 0) in
            let x : Extends s.names v (helped_by b) = λ q l. helped_same b q (omega (arith, k.many)) in
            let t = k.there v (helped_by b) x o (helped_shows b) in
            (helped_by b, x, whole s (helped_by b) t.0 t.1);
        one = λ p p' h i same.
            let a : Alike (length s.declared) p p' = λ q l. same q (omega (arith, k.many)) in
            alike_on p p' (length s.declared) (quantities (problem_in s).ranges) (k.helped p) (k.helped p') (k.same p p' a) (omega (arith, k.long p, counted s))
            (k.shown p (apart s p h).1) (k.shown p' (apart s p' i).1) a;
        back = λ p h. (λ n. p (place_of s.names n), by_point_lem s.names d p, every (λ n. p (place_of s.names n)) p (by_point_lem s.names d p) h);
        every = every;
      }
    where
      every : (v : Assignment) (p : Point) → Extends s.names v p → Satisfies (problem_in s) p → Obeys top v ls
      every v p x h = k.back v p x (apart s p h).0 (apart s p h).1

  -- helpers' ranges lose nothing: a point within the declared ranges, obeying or not, has its helpers' values in their ranges, and all equations hold
  pub kept_values : (p : Point) → Inside (length s.declared) p (range_list s.declared) → (p' : Point) × Alike (length s.declared) p' p × Inside (quantities_in s) p' (problem_in s).ranges × AllOf (Holds p') (problem_in s).primitives
  kept_values p h =
      let n = length s.declared in
      let w = each_map (λ q r. In r (p q)) (λ q r. In r (helped_by p q)) s.declared 0 n (omega arith) (λ q r l i. rw (helped_same p q l) i) (inside_each p s.declared n refl h) in
      let b = k.values (helped_by p) w (helped_shows p) in
      (helped_by p, helped_same p, ranges_there s (helped_by p) (quantities_in s) (sym (length-append s.declared s.made.ranges)) w b.0, b.1)

-- ---- what follows for a search of the problem
module _ (top : ℕ) (ls : List Line) (names : List ℕ) (b : Problem) (f : Faithful top ls names b) where
  -- no satisfying point: no assignment obeys
  pub none : ((p : Point) → Satisfies b p → ⊥) → (v : Assignment) → Obeys top v ls → ⊥
  none h v o = let t = f.there v o in h t.0 t.2

  -- no satisfying point before g: no assignment that obeys before g's declared part
  pub least : length names ≤ quantities b.ranges → (g : Point) → ((p : Point) → Satisfies b p → ¬ Before (quantities b.ranges) p g) → (v : Assignment) → Obeys top v ls → (p : Point) → Extends names v p → ¬ Before (length names) p g
  least l g h v o p x c =
      let t = f.there v o in
      let e : (q : ℕ) → q < length names → t.0 q ≡ p q = λ q i. t.1 q i ∙ sym (x q i) in
      h t.0 t.2
      (record {
        place = c.place;
        counted = omega (arith, c.counted);
        alike = λ q i. e q (omega (arith, c.counted)) ∙ c.alike q i;
        less = rw (e c.place c.counted) c.less;
      })

  -- a satisfying point, as an assignment, obeys
  pub found : Distinct names → (g : Point) → Satisfies b g → Obeys top (λ n. g (place_of names n)) ls
  found d g h = f.every (λ n. g (place_of names n)) g (by_point_lem names d g) h

-- ---- the sheets that are accepted
-- of the trees read so far: what is kept, and that the draft is what they make
pub record SoFar (top : ℕ) (ls : List Line) (s : Draft) : Type 0 where
  pub kept : Kept top ls s
  pub made : s ≡ draft_of top ls

read_more : (top : ℕ) (ls : List Line) (s : Draft) (l : Line) → SoFar top ls s → Faultless top s l → SoFar top (ls ++ (l ∷ [])) (after top s l)
read_more top ls s l r f =
    record {
      kept = carried top ls s l r.kept f;
      made = ap (λ (u : Draft). after top u l) r.made ∙ sym (after_one_more top blank ls l);
    }

pub lines_trees : (top k : ℕ) (ts : List (List ℕ)) (s : Draft) → read_lines top k blank ts ≡ read s → (ls : List Line) × (map tokens_of ts ≡ map spell_line ls) × SoFar top ls s
lines_trees top k ts s e =
    by_lines top (SoFar top) (λ ls s t l r spelt f. read_more top ls s l r f) ts k blank s [] (record { kept = kept_blank top; made = refl }) e

pub text_trees : (t : List ℕ) (s : Draft) → outcome_of t ≡ read s → (ls : List Line) × Spells t ls × SoFar (top_in t) ls s
text_trees t s e =
    let r = text_read t s e in
    let n : top_in t ≡ top_of r.version = ap (λ (w : Value). top_of (version_in w)) r.first in
    rw n (lines_trees (top_of r.version) 2 (behind_first (lines_of t)) s r.lines)

pub demand3 : (t : List ℕ) (s : Draft) → outcome_of t ≡ read s → (ls : List Line) × Spells t ls × (s.names ≡ declared_in ls) × Faithful (top_in t) ls s.names (problem_in s)
demand3 t s e =
    let r = text_trees t s e in
    let l = text_read t s e in
    let d = (room_read (top_of l.version) (top_near l.version) 2 _ s l.lines).distinct in (
      r.0,
      r.1,
      ap (λ (u : Draft). u.names) r.2.made ∙ names_declared (top_in t) blank r.0,
      faithful (top_in t) r.0 s r.2.kept d,
    )

pub values : (t : List ℕ) (s : Draft) → outcome_of t ≡ read s → (p : Point) → Inside (length s.declared) p (range_list s.declared) → (p' : Point) × Alike (length s.declared) p' p × Inside (quantities_in s) p' (problem_in s).ranges × AllOf (Holds p') (problem_in s).primitives
values t s e p h = let r = text_trees t s e in kept_values (top_in t) r.0 s r.2.kept p h
