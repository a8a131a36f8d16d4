-- Each line without a fault leaves room: at most 128 quantities, ends within plus or minus M, names that differ, small lists that name what there is, and helpers that are defined.
use mathlib.Core.Path.{◌≡◌, refl, sym, subst}
use mathlib.Core.Bool.{Bool, true, false, cond, ◌||◌, true≢false}
use mathlib.Core.List.{List, [], ◌∷◌}
use Prim.Native.Nat.{ℕ, ◌<◌, ◌≤◌}
use native.Mathlib.Omega.{arith}
use lib.Dec.{eqb}
use lib.ListN.{length, length-append}
use lib.IntN.{ℤ, pos}
use lib.Signed.{lt_z, ◌≤ℤ◌}
use Rattle.whole.specs.Lists.{AllOf}
use Rattle.whole.specs.Numbers.{M, minus_m, Near}
use Rattle.whole.specs.Ranges.{range}
use Rattle.whole.specs.declared.Range.{Range}
use Rattle.whole.proofs.Kit.{ints}
use Rattle.problem.specs.Grounds.{beyond}
use Rattle.sheet.specs.Tokens.{tokens_of}
use Rattle.sheet.specs.Grammar.{Line, ranged, default, must, when, spell_line}
use Rattle.meaning.specs.Plain.{is_in, asks_of}
use Rattle.meaning.specs.Translation.{nothing, gaps, rule_of}
use Rattle.meaning.specs.Lists.{literals_in}
use Rattle.meaning.specs.Draft.{Draft, blank, quantities_in, declare, rule, after}
use Rattle.meaning.specs.Grounds.{top_of, any_beyond, read, read_lines}
use Rattle.meaning.proofs.Tests.{either_off}
use Rattle.meaning.proofs.Elements.{all_join, all_map}
use Rattle.meaning.proofs.NamePlaces.{Distinct, distinct_none, distinct_more}
use Rattle.meaning.proofs.FlatLists.{literals_in_append}
use Rattle.meaning.proofs.TreeValues.{Named}
use Rattle.meaning.proofs.LineCarries.{line_named}
use Rattle.meaning.proofs.Faultless.{Faultless}
use Rattle.meaning.proofs.LineInduction.{by_lines}
use Rattle.meaning.proofs.RangeLimits.{range_near}
use Rattle.meaning.proofs.DefinitionSteps.{rule_quantities, rule_ranges}
use Rattle.meaning.proofs.RuleSizes.{Small, small_none, small_rule, small_join}
use Rattle.meaning.proofs.NamedQuantities.{Known, known_more, Good, good_more, rule_known, rule_good}
use Rattle.meaning.proofs.HelpersDefined.{AllDefined, defined_join, rule_defined}

abbrev pub Ordered : Range → Type 0
Ordered r = r.low ≤ℤ r.high

abbrev pub NearEnds : Range → Type 0
NearEnds r = Near r.low × Near r.high

pub record Room (s : Draft) : Type 0 where
  pub many : length s.names ≡ length s.declared
  pub distinct : Distinct s.names
  pub few : quantities_in s ≤ 128
  pub ordered : AllOf Ordered s.declared
  pub near : AllOf NearEnds s.declared
  pub near_made : AllOf NearEnds s.made.ranges
  pub small : Small s.made
  pub known : AllOf (Known (quantities_in s)) s.made.primitives
  pub good : AllOf (Good (quantities_in s)) (literals_in s.made.clauses)
  -- no rule before the last range line, so each helper keeps its number
  pub fresh : s.ruled ≡ false → s.made ≡ nothing
  pub defined : AllDefined (length s.declared) s.made

not_beyond : (z : ℤ) → beyond z ≡ false → Near z
not_beyond z e = let h = either_off (lt_z z minus_m) (lt_z M z) e in record { low = omega (ints, h.0); high = omega (ints, h.1) }

near_all : (rs : List Range) → any_beyond rs ≡ false → AllOf NearEnds rs
unfolding any_beyond
near_all [] e = tt
near_all (r ∷ rs) e =
    let h = either_off (beyond r.low || beyond r.high) (any_beyond rs) e in
    let i = either_off (beyond r.low) (beyond r.high) h.0 in
    ((not_beyond r.low i.0, not_beyond r.high i.1), near_all rs h.1)

pub room_blank : Room blank
unfolding literals_in
room_blank =
    record {
      many = refl;
      distinct = distinct_none;
      few = omega arith;
      ordered = tt;
      near = tt;
      near_made = tt;
      small = small_none;
      known = tt;
      good = tt;
      fresh = λ e. refl;
      defined = tt;
    }

module _ (s : Draft) (h : Room s) where
  room_declare : (n : ℕ) (r : Range) → s.ruled ≡ false → is_in s.names n ≡ false → Ordered r → NearEnds r → quantities_in (declare s n r) ≤ 128 → Room (declare s n r)
  room_declare n r free new o e few =
      let l = length-append s.declared (r ∷ []) in
      let m : quantities_in s ≤ quantities_in (declare s n r) = omega (arith, l) in
      record {
        many = omega (arith, h.many, l, length-append s.names (n ∷ []));
        distinct = distinct_more s.names n new h.distinct;
        few = few;
        ordered = all_join Ordered s.declared (r ∷ []) h.ordered (o, tt);
        near = all_join NearEnds s.declared (r ∷ []) h.near (e, tt);
        near_made = h.near_made;
        small = h.small;
        known = all_map (Known (quantities_in s)) (Known (quantities_in (declare s n r))) s.made.primitives (known_more (quantities_in s) (quantities_in (declare s n r)) m) h.known;
        good = all_map (Good (quantities_in s)) (Good (quantities_in (declare s n r))) (literals_in s.made.clauses) (good_more (quantities_in s) (quantities_in (declare s n r)) m) h.good;
        fresh = h.fresh;
        defined = subst (AllDefined (length (declare s n r).declared)) (sym (h.fresh free)) tt;
      }

  room_rule : (l : Line) → Named (length s.names) (asks_of s.names l) → 0 < length (asks_of s.names l) → any_beyond (gaps s.declared (quantities_in s) (asks_of s.names l)).ranges ≡ false → quantities_in (rule s l) ≤ 128 → Room (rule s l)
  room_rule l named some near few =
      let d = s.declared in
      let k = quantities_in s in
      let asked = asks_of s.names l in
      let piece = rule_of d k asked in
      let m = quantities_in (rule s l) in
      let e = rule_quantities s l in
      let u : Named (length d) asked = subst (λ (n : ℕ). Named n asked) h.many named in
      record {
        many = h.many;
        distinct = h.distinct;
        few = few;
        ordered = h.ordered;
        near = h.near;
        near_made = all_join NearEnds s.made.ranges piece.ranges h.near_made (rw (rule_ranges d k asked) (near_all (gaps d k asked).ranges near));
        small = small_join s.made piece h.small (small_rule d k asked some);
        known = all_join (Known m) s.made.primitives piece.primitives
            (all_map (Known k) (Known m) s.made.primitives (known_more k m (omega arith)) h.known)
            (rule_known d (length d) m k asked (omega arith) (omega arith) u);
        good = rw (literals_in_append s.made.clauses piece.clauses)
            (all_join (Good m) (literals_in s.made.clauses) (literals_in piece.clauses)
            (all_map (Good k) (Good m) (literals_in s.made.clauses) (good_more k m (omega arith)) h.good)
            (rule_good d m k asked (omega arith)));
        fresh = λ e. absurd (true≢false e);
        defined = defined_join (length d) k s.made piece refl h.defined (rule_defined d (length d) k asked (omega arith) u);
      }

-- a line more
pub room_after : (top : ℕ) → top ≤ 1_000_000_000_000 → (s : Draft) (t : List ℕ) (l : Line) → Room s → tokens_of t ≡ spell_line l → Faultless top s l → Room (after top s l)
unfolding after asks_of
room_after top m s t (ranged n low high) h e f =
    let o = f.order in room_declare s h n (range low high) f.late f.names (omega ints) (range_near t n low high e) f.few
room_after top m s t (default n) h e f =
    room_declare s h n (range (pos 0) (pos top)) f.late f.names (omega ints) (record { low = omega ints; high = omega ints }, record { low = omega ints; high = omega ints }) f.few
room_after top m s t (must d ds) h e f = room_rule s h (must d ds) (line_named s (must d ds) f.names) (omega arith) f.near f.few
room_after top m s t (when c cs d ds) h e f = room_rule s h (when c cs d ds) (line_named s (when c cs d ds) f.names) (omega arith) f.near f.few

-- the top of the default range, whatever the version
pub top_near : (v : ℕ) → top_of v ≤ 1_000_000_000_000
top_near v = by (eqb v 1)
  where
    by : (b : Bool) → cond b 1_000_000 200_000 ≤ 1_000_000_000_000
    by true = omega arith
    by false = omega arith

pub room_read : (top : ℕ) → top ≤ 1_000_000_000_000 → (k : ℕ) (ts : List (List ℕ)) (s : Draft) → read_lines top k blank ts ≡ read s → Room s
room_read top m k ts s e = (by_lines top (λ ls s. Room s) (λ ls s t l h spelt f. room_after top m s t l h spelt f) ts k blank s [] room_blank e).2
