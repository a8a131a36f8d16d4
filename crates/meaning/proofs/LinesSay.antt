-- What a sheet read so far says of its lines: a line more adds a declared range or a rule's piece, so each part is carried one line on.
use mathlib.Core.Path.{◌≡◌, refl, sym, ap, ap₂, subst, ◌∙◌}
use mathlib.Core.Bool.{false, true≢false}
use mathlib.Core.Logic.{◌↔◌}
use mathlib.Core.List.{List, [], ◌∷◌, ◌++◌}
use Prim.Native.Nat.{ℕ, ◌+◌, ◌≤◌}
use native.Mathlib.Omega.{arith}
use native.Mathlib.Nat.{zero-add}
use lib.ListN.{length, length-append, get_or-append}
use lib.Seq.{get_or-append_seam}
use lib.IntN.{ℤ}
use Rattle.whole.specs.Lists.{AllOf, OneOf}
use Rattle.whole.specs.Ranges.{Point, In}
use Rattle.whole.specs.declared.Range.{Range}
use Rattle.problem.specs.Problem.{Holds}
use Rattle.problem.specs.Order.{Alike}
use Rattle.sheet.specs.Grammar.{Line}
use Rattle.sheet.specs.Meaning.{Assignment, ObeysLine, Obeys}
use Rattle.meaning.specs.Plain.{asks_of}
use Rattle.meaning.specs.Translation.{Piece, nothing, equalities, rule_of}
use Rattle.meaning.specs.Draft.{Draft, blank, quantities_in, declare, rule}
use Rattle.meaning.specs.Demand3.{Extends}
use Rattle.meaning.proofs.Elements.{all_join, all_left, all_right, each_join, each_left, each_right}
use Rattle.meaning.proofs.NamePlaces.{placed}
use Rattle.meaning.proofs.PlainValues.{Agrees}
use Rattle.meaning.proofs.Pieces.{Within, Shows, SatisfiesFrom, join, fore, aft, shows_left, shows_right, shows_join}
use Rattle.meaning.proofs.TreeValues.{gap_values, gap_values_length, Named}
use Rattle.meaning.proofs.RuleClauses.{Answers}
use Rattle.meaning.proofs.Rules.{rule_size, rule_helped, rule_there, rule_back}
use Rattle.meaning.proofs.Extension.{gap_values_same}

pub record Kept (top : ℕ) (ls : List Line) (s : Draft) : Type 0 where
  -- as many names as declared ranges, and no rule before the last range line
  pub many : length s.names ≡ length s.declared
  pub fresh : s.ruled ≡ false → s.made ≡ nothing
  -- the values of the helpers, in their order: the declared quantities decide them
  pub helped : Point → List ℤ
  pub long : (p : Point) → length (helped p) ≡ length s.made.ranges
  pub same : (p p' : Point) → Alike (length s.declared) p p' → helped p ≡ helped p'
  -- an assignment that obeys is in every range, and with its helpers' values it satisfies what the rules have made
  pub there : (v : Assignment) (p : Point) → Extends s.names v p → Obeys top v ls → Shows p (length s.declared) (helped p) → Within p 0 s.declared × SatisfiesFrom (length s.declared) p s.made
  -- no other values do, and what satisfies comes from an assignment that obeys
  pub shown : (p : Point) → SatisfiesFrom (length s.declared) p s.made → Shows p (length s.declared) (helped p)
  pub back : (v : Assignment) (p : Point) → Extends s.names v p → Within p 0 s.declared → SatisfiesFrom (length s.declared) p s.made → Obeys top v ls
  -- in the declared ranges, obeying or not, the helpers' values are in their ranges and all equations hold
  pub values : (p : Point) → Within p 0 s.declared → Shows p (length s.declared) (helped p) → Within p (length s.declared) s.made.ranges × AllOf (Holds p) s.made.primitives

pub extends_agrees : (s : Draft) (v : Assignment) (p : Point) → Extends s.names v p → Agrees s.names v p
extends_agrees s v p x = record { gives = λ n h. let e = placed s.names n h in x _ e.0 ∙ ap v e.1 }

none_yet : (k : ℕ) (p : Point) → SatisfiesFrom k p nothing
none_yet k p = record { ranges = tt; primitives = tt; clauses = tt }

pub kept_blank : (top : ℕ) → Kept top [] blank
kept_blank top =
    record {
      many = refl;
      fresh = λ e. refl;
      helped = λ p. [];
      long = λ p. refl;
      same = λ p p' a. refl;
      there = λ v p x o h. (tt, none_yet 0 p);
      shown = λ p h. tt;
      back = λ v p x w h. tt;
      values = λ p w h. (tt, tt);
    }

-- ---- a range line
module _ (s : Draft) (n : ℕ) (r : Range) (v : Assignment) (p : Point) (x : Extends (declare s n r).names v p) where
  extends_before : Extends s.names v p
  extends_before q l = x q (omega (arith, length-append s.names (n ∷ []))) ∙ ap v (get_or-append s.names (n ∷ []) 0 q l)

  extends_last : p (length s.names) ≡ v n
  extends_last = x (length s.names) (omega (arith, length-append s.names (n ∷ []))) ∙ ap v (get_or-append_seam s.names n [] 0)

module _ (top : ℕ) (ls : List Line) (s : Draft) (k : Kept top ls s) (free : s.ruled ≡ false) where
  satisfied : (m : ℕ) (p : Point) → SatisfiesFrom m p s.made
  satisfied m p = subst (SatisfiesFrom m p) (sym (k.fresh free)) (none_yet m p)

  none_helped : (p : Point) → k.helped p ≡ []
  none_helped p = go (k.helped p) (k.long p ∙ ap (λ (b : Piece). length b.ranges) (k.fresh free))
    where
      go : (zs : List ℤ) → length zs ≡ 0 → zs ≡ []
      go [] e = refl
      go (z ∷ zs) e = absurd (omega arith)

  nothing_shown : (m : ℕ) (p : Point) → Shows p m (k.helped p)
  nothing_shown m p = subst (Shows p m) (sym (none_helped p)) tt

  module _ (n : ℕ) (r : Range) (l : Line) (says : (v : Assignment) → ObeysLine top v l ↔ In r (v n)) where
    new_value : (v : Assignment) (p : Point) → Extends (declare s n r).names v p → p (length s.declared) ≡ v n
    new_value v p x = ap p (sym k.many) ∙ extends_last s n r v p x

    pub kept_declare : Kept top (ls ++ (l ∷ [])) (declare s n r)
    kept_declare =
        record {
          many = omega (arith, k.many, length-append s.names (n ∷ []), length-append s.declared (r ∷ []));
          fresh = k.fresh;
          helped = k.helped;
          long = k.long;
          same = λ p p' a. none_helped p ∙ sym (none_helped p');
          there = λ v p x o h.
              let t = k.there v p (extends_before s n r v p x) (all_left (ObeysLine top v) ls (l ∷ []) o) (nothing_shown _ p) in
              let i : In r (p (length s.declared)) = rw (new_value v p x) ((says v).0 (all_right (ObeysLine top v) ls (l ∷ []) o).0) in
              (each_join (λ q r. In r (p q)) s.declared (r ∷ []) 0 (length s.declared) (zero-add _) t.0 (i, tt), satisfied _ p);
          shown = λ p h. nothing_shown _ p;
          back = λ v p x w h.
              let i : In r (p (length s.declared)) = (each_right (λ q r. In r (p q)) s.declared (r ∷ []) 0 (length s.declared) (zero-add _) w).0 in
              let b = k.back v p (extends_before s n r v p x) (each_left (λ q r. In r (p q)) s.declared (r ∷ []) 0 w) (satisfied _ p) in
              all_join (ObeysLine top v) ls (l ∷ []) b ((says v).1 (rw (new_value v p x) at i), tt);
          values = λ p w h. ((satisfied (length (s.declared ++ (r ∷ []))) p).ranges, (satisfied 0 p).primitives);
        }

-- ---- a rule
module _ (top : ℕ) (ls : List Line) (s : Draft) (k : Kept top ls s) (l : Line) (named : Named (length s.names) (asks_of s.names l)) where
  known : Named (length s.declared) (asks_of s.names l)
  known = subst (λ (n : ℕ). Named n (asks_of s.names l)) k.many named

  -- where the helpers so far end
  so_far : (p : Point) → length s.declared + length (k.helped p) ≡ quantities_in s
  so_far p = omega (arith, k.long p)

  before : (p : Point) → Shows p (length s.declared) (k.helped p ++ gap_values p (asks_of s.names l)) → Shows p (length s.declared) (k.helped p)
  before p h = shows_left p (length s.declared) (k.helped p) (gap_values p (asks_of s.names l)) h

  behind : (p : Point) → Shows p (length s.declared) (k.helped p ++ gap_values p (asks_of s.names l)) → Shows p (quantities_in s) (gap_values p (asks_of s.names l))
  behind p h = shows_right p (length s.declared) (k.helped p) (gap_values p (asks_of s.names l)) (quantities_in s) (so_far p) h

  module _ (single : equalities (asks_of s.names l) ≤ 1) (says : (v : Assignment) (p : Point) → Agrees s.names v p → ObeysLine top v l ↔ OneOf (Answers p) (asks_of s.names l)) where
    pub kept_rule : Kept top (ls ++ (l ∷ [])) (rule s l)
    kept_rule =
        let d = s.declared in
        let n = length d in
        let asked = asks_of s.names l in
        record {
          many = k.many;
          fresh = λ e. absurd (true≢false e);
          helped = λ p. k.helped p ++ gap_values p asked;
          long = λ p. rule_length p;
          same = λ p p' a. ap₂ ◌++◌ (k.same p p' a) (gap_values_same n p p' a asked known);
          there = λ v p x o h.
              let t = k.there v p x (all_left (ObeysLine top v) ls (l ∷ []) o) (before p h) in
              let m = (says v p (extends_agrees s v p x)).0 (all_right (ObeysLine top v) ls (l ∷ []) o).0 in
              (t.0, join p n (quantities_in s) s.made (rule_of d (quantities_in s) asked) refl t.1 (rule_there d p t.0 (quantities_in s) asked known (behind p h) m));
          shown = λ p h.
              shows_join p n (k.helped p) (gap_values p asked) (quantities_in s) (so_far p) (k.shown p (fore p n s.made (rule_of d (quantities_in s) asked) h))
              (rule_back d p (quantities_in s) asked single (aft p n (quantities_in s) s.made (rule_of d (quantities_in s) asked) refl h)).0;
          back = λ v p x w h.
              let b = k.back v p x w (fore p n s.made (rule_of d (quantities_in s) asked) h) in
              let c = (rule_back d p (quantities_in s) asked single (aft p n (quantities_in s) s.made (rule_of d (quantities_in s) asked) refl h)).1 in
              all_join (ObeysLine top v) ls (l ∷ []) b ((says v p (extends_agrees s v p x)).1 c, tt);
          values = λ p w h.
              let b = k.values p w (before p h) in
              let g = rule_helped d p w (quantities_in s) asked known (behind p h) in (
                each_join (λ q r. In r (p q)) s.made.ranges (rule_of d (quantities_in s) asked).ranges n (quantities_in s) refl b.0 g.0,
                all_join (Holds p) s.made.primitives (rule_of d (quantities_in s) asked).primitives b.1 g.1,
              );
        }
      where
        rule_length : (p : Point) → length (k.helped p ++ gap_values p (asks_of s.names l)) ≡ length (s.made.ranges ++ (rule_of s.declared (quantities_in s) (asks_of s.names l)).ranges)
        rule_length p =
            omega (
              arith,
              k.long p,
              length-append (k.helped p) (gap_values p (asks_of s.names l)),
              length-append s.made.ranges (rule_of s.declared (quantities_in s) (asks_of s.names l)).ranges,
              gap_values_length p (asks_of s.names l),
              rule_size s.declared (quantities_in s) (asks_of s.names l),
            )
