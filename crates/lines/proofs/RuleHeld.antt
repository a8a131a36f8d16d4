-- The line's judge: a rule's fault is told by the flags and counts of its listing; and where there is none, the listing and its literals put behind those before make the lists hold the sheet with the rule.
use mathlib.Core.Path.{◌≡◌, refl, sym, ap, ◌∙◌}
use mathlib.Core.Bool.{Bool, true, false, cond}
use mathlib.Core.List.{List, [], ◌∷◌, ◌++◌, append-nil}
use mathlib.Core.Option.{Option, none, some}
use Prim.Native.Nat.{ℕ, zero, suc, ◌+◌, ◌*◌, ◌≤◌}
use native.Mathlib.Omega.{arith}
use lib.Dec.{eqb, ltb}
use lib.IntN.{ℤ, pos}
use lib.ListN.{length, take, length-append}
use borrow.Author.Tests.{eqb-true, eqb-false}
use Rattle.problem.specs.declared.Literal.{Literal}
use Rattle.sheet.specs.Grammar.{Line, ranged, default, must, when}
use Rattle.meaning.specs.Translation.{equalities, one_or_two}
use Rattle.meaning.specs.Lists.{length_list, literals_in, literal_list}
use Rattle.meaning.specs.Draft.{Draft, quantities_in, rule, after}
use Rattle.meaning.specs.Grounds.{bad_names, any_beyond, tree_fault}
use Rattle.lines.specs.inner.Emission.{Listing}
use Rattle.lines.specs.inner.Stored.{Stored}
use Rattle.meaning.specs.declared.Refusal.{Refusal}
use Rattle.meaning.specs.declared.Refusal.TheVariants as refusal
use Rattle.lines.specs.declared.parts.Progress.{Progress}
use Rattle.meaning.proofs.FlatLists.{lengths_append, literals_append, literals_in_append}
use Rattle.lines.proofs.Flags.{IsRule}
use Rattle.lines.proofs.RuleDraft.{asked, added, first_of, second_of, rule_clauses}
use Rattle.lines.proofs.RuleListed.{Added, Listed}

-- ---- the fault of a rule
-- 25, 27, 28 and 29, in that order
abbrev faults : Bool → Bool → Bool → Bool → Option Refusal
faults names equals wide many =
    cond names (some refusal.Names)
    (cond equals (some refusal.Equalities)
    (cond wide (some refusal.Beyond)
    (cond many (some refusal.Many) none)))

abbrev pub fault_of : Listing → Option Refusal
fault_of b = faults b.making.unknown (ltb 1 b.equals) b.making.wide (ltb 128 b.making.used)

faults_alike : (n e w v m : Bool) → (n ≡ false → v ≡ w) → faults n e w m ≡ faults n e v m
faults_alike true e w v m f = refl
faults_alike false e w v m f = rw (f refl)

rule_fault : (top : ℕ) (s : Draft) (x : Line) → IsRule x → tree_fault top s x ≡ faults (bad_names s x) (ltb 1 (equalities (asked s x))) (any_beyond (added s x).ranges) (ltb 128 (quantities_in (after top s x)))
unfolding tree_fault
rule_fault top s (ranged n low high) r = absurd r
rule_fault top s (default n) r = absurd r
rule_fault top s (must d ds) r = refl
rule_fault top s (when c cs d ds) r = refl

pub fault_is : {s : Draft} {x : Line} {g : Progress} {a b : Listing} → Listed s x g a b → IsRule x → (top : ℕ) → tree_fault top s x ≡ fault_of b
fault_is {s} {x} {g} {a} {b} h r top =
    rule_fault top s x r
    ∙ faults_alike (bad_names s x) (ltb 1 (equalities (asked s x))) (any_beyond (added s x).ranges) b.making.wide (ltb 128 (quantities_in (after top s x))) h.wide
    ∙ sym (rw (h.unknown, h.demands.two, h.many top))

-- where no flag is raised and the quantities have room, the fronts are the sheet's with the rule
pub accepted : {s : Draft} {x : Line} {g : Progress} {a b : Listing} → Listed s x g a b → b.making.unknown ≡ false → b.making.wide ≡ false → b.making.used ≤ 128 → Added s x g b
accepted h u w k = let e = sym h.unknown ∙ u in h.fronts e (sym (h.wide e) ∙ w) k

-- ---- the sheet with the rule
-- the counts with a rule more, which makes n clauses
pub record Advanced (g : Progress) (b : Listing) (n : ℕ) (g' : Progress) : Type 0 where
  pub declared : g'.declared ≡ g.declared
  pub quantities : g'.quantities ≡ b.making.used
  pub primitives : g'.primitives ≡ b.making.count
  pub clauses : g'.clauses ≡ g.clauses + n
  pub literals : g'.literals ≡ g.literals + n * b.count
  pub ruled : g'.ruled ≡ true

module _ {s : Draft} {g g' : Progress} {rs ps ns ls : List ℤ} {keys : List ℕ} {x : Line} {b : Listing} (stored : Stored s g rs ps ns ls keys) (done : Added s x g b) (ns' ls' : List ℤ) where
  stored_with : (cs : List (List Literal)) → (rule s x).made.clauses ≡ s.made.clauses ++ cs → Advanced g b (length cs) g' → length (literals_in cs) ≡ length cs * b.count → take g'.clauses ns' ≡ take g.clauses ns ++ length_list cs → take (3 * g'.literals) ls' ≡ take (3 * g.literals) ls ++ literal_list (literals_in cs) → Stored (rule s x) g' b.ranges b.primitives ns' ls' keys
  stored_with cs e a l n m =
      let p = ap literals_in e ∙ literals_in_append s.made.clauses cs in
      let q = length-append (literals_in s.made.clauses) (literals_in cs) in
      record {
        declared = a.declared ∙ stored.declared;
        alike = stored.alike;
        quantities = a.quantities ∙ done.quantities;
        primitives = a.primitives ∙ done.count;
        clauses = omega (arith, a.clauses, stored.clauses, ap length e, length-append s.made.clauses cs);
        literals = omega (arith, a.literals, stored.literals, ap length p);
        ruled = a.ruled;
        range_front = rw a.quantities done.ranges;
        primitive_front = rw a.primitives done.primitives;
        length_front = n ∙ ap (λ (z : List ℤ). z ++ length_list cs) stored.length_front ∙ sym (ap length_list e ∙ lengths_append s.made.clauses cs);
        literal_front = m ∙ ap (λ (z : List ℤ). z ++ literal_list (literals_in cs)) stored.literal_front ∙ sym (ap literal_list p ∙ literals_append (literals_in s.made.clauses) (literals_in cs));
        key_front = rw a.declared stored.key_front;
        few = omega (arith, a.quantities, done.few);
      }

-- the clauses of a rule without an equality demand, and with one
one_clause : (n : ℕ) (a b : List Literal) → n ≡ 0 → one_or_two n a b ≡ a ∷ []
unfolding one_or_two
one_clause zero a b e = refl
one_clause (suc n) a b e = absurd (omega arith)

two_clauses : (n : ℕ) (a b : List Literal) → (n ≡ 0 → ⊥) → one_or_two n a b ≡ a ∷ (b ∷ [])
unfolding one_or_two
two_clauses zero a b f = absurd (f refl)
two_clauses (suc n) a b f = refl

module _ {s : Draft} {g g' : Progress} {rs ps ns ls : List ℤ} {keys : List ℕ} {x : Line} {b : Listing} (stored : Stored s g rs ps ns ls keys) (done : Added s x g b) (ns' ls' : List ℤ) where
  -- no equality demand: one clause, the first literals
  pub stored_one : eqb b.equals 0 ≡ true → Advanced g b 1 g' → take g'.clauses ns' ≡ take g.clauses ns ++ (pos b.count ∷ []) → take (3 * g'.literals) ls' ≡ take (3 * g.literals) ls ++ take (3 * b.count) b.firsts → Stored (rule s x) g' b.ranges b.primitives ns' ls' keys
  unfolding length_list literals_in
  stored_one e h n m =
      let f = first_of s x in
      let i = eqb-true (equalities (asked s x)) 0 (sym done.demands.none ∙ e) in
      let l : f ++ [] ≡ f = append-nil f in
      stored_with stored done ns' ls' (f ∷ []) (rule_clauses s x ∙ ap (λ (c : List (List Literal)). s.made.clauses ++ c) (one_clause (equalities (asked s x)) f (second_of s x) i))
      h (rw l (omega (arith, done.literals))) (rw (← done.literals) n) (rw (l, ← done.firsts) m)

  -- an equality demand: two clauses, the first literals and the second
  pub stored_two : eqb b.equals 0 ≡ false → Advanced g b 2 g' → take g'.clauses ns' ≡ take g.clauses ns ++ (pos b.count ∷ (pos b.count ∷ [])) → take (3 * g'.literals) ls' ≡ take (3 * g.literals) ls ++ (take (3 * b.count) b.firsts ++ take (3 * b.count) b.seconds) → Stored (rule s x) g' b.ranges b.primitives ns' ls' keys
  unfolding length_list literals_in
  stored_two e h n m =
      let f = first_of s x in
      let o = second_of s x in
      let i = eqb-false (equalities (asked s x)) 0 (sym done.demands.none ∙ e) in
      let l : o ++ [] ≡ o = append-nil o in
      stored_with stored done ns' ls' (f ∷ (o ∷ [])) (rule_clauses s x ∙ ap (λ (c : List (List Literal)). s.made.clauses ++ c) (two_clauses (equalities (asked s x)) f o i))
      h (rw l (omega (arith, length-append f o, done.literals, done.alike))) (rw (← done.literals, ← done.alike) n)
      (rw (l, literals_append f o, ← done.firsts, ← done.seconds) m)
