-- A rule that was listed: the flags and counts tell grounds 25, 27, 28 and 29, and where none is met, the lists' fronts are the sheet's with the rule.
-- The start holds the sheet so far, and the laws of the comparisons say the rest.
use mathlib.Core.Path.{◌≡◌, refl, sym, ap, subst, ◌∙◌}
use mathlib.Core.Bool.{Bool, true, false}
use mathlib.Core.List.{List, [], ◌++◌, append_assoc}
use Prim.Native.Nat.{ℕ, ◌+◌, ◌*◌, ◌≤◌, min}
use native.Mathlib.Omega.{arith}
use lib.Dec.{ltb}
use lib.IntN.{ℤ}
use lib.ListN.{length, take}
use lib.Seq.{take-take, take_at}
use borrow.Author.Tests.{ltb-true, ltb-false, lt-ltb, le-ltb}
use Rattle.whole.specs.declared.Range.{Range}
use Rattle.sheet.specs.Grammar.{Line}
use Rattle.meaning.specs.Translation.{first, equalities}
use Rattle.meaning.specs.Lists.{range_list, primitive_list, literal_list}
use Rattle.meaning.specs.Draft.{Draft, quantities_in, rule, after}
use Rattle.meaning.specs.Grounds.{bad_names, any_beyond}
use Rattle.lines.specs.inner.Emission.{Listing, list_all}
use Rattle.lines.specs.inner.Stored.{Stored}
use Rattle.lines.specs.declared.parts.Progress.{Progress}
use Rattle.meaning.proofs.FlatLists.{ranges_append, ranges_length}
use Rattle.lines.proofs.Flags.{IsRule, SameEqualities, strange_all, strange_is, unknown_is, equals_is}
use Rattle.meaning.proofs.Definitions.{sizes}
use Rattle.meaning.proofs.TreeSizes.{clause_few}
use Rattle.lines.proofs.ExactPiece.{Ready}
use Rattle.lines.proofs.RuleWrites.{Long, Noted, used_all, long_all, wide_all, noted_all}
use Rattle.lines.proofs.RuleDraft.{Proper, asked, added, first_of, second_of, rule_ranges, rule_primitives, rule_quantities, after_rule, some_size}

-- before the first comparison: the sheet so far, no literal, no flag
abbrev pub start_of : Progress → List ℤ → List ℤ → List ℤ → List ℤ → Listing
start_of g rs ps fs ss =
    record {
      ranges = rs;
      primitives = ps;
      firsts = fs;
      seconds = ss;
      making = record { used = g.quantities; count = g.primitives; unknown = false; wide = false };
      count = 0;
      equals = 0;
    }

-- a rule listed behind that
abbrev pub listed_of : Draft → Line → Progress → List ℤ → List ℤ → List ℤ → List ℤ → Listing
listed_of s x g rs ps fs ss = list_all (length s.names) (asked s x) (start_of g rs ps fs ss)

-- where no ground is met: the fronts are the sheet's with the rule, the literals those of its clauses, and all have room
pub record Added (s : Draft) (x : Line) (g : Progress) (b : Listing) : Type 0 where
  pub demands : SameEqualities b.equals (equalities (asked s x))
  pub quantities : b.making.used ≡ quantities_in (rule s x)
  pub few : b.making.used ≤ 128
  pub count : b.making.count ≡ length (rule s x).made.primitives
  pub ranges : take (2 * b.making.used) b.ranges ≡ range_list (s.declared ++ (rule s x).made.ranges)
  pub primitives : take (4 * b.making.count) b.primitives ≡ primitive_list (rule s x).made.primitives
  pub literals : b.count ≡ length (first_of s x)
  pub alike : b.count ≡ length (second_of s x)
  pub firsts : take (3 * b.count) b.firsts ≡ literal_list (first_of s x)
  pub seconds : take (3 * b.count) b.seconds ≡ literal_list (second_of s x)
  pub literals_few : b.count ≤ 256
  pub clauses_room : g.clauses + 2 ≤ 256
  pub literals_room : g.literals + 2 * b.count ≤ 512

-- what a listed rule tells
pub record Listed (s : Draft) (x : Line) (g : Progress) (a b : Listing) : Type 0 where
  pub unknown : b.making.unknown ≡ bad_names s x
  pub demands : SameEqualities b.equals (equalities (asked s x))
  pub wide : bad_names s x ≡ false → b.making.wide ≡ any_beyond (added s x).ranges
  pub used : b.making.used ≡ min 10_000 (quantities_in s + sizes (asked s x))
  pub many : (top : ℕ) → ltb 128 b.making.used ≡ ltb 128 (quantities_in (after top s x))
  pub long : Long a b
  pub fronts : bad_names s x ≡ false → any_beyond (added s x).ranges ≡ false → b.making.used ≤ 128 → Added s x g b

-- ---- the start holds the sheet so far
declared_front : (l : List ℤ) (k : ℕ) (ds ws : List Range) → length ds ≤ k → take (2 * k) l ≡ range_list (ds ++ ws) → take (2 * length ds) l ≡ range_list ds
declared_front l k ds ws h e =
    sym (take-take (2 * length ds) (2 * k) l (omega arith))
    ∙ ap (take (2 * length ds)) (e ∙ ranges_append ds ws)
    ∙ take_at (range_list ds) (range_list ws) (2 * length ds) (ranges_length ds)

module _ {s : Draft} {g : Progress} {rs ps ns ls : List ℤ} {keys : List ℕ} (stored : Stored s g rs ps ns ls keys) (fs ss : List ℤ) (long : length rs ≡ 256) (longer : length ps ≡ 1024) where
  start_ready : Ready s.declared (s.declared ++ s.made.ranges) s.made.primitives (quantities_in s) rs ps (start_of g rs ps fs ss).making
  start_ready =
      let f = rw stored.quantities at stored.range_front in
      record {
        used = stored.quantities;
        count = stored.primitives;
        wide = refl;
        ranges_long = long;
        primitives_long = longer;
        first = omega arith;
        declared = declared_front rs (quantities_in s) s.declared s.made.ranges (omega arith) f;
        ranges = f;
        primitives = rw stored.primitives at stored.primitive_front;
      }

  start_noted : Noted s.declared (s.declared ++ s.made.ranges) s.made.primitives (quantities_in s) [] [] (start_of g rs ps fs ss)
  unfolding literal_list
  start_noted = record { ready = start_ready; count = refl; alike = refl; firsts = refl; seconds = refl }

-- ---- a rule listed
module _ {s : Draft} {g : Progress} {rs ps ns ls : List ℤ} {keys : List ℕ} (stored : Stored s g rs ps ns ls keys) (proper : Proper s) (x : Line) (fs ss : List ℤ) (long : length rs ≡ 256) (longer : length ps ≡ 1024) where
  wide_rule : strange_all (length s.names) (asked s x) ≡ false → (listed_of s x g rs ps fs ss).making.wide ≡ any_beyond (added s x).ranges
  wide_rule =
      let a = start_of g rs ps fs ss in
      let i = start_ready stored fs ss long longer in
      subst (λ (n : ℕ). strange_all n (asked s x) ≡ false → (list_all n (asked s x) a).making.wide ≡ any_beyond (added s x).ranges) stored.alike
      (λ e. wide_all s.declared proper.good (asked s x) (quantities_in s) a e i.declared (omega (arith, i.first, i.used)) refl)

  used_rule : (listed_of s x g rs ps fs ss).making.used ≡ min 10_000 (quantities_in s + sizes (asked s x))
  used_rule =
      let q = stored.quantities in
      let u = used_all (length s.names) (asked s x) (start_of g rs ps fs ss) (omega (arith, stored.few)) in
      omega arith

  noted_rule : strange_all (length s.names) (asked s x) ≡ false → any_beyond (added s x).ranges ≡ false → quantities_in s + sizes (asked s x) ≤ 128 → 768 ≤ length fs → 768 ≤ length ss → Noted s.declared (s.declared ++ s.made.ranges ++ (added s x).ranges) (s.made.primitives ++ (added s x).primitives) (quantities_in s + sizes (asked s x)) (first_of s x) (second_of s x) (listed_of s x g rs ps fs ss)
  noted_rule e far u i j =
      let a = start_of g rs ps fs ss in
      let c = clause_few first (quantities_in s) (asked s x) in
      subst (λ (n : ℕ). strange_all n (asked s x) ≡ false → Noted s.declared (s.declared ++ s.made.ranges ++ (added s x).ranges) (s.made.primitives ++ (added s x).primitives) (quantities_in s + sizes (asked s x)) (first_of s x) (second_of s x) (list_all n (asked s x) a)) stored.alike
      (λ f. noted_all s.declared proper.good (asked s x) (start_noted stored fs ss long longer) f far u (omega (arith, proper.primitives)) (omega arith) (omega arith) (omega arith))
      e

  added_rule : IsRule x → strange_all (length s.names) (asked s x) ≡ false → any_beyond (added s x).ranges ≡ false → (listed_of s x g rs ps fs ss).making.used ≤ 128 → 768 ≤ length fs → 768 ≤ length ss → Added s x g (listed_of s x g rs ps fs ss)
  added_rule r e far u i j =
      let h : quantities_in s + sizes (asked s x) ≤ 128 = omega (arith, used_rule) in
      let n = noted_rule e far h i j in
      let c = clause_few first (quantities_in s) (asked s x) in
      let l = ap length (rule_primitives s x) in
      record {
        demands = equals_is (length s.names) (asked s x) (start_of g rs ps fs ss) refl;
        quantities = n.ready.used ∙ sym (rule_quantities s x);
        few = u;
        count = n.ready.count ∙ sym l;
        ranges = rw n.ready.used (n.ready.ranges ∙ ap range_list (append_assoc s.declared s.made.ranges (added s x).ranges ∙ ap (λ (w : List Range). s.declared ++ w) (sym (rule_ranges s x))));
        primitives = rw n.ready.count (n.ready.primitives ∙ ap primitive_list (sym (rule_primitives s x)));
        literals = n.count;
        alike = n.count ∙ n.alike;
        firsts = rw n.count n.firsts;
        seconds = rw (n.count, n.alike) n.seconds;
        literals_few = omega (arith, n.count);
        clauses_room = omega (arith, proper.clauses, stored.clauses, some_size s x r);
        literals_room = omega (arith, proper.literals, stored.literals, n.count);
      }

limit : (n m : ℕ) → n ≡ min 10_000 m → ltb 128 n ≡ ltb 128 m
limit n m h = go (ltb 128 m) refl
  where
    go : (t : Bool) → ltb 128 m ≡ t → ltb 128 n ≡ t
    go true e = lt-ltb 128 n (omega (arith, ltb-true 128 m e))
    go false e = le-ltb 128 n (omega (arith, ltb-false 128 m e))

pub rule_listed : {s : Draft} {g : Progress} {rs ps ns ls : List ℤ} {keys : List ℕ} → Stored s g rs ps ns ls keys → Proper s → (x : Line) → IsRule x → (fs ss : List ℤ) → length rs ≡ 256 → length ps ≡ 1024 → 768 ≤ length fs → 768 ≤ length ss → Listed s x g (start_of g rs ps fs ss) (listed_of s x g rs ps fs ss)
rule_listed {s} {g} {rs} {ps} stored proper x r fs ss long longer i j =
    let a = start_of g rs ps fs ss in
    let u = used_rule stored proper x fs ss long longer in
    record {
      unknown = unknown_is s x a r refl;
      demands = equals_is (length s.names) (asked s x) a refl;
      wide = λ e. wide_rule stored proper x fs ss long longer (strange_is s x r ∙ e);
      used = u;
      many = λ top. rw (after_rule top s x r) (limit (listed_of s x g rs ps fs ss).making.used (quantities_in (rule s x)) (u ∙ ap (min 10_000) (sym (rule_quantities s x))));
      long = long_all (length s.names) (asked s x) a;
      fronts = λ e far k. added_rule stored proper x fs ss long longer r (strange_is s x r ∙ e) far k i j;
    }
