-- Whole rules: what is listed of the comparisons, first those behind `if` and then those behind `then`, is what the rule asks, if no token is left.
use mathlib.Core.Path.{◌≡◌, refl, sym, ◌∙◌, ap, subst}
use mathlib.Core.Bool.{Bool, true, false, cond}
use mathlib.Core.List.{List, [], ◌∷◌, ◌++◌, map}
use mathlib.Core.Option.{Option, none, some}
use Prim.Native.Nat.{ℕ, ◌+◌, ◌*◌, ◌≤◌}
use native.Mathlib.Omega.{arith}
use lib.Dec.{leb}
use lib.IntN.{ℤ}
use lib.ListN.{length}
use borrow.Author.Tests.{leb-true, leb-false}
use Rattle.std.specs.Prelude as code
use Rattle.std.specs.Prelude.{Some, None}
use Rattle.sheet.specs.Grammar.{Comparison, must, when}
use Rattle.sheet.specs.Reading.{rest_of, head_no, Read, whole, all_f, as_must, as_when, then_of}
use Rattle.sheet.specs.inner.Steps.{tokens_from}
use Rattle.sheet.specs.declared.Token.{Token}
use Rattle.sheet.proofs.Steps.{none_at, step_cons}
use Rattle.meaning.specs.Plain.{Asked, plain_c, denied, asks_of}
use Rattle.lines.specs.inner.Emission.{emitted, Listing, list_all, ruled_as, listed_from, Rules}
use Rattle.lines.specs.inner.Comparisons.{asked_by, asks_all, listing_of, Lists}
use Rattle.lines.specs.declared.parts.Tally.{Tally}
use Rattle.lines.proofs.ComparisonCode.{listed_to, shorter}
use Rattle.lines.proofs.ExpressionCode.{rest_in, made_in}

-- ---- what is asked
list_append : (d : ℕ) (xs ys : List Asked) (a : Listing) → list_all d (xs ++ ys) a ≡ list_all d ys (list_all d xs a)
unfolding list_all
list_append d [] ys a = refl
list_append d (x ∷ xs) ys a = list_append d xs ys _

denied_all : (ns : List ℕ) (cs : List Comparison) → map denied (map (plain_c ns) cs) ≡ map (asked_by 20 ns) cs
denied_all ns [] = refl
denied_all ns (c ∷ cs) = ap (λ (xs : List Asked). asked_by 20 ns c ∷ xs) (denied_all ns cs)

asks_must : (ns : List ℕ) (d : ℕ) (p : Comparison × List Comparison) (a : Listing) → list_all d (asks_of ns (must p.0 p.1)) a ≡ list_all d (asks_all 21 ns p) a
unfolding asks_of
asks_must ns d p a = refl

asks_when : (ns : List ℕ) (d : ℕ) (p q : Comparison × List Comparison) (a : Listing) → list_all d (asks_of ns (when p.0 p.1 q.0 q.1)) a ≡ list_all d (asks_all 21 ns q) (list_all d (asks_all 20 ns p) a)
unfolding asks_of
asks_when ns d p q a =
    ap (λ (xs : List Asked). list_all d (xs ++ map (plain_c ns) (q.0 ∷ q.1)) a) (denied_all ns (p.0 ∷ p.1))
    ∙ list_append d (map (asked_by 20 ns) (p.0 ∷ p.1)) (map (plain_c ns) (q.0 ∷ q.1)) a

-- ---- a reading with nothing behind it
-- what the code answers where a reading ends at place i with the counts t
abbrev ended_at : List ℕ → ℕ → Tally → code.Option Tally
ended_at l i t = cond (leb i (length l)) None (Some t)

-- the same as a listing
abbrev finished : {A : Type 0} → (A → Listing) → Option A → Option Listing
finished f none = none
finished f (some x) = some (f x)

module _ {A : Type 0} (f : A → Listing) (l : List ℕ) (rs ps fs ss : List ℤ) where
  ended_is : (i : ℕ) (t : Tally) (o : Read A) → ◌≡◌ {A = Option (Listing × List Token)} (some (listing_of t rs ps fs ss, tokens_from l i)) (emitted f o) → ruled_as (ended_at l i t) rs ps fs ss ≡ finished f (whole o)
  ended_is i t none e = let z : ◌≡◌ {A = ℕ} 0 1 = cc in absurd (omega arith)
  ended_is i t (some p) e = by (leb i (length l)) refl
    where
      left : tokens_from l i ≡ p.1
      left = ap (rest_in (tokens_from l i)) e

      made : listing_of t rs ps fs ss ≡ f p.0
      made = ap (made_in (listing_of t rs ps fs ss)) e

      by : (b : Bool) → leb i (length l) ≡ b → ruled_as (cond b None (Some t)) rs ps fs ss ≡ finished f (whole (some p))
      by true q = subst (λ (ts : List Token). none ≡ finished f (whole (some (p.0, ts)))) (sym (step_cons l i (leb-true i (length l) q)) ∙ left) refl
      by false q = subst (λ (ts : List Token). some (listing_of t rs ps fs ss) ≡ finished f (whole (some (p.0, ts)))) (sym (none_at l i (leb-false i (length l) q)) ∙ left) (ap some made)

-- ---- behind `must`
module _ (ns l : List ℕ) (at : ℕ) (a : Listing) (rs ps fs ss : List ℤ) where
  abbrev demands : Comparison × List Comparison → Listing
  demands p = list_all (length ns) (asks_all 21 ns p) a

  as_must_lem : (o : Option (Comparison × List Comparison)) → finished demands o ≡ listed_from ns a (as_must o)
  as_must_lem none = refl
  as_must_lem (some p) = ap some (sym (asks_must ns (length ns) p a))

  pub must_is : (i : ℕ) (t : Tally) (r : code.Option Tally) → Lists (λ k. all_f k 21) (asks_all 21 ns) (length ns) l at a (listed_to i t) rs ps fs ss → r ≡ ended_at l i t → Rules (λ k. as_must (whole (all_f k 21 (tokens_from l at)))) ns (length (tokens_from l at)) a r rs ps fs ss
  must_is i t r h e = record { agrees = λ k b. ap (λ (x : code.Option Tally). ruled_as x rs ps fs ss) e ∙ ended_is demands l rs ps fs ss i t (all_f k 21 (tokens_from l at)) (h.agrees k (omega arith)) ∙ as_must_lem (whole (all_f k 21 (tokens_from l at))) }

-- ---- behind `if`
module _ (ns l : List ℕ) (at : ℕ) (a : Listing) where
  abbrev conditions : Comparison × List Comparison → Listing
  conditions p = list_all (length ns) (asks_all 20 ns p) a

  abbrev Asks : code.Option Tally → List ℤ → List ℤ → List ℤ → List ℤ → Type 0
  Asks r rs ps fs ss = Rules (λ k. then_of k (all_f k 20 (tokens_from l at))) ns (length (tokens_from l at)) a r rs ps fs ss

  module _ (i : ℕ) (t : Tally) (rs ps fs ss : List ℤ) (h : Lists (λ k. all_f k 20) (asks_all 20 ns) (length ns) l at a (listed_to i t) rs ps fs ss) where
    -- what follows the conditions, whatever they are
    from_then : (k : ℕ) (o : Read (Comparison × List Comparison)) (x : Option Listing) → ◌≡◌ {A = Option (Listing × List Token)} (some (listing_of t rs ps fs ss, tokens_from l i)) (emitted conditions o) → ((p : Comparison × List Comparison) → conditions p ≡ listing_of t rs ps fs ss → x ≡ listed_from ns a (then_of k (some (p, tokens_from l i)))) → x ≡ listed_from ns a (then_of k o)
    from_then k none x e f = let z : ◌≡◌ {A = ℕ} 0 1 = cc in absurd (omega arith)
    from_then k (some p) x e f =
        let left : tokens_from l i ≡ p.1 = ap (rest_in (tokens_from l i)) e in
        let made : conditions p.0 ≡ listing_of t rs ps fs ss = sym (ap (made_in (listing_of t rs ps fs ss)) e) in
        subst (λ (ts : List Token). x ≡ listed_from ns a (then_of k (some (p.0, ts)))) left (f p.0 made)

    module _ (nx : ℕ) (d : head_no (tokens_from l i) ≡ 19) (q : tokens_from l nx ≡ rest_of (tokens_from l i)) where
      room : (k : ℕ) → 8 * length (tokens_from l at) + 8 ≤ k → 8 * length (tokens_from l nx) + 6 ≤ k
      room k b = let f = h.falls _ refl in let s = shorter (tokens_from l i) in let len = ap length q in omega arith

      as_when_lem : (p : Comparison × List Comparison) (o : Option (Comparison × List Comparison)) → conditions p ≡ listing_of t rs ps fs ss → finished (λ r. list_all (length ns) (asks_all 21 ns r) (listing_of t rs ps fs ss)) o ≡ listed_from ns a (as_when p o)
      as_when_lem p none z = refl
      as_when_lem p (some r) z = ap some (ap (list_all (length ns) (asks_all 21 ns r)) (sym z) ∙ sym (asks_when ns (length ns) p r a))

      pub if_is : (j : ℕ) (u : Tally) (r : code.Option Tally) (rs' ps' fs' ss' : List ℤ) → Lists (λ k. all_f k 21) (asks_all 21 ns) (length ns) l nx (listing_of t rs ps fs ss) (listed_to j u) rs' ps' fs' ss' → r ≡ ended_at l j u → Asks r rs' ps' fs' ss'
      if_is j u r rs' ps' fs' ss' g e = record {
        agrees = λ k b. from_then k (all_f k 20 (tokens_from l at)) (ruled_as r rs' ps' fs' ss') (h.agrees k (omega arith))
            (λ p z. rw d (ap (λ (x : code.Option Tally). ruled_as x rs' ps' fs' ss') e ∙ ended_is (λ c. list_all (length ns) (asks_all 21 ns c) (listing_of t rs ps fs ss)) l rs' ps' fs' ss' j u (all_f k 21 (rest_of (tokens_from l i))) (rw q at (g.agrees k (room k b))) ∙ as_when_lem p (whole (all_f k 21 (rest_of (tokens_from l i)))) z));
      }
