-- The contract read back: an accepted answer comes from a sheet that was read, whose lists stand at the fronts, as far as the counts say.
use Rattle.std.specs.Prelude.{Result, Ok}
use mathlib.Core.Path.{◌≡◌, refl, sym, ap, ◌∙◌}
use mathlib.Core.Bool.{Bool, true, false, cond}
use mathlib.Core.List.{List, ◌++◌}
use Prim.Native.Nat.{ℕ, ◌*◌}
use native.Mathlib.Omega.{arith}
use lib.IntN.{ℤ}
use lib.ListN.{length, take, drop, length-append}
use lib.Seq.{take_at, drop_at}
use Rattle.meaning.specs.Lists.{range_list, primitive_list, length_list, literals_in, literal_list, name_bytes}
use Rattle.meaning.specs.Draft.{Draft}
use Rattle.meaning.specs.Grounds.{short_lists, Outcome, refused, read, outcome_of}
use Rattle.meaning.specs.declared.Refusal.TheVariants as refusal
use Rattle.meaning.proofs.FlatLists.{ranges_length, primitives_length, lengths_length, literals_length, names_length}
use Rattle.meaning.proofs.Promises.{fits}
use Rattle.translate.specs.Translate.{judged, counts_of, result_of, filled, into, Translates}
use Rattle.translate.specs.Meaning.{range_front, primitive_front, length_front, literal_front, name_front}
use Rattle.translate.specs.declared.Counts.{Counts}
use Rattle.translate.specs.declared.Refused.{Refused}

-- the counts and the fronts of the lists are those of the sheet that was read
pub record Taken (t : List ℕ) (c : Counts) (rs ps ns ls : List ℤ) (bytes : List ℕ) : Type 0 where
  pub draft : Draft
  pub is : outcome_of t ≡ read draft
  pub counts : c ≡ counts_of draft
  pub ranges : range_front c rs ≡ range_list (draft.declared ++ draft.made.ranges)
  pub primitives : primitive_front c ps ≡ primitive_list draft.made.primitives
  pub lengths : length_front c ns ≡ length_list draft.made.clauses
  pub literals : literal_front c ls ≡ literal_list (literals_in draft.made.clauses)
  pub names : name_front c bytes ≡ name_bytes draft.names

-- a filled list cut at n, where what is new ends
record Cut {A : Type 0} (new old l : List A) (n : ℕ) : Type 0 where
  front : take n l ≡ new
  rest : drop n l ≡ drop n old

cut : {A : Type 0} (new old l : List A) (n : ℕ) → l ≡ filled new old → length new ≡ n → Cut new old l n
cut new old l n e f =
    record {
      front = ap (take n) e ∙ take_at new (drop (length new) old) n f;
      rest = ap (drop n) e ∙ drop_at new (drop (length new) old) n f ∙ ap (λ (m : ℕ). drop m old) f;
    }

module _ (t : List ℕ) (rs₀ ps₀ ns₀ ls₀ : List ℤ) (bytes₀ : List ℕ) (c : Counts) where
  -- the sheet that was read
  record Origin : Type 0 where
    draft : Draft
    is : outcome_of t ≡ read draft
    judged_so : judged t rs₀ ps₀ ns₀ ls₀ bytes₀ ≡ read draft
    counts : c ≡ counts_of draft

  origin : Ok c ≡ result_of (judged t rs₀ ps₀ ns₀ ls₀ bytes₀) → Origin
  unfolding judged
  origin = by (short_lists rs₀ ps₀ ns₀ ls₀ bytes₀) refl
    where
      at : (o : Outcome) → outcome_of t ≡ o → short_lists rs₀ ps₀ ns₀ ls₀ bytes₀ ≡ false → Ok c ≡ result_of o → Origin
      at (refused g k) i f e = absurd (let z : ◌≡◌ {A = ℕ} 0 1 = cc in omega arith)
      at (read s) i f e = record { draft = s; is = i; judged_so = rw (f, i); counts = cc }

      by : (b : Bool) → short_lists rs₀ ps₀ ns₀ ls₀ bytes₀ ≡ b → Ok c ≡ result_of (cond b (refused refusal.Lists 0) (outcome_of t)) → Origin
      by true f e = absurd (let z : ◌≡◌ {A = ℕ} 0 1 = cc in omega arith)
      by false f e = at (outcome_of t) refl f e

  module _ (rs ps ns ls : List ℤ) (bytes : List ℕ) (r : Result Counts Refused) (h : Translates t rs₀ ps₀ ns₀ ls₀ bytes₀ rs ps ns ls bytes r) (so : r ≡ Ok c) where
    from : Origin
    from = origin (sym so ∙ h.result)

    ranges_cut : Cut (range_list (from.draft.declared ++ from.draft.made.ranges)) rs₀ rs (2 * c.quantities)
    ranges_cut =
        let s = from.draft in
        let d = s.declared ++ s.made.ranges in
        cut (range_list d) rs₀ rs (2 * c.quantities) (h.ranges ∙ ap (λ (o : Outcome). into o (λ s. range_list (s.declared ++ s.made.ranges)) rs₀) from.judged_so)
        (omega (arith, ap (λ (x : Counts). x.quantities) from.counts, ranges_length d, length-append s.declared s.made.ranges))

    primitives_cut : Cut (primitive_list from.draft.made.primitives) ps₀ ps (4 * c.primitives)
    primitives_cut =
        cut (primitive_list from.draft.made.primitives) ps₀ ps (4 * c.primitives) (h.primitives ∙ ap (λ (o : Outcome). into o (λ s. primitive_list s.made.primitives) ps₀) from.judged_so)
        (omega (arith, ap (λ (x : Counts). x.primitives) from.counts, primitives_length from.draft.made.primitives))

    lengths_cut : Cut (length_list from.draft.made.clauses) ns₀ ns c.clauses
    lengths_cut =
        cut (length_list from.draft.made.clauses) ns₀ ns c.clauses (h.lengths ∙ ap (λ (o : Outcome). into o (λ s. length_list s.made.clauses) ns₀) from.judged_so)
        (omega (arith, ap (λ (x : Counts). x.clauses) from.counts, lengths_length from.draft.made.clauses))

    literals_cut : Cut (literal_list (literals_in from.draft.made.clauses)) ls₀ ls (3 * c.literals)
    literals_cut =
        let cs = literals_in from.draft.made.clauses in
        cut (literal_list cs) ls₀ ls (3 * c.literals) (h.literals ∙ ap (λ (o : Outcome). into o (λ s. literal_list (literals_in s.made.clauses)) ls₀) from.judged_so)
        (omega (arith, ap (λ (x : Counts). x.literals) from.counts, literals_length cs))

    names_cut : Cut (name_bytes from.draft.names) bytes₀ bytes (8 * c.declared)
    names_cut =
        let s = from.draft in
        cut (name_bytes s.names) bytes₀ bytes (8 * c.declared) (h.names ∙ ap (λ (o : Outcome). into o (λ s. name_bytes s.names) bytes₀) from.judged_so)
        (omega (arith, ap (λ (x : Counts). x.declared) from.counts, names_length s.names, (fits t s from.is).many))

    pub taken : Taken t c rs ps ns ls bytes
    taken =
        record {
          draft = from.draft;
          is = from.is;
          counts = from.counts;
          ranges = ranges_cut.front;
          primitives = primitives_cut.front;
          lengths = lengths_cut.front;
          literals = literals_cut.front;
          names = names_cut.front;
        }

    -- the rest of each list is left
    pub rest_left : (drop (2 * c.quantities) rs ≡ drop (2 * c.quantities) rs₀) × (drop (4 * c.primitives) ps ≡ drop (4 * c.primitives) ps₀) × (drop c.clauses ns ≡ drop c.clauses ns₀) × (drop (3 * c.literals) ls ≡ drop (3 * c.literals) ls₀) × (drop (8 * c.declared) bytes ≡ drop (8 * c.declared) bytes₀)
    rest_left = (ranges_cut.rest, primitives_cut.rest, lengths_cut.rest, literals_cut.rest, names_cut.rest)
