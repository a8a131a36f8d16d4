-- What the public call gives back, and what it leaves in the caller's lists: document 01, "Translation".
use Rattle.std.specs.Prelude.{◌≡◌, cond, List, ◌++◌, ℕ, ℤ, length, drop, Result, Ok, Err}
use Rattle.meaning.specs.Lists.{range_list, primitive_list, length_list, literals_in, literal_list, name_bytes}
use Rattle.meaning.specs.Draft.{Draft, quantities_in}
use Rattle.meaning.specs.Grounds.{short_lists, Outcome, refused, read, outcome_of}
use Rattle.meaning.specs.declared.Refusal.TheVariants as refusal
use Rattle.translate.specs.declared.Counts.{Counts}
use Rattle.translate.specs.declared.Refused.{Refused}

-- 19 goes before all others
unfoldable pub judged : List ℕ → List ℤ → List ℤ → List ℤ → List ℤ → List ℕ → Outcome
judged t rs ps ns ls bytes = cond (short_lists rs ps ns ls bytes) (refused refusal.Lists 0) (outcome_of t)

-- the numbers of quantities, declared quantities, primitives, clauses and literals
abbrev pub counts_of : Draft → Counts
counts_of s =
    record {
      quantities = quantities_in s;
      declared = length s.declared;
      primitives = length s.made.primitives;
      clauses = length s.made.clauses;
      literals = length (literals_in s.made.clauses);
    }

abbrev pub result_of : Outcome → Result Counts Refused
result_of (refused g k) = Err (record { refusal = g; line = k })
result_of (read s) = Ok (counts_of s)

-- acceptance fills the front of a list and leaves the rest; a refusal writes nothing
abbrev pub filled : {A : Type 0} → List A → List A → List A
filled new old = new ++ drop (length new) old

abbrev pub into : {A : Type 0} → Outcome → (Draft → List A) → List A → List A
into (refused g k) f old = old
into (read s) f old = filled (f s) old

-- the call: its result, and every list, from what came
pub record Translates
    (t : List ℕ) (rs₀ ps₀ ns₀ ls₀ : List ℤ) (bytes₀ : List ℕ) (rs ps ns ls : List ℤ) (bytes : List ℕ) (r : Result Counts Refused) : Type 0 where
  pub result : r ≡ result_of (judged t rs₀ ps₀ ns₀ ls₀ bytes₀)
  pub ranges : rs ≡ into (judged t rs₀ ps₀ ns₀ ls₀ bytes₀) (λ s. range_list (s.declared ++ s.made.ranges)) rs₀
  pub primitives : ps ≡ into (judged t rs₀ ps₀ ns₀ ls₀ bytes₀) (λ s. primitive_list s.made.primitives) ps₀
  pub lengths : ns ≡ into (judged t rs₀ ps₀ ns₀ ls₀ bytes₀) (λ s. length_list s.made.clauses) ns₀
  pub literals : ls ≡ into (judged t rs₀ ps₀ ns₀ ls₀ bytes₀) (λ s. literal_list (literals_in s.made.clauses)) ls₀
  pub names : bytes ≡ into (judged t rs₀ ps₀ ns₀ ls₀ bytes₀) (λ s. name_bytes s.names) bytes₀
