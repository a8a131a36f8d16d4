-- For the code: what the answer to all lines says of the local lists, and the answer to the caller of the lists that were lent.
use Rattle.std.specs.Prelude.{◌≡◌, List, ◌++◌, ℕ, ◌≤◌, ℤ, length, Result, Ok, Err}
use Rattle.meaning.specs.Lists.{range_list, primitive_list, length_list, literals_in, literal_list, name_bytes}
use Rattle.meaning.specs.Draft.{Draft}
use Rattle.meaning.specs.Grounds.{Outcome, refused, read}
use Rattle.lines.specs.inner.Stored.{Stored, Full, Holds}
use Rattle.lines.specs.declared.parts.Progress.{Progress}
use Rattle.translate.specs.Translate.{result_of, into}
use Rattle.translate.specs.declared.Counts.{Counts}
use Rattle.translate.specs.declared.Refused.{Refused}

-- ---- all lines
-- what the answer to all lines says of their outcome
abbrev pub WalkSays : Outcome → List ℤ → List ℤ → List ℤ → List ℤ → List ℕ → Result Progress Refused → Type 0
WalkSays o rs ps ns ls keys (Ok g) = Holds o g rs ps ns ls keys
WalkSays o rs ps ns ls keys (Err e) = o ≡ refused e.refusal e.line

pub record LinesRead (o : Outcome) (rs ps ns ls : List ℤ) (keys : List ℕ) (r : Result Progress Refused) : Type 0 where
  pub says : WalkSays o rs ps ns ls keys r
  pub full : Full rs ps ns ls keys

-- ---- the caller
-- the caller's lists have room
pub record Lent (rs ps ns ls : List ℤ) (bytes : List ℕ) : Type 0 where
  pub ranges : 256 ≤ length rs
  pub primitives : 1024 ≤ length ps
  pub lengths : 256 ≤ length ns
  pub literals : 3072 ≤ length ls
  pub names : 1024 ≤ length bytes

-- the caller's lists and the result are those of an outcome
pub record Gives (o : Outcome) (rs₀ ps₀ ns₀ ls₀ : List ℤ) (bytes₀ : List ℕ) (rs ps ns ls : List ℤ) (bytes : List ℕ) (r : Result Counts Refused) : Type 0 where
  pub result : r ≡ result_of o
  pub ranges : rs ≡ into o (λ s. range_list (s.declared ++ s.made.ranges)) rs₀
  pub primitives : ps ≡ into o (λ s. primitive_list s.made.primitives) ps₀
  pub lengths : ns ≡ into o (λ s. length_list s.made.clauses) ns₀
  pub literals : ls ≡ into o (λ s. literal_list (literals_in s.made.clauses)) ls₀
  pub names : bytes ≡ into o (λ s. name_bytes s.names) bytes₀

-- the caller's lists are filled with any sheet that is held
pub record Accepts
    (g : Progress) (rs ps ns ls : List ℤ) (keys : List ℕ) (rs₀ ps₀ ns₀ ls₀ : List ℤ) (bytes₀ : List ℕ)
    (rs₁ ps₁ ns₁ ls₁ : List ℤ) (bytes₁ : List ℕ) (c : Counts) : Type 0 where
  pub gives : (s : Draft) → Stored s g rs ps ns ls keys → Gives (read s) rs₀ ps₀ ns₀ ls₀ bytes₀ rs₁ ps₁ ns₁ ls₁ bytes₁ (Ok c)
