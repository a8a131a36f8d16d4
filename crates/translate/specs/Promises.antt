-- What is promised of the public call, one statement each; the theorems stand in proofs/Promises.antt.
use Rattle.std.specs.Prelude.{◌≡◌, List, ℕ, ◌*◌, ℤ, drop, Result, Ok, Err}
use Rattle.meaning.specs.Grounds.{refusal_number}
use Rattle.meaning.specs.declared.Refusal.{Refusal}
use Rattle.translate.specs.Translate.{Translates}
use Rattle.translate.specs.Meaning.{RefusedFor, Translation}
use Rattle.translate.specs.declared.Counts.{Counts}
use Rattle.translate.specs.declared.Refused.{Refused}

-- accepted: the fronts of the lists say what the sheet says
abbrev pub TranslateAccepted : Type 0
TranslateAccepted =
    (t : List ℕ) (rs₀ ps₀ ns₀ ls₀ : List ℤ) (bytes₀ : List ℕ) (rs ps ns ls : List ℤ) (bytes : List ℕ) (c : Counts)
    → Translates t rs₀ ps₀ ns₀ ls₀ bytes₀ rs ps ns ls bytes (Ok c) → Translation t c rs ps ns ls bytes

-- and the rest of each list is left
abbrev pub TranslateRest : Type 0
TranslateRest =
    (t : List ℕ) (rs₀ ps₀ ns₀ ls₀ : List ℤ) (bytes₀ : List ℕ) (rs ps ns ls : List ℤ) (bytes : List ℕ) (c : Counts)
    → Translates t rs₀ ps₀ ns₀ ls₀ bytes₀ rs ps ns ls bytes (Ok c)
    → (drop (2 * c.quantities) rs ≡ drop (2 * c.quantities) rs₀)
    × (drop (4 * c.primitives) ps ≡ drop (4 * c.primitives) ps₀)
    × (drop c.clauses ns ≡ drop c.clauses ns₀)
    × (drop (3 * c.literals) ls ≡ drop (3 * c.literals) ls₀)
    × (drop (8 * c.declared) bytes ≡ drop (8 * c.declared) bytes₀)

-- refused: document 01's ground of that number is met at that line, and every list is as it came
abbrev pub TranslateRefused : Type 0
TranslateRefused =
    (t : List ℕ) (rs₀ ps₀ ns₀ ls₀ : List ℤ) (bytes₀ : List ℕ) (rs ps ns ls : List ℤ) (bytes : List ℕ) (g : Refusal) (k : ℕ)
    → Translates t rs₀ ps₀ ns₀ ls₀ bytes₀ rs ps ns ls bytes (Err (record { refusal = g; line = k }))
    → RefusedFor t rs₀ ps₀ ns₀ ls₀ bytes₀ (refusal_number g) k
    × (rs ≡ rs₀) × (ps ≡ ps₀) × (ns ≡ ns₀) × (ls ≡ ls₀) × (bytes ≡ bytes₀)

-- and wherever a ground is met, it is refused with that number at that line
abbrev pub RefusedBack : Type 0
RefusedBack =
    (t : List ℕ) (rs₀ ps₀ ns₀ ls₀ : List ℤ) (bytes₀ : List ℕ) (rs ps ns ls : List ℤ) (bytes : List ℕ) (r : Result Counts Refused) (n k : ℕ)
    → Translates t rs₀ ps₀ ns₀ ls₀ bytes₀ rs ps ns ls bytes r → RefusedFor t rs₀ ps₀ ns₀ ls₀ bytes₀ n k
    → (g : Refusal) × (refusal_number g ≡ n) × (r ≡ Err (record { refusal = g; line = k }))

-- two results that satisfy the contract, and the lists with them, are equal
abbrev pub TranslateOnce : Type 0
TranslateOnce =
    (t : List ℕ) (rs₀ ps₀ ns₀ ls₀ : List ℤ) (bytes₀ : List ℕ)
    (rs ps ns ls rs' ps' ns' ls' : List ℤ) (bytes bytes' : List ℕ) (r r' : Result Counts Refused)
    → Translates t rs₀ ps₀ ns₀ ls₀ bytes₀ rs ps ns ls bytes r → Translates t rs₀ ps₀ ns₀ ls₀ bytes₀ rs' ps' ns' ls' bytes' r'
    → (r ≡ r') × (rs ≡ rs') × (ps ≡ ps') × (ns ≡ ns') × (ls ≡ ls') × (bytes ≡ bytes')
