-- For the code: comparisons behind one another, read and listed.
use Rattle.std.specs.Prelude as code
use Rattle.std.specs.Prelude.{◌≡◌, cond, List, [], ◌∷◌, map, ℕ, ◌+◌, ◌*◌, ◌≤◌, ◌<◌, eqb, ℤ, length, Some, None}
use Rattle.std.proofs.Math.Option.{Option, none, some}
use Rattle.sheet.specs.Grammar.{Comparison}
use Rattle.sheet.specs.Reading.{Read}
use Rattle.sheet.specs.inner.Steps.{tokens_from}
use Rattle.sheet.specs.declared.Token.{Token}
use Rattle.sheet.specs.declared.Sign.{Sign}
use Rattle.meaning.specs.Plain.{Asked, plain_e, opposite}
use Rattle.meaning.specs.Translation.{Turn, first, second}
use Rattle.lines.specs.inner.Emission.{emitted, Listing, list_all}
use Rattle.lines.specs.declared.parts.Clause.{Clause}
use Rattle.lines.specs.declared.parts.Clause.TheVariants.{First, Second}
use Rattle.lines.specs.declared.parts.Tally.{Tally}
use Rattle.lines.specs.declared.parts.Listed.{Listed}

-- which clause
abbrev pub turn_of : Clause → Turn
turn_of First = first
turn_of Second = second

-- what is asked where comparisons stand with the mark with number m between them: between `and` the opposite
abbrev pub turned_by : ℕ → Sign → Sign
turned_by m s = cond (eqb m 20) (opposite s) s

abbrev pub asked_by : ℕ → List ℕ → Comparison → Asked
asked_by m ns c = record { left = plain_e ns c.left; sign = turned_by m c.sign; right = plain_e ns c.right }

-- of one comparison, and of the first and the others
abbrev pub asks_one : ℕ → List ℕ → Comparison → List Asked
asks_one m ns c = asked_by m ns c ∷ []

abbrev pub asks_all : ℕ → List ℕ → Comparison × List Comparison → List Asked
asks_all m ns p = map (asked_by m ns) (p.0 ∷ p.1)

-- the lists with the counts
abbrev pub listing_of : Tally → List ℤ → List ℤ → List ℤ → List ℤ → Listing
listing_of t rs ps fs ss =
    record { ranges = rs; primitives = ps; firsts = fs; seconds = ss; making = t.making; count = t.count; equals = t.equals }

-- what the code's answer says was listed and is left
abbrev pub listing_as : List ℕ → code.Option Listed → List ℤ → List ℤ → List ℤ → List ℤ → Option (Listing × List Token)
listing_as l (Some t) rs ps fs ss = some (listing_of t.tally rs ps fs ss, tokens_from l t.next)
listing_as l None rs ps fs ss = none

-- the answer is the reading f, at every bound that is large enough, with what it asks listed; and a part that was read is not empty
pub record Lists
    {A : Type 0} (f : ℕ → List Token → Read A) (asks : A → List Asked) (d : ℕ) (l : List ℕ) (at : ℕ) (a : Listing)
    (r : code.Option Listed) (rs ps fs ss : List ℤ) : Type 0 where
  pub agrees : (k : ℕ) → 8 * length (tokens_from l at) + 6 ≤ k → listing_as l r rs ps fs ss ≡ emitted (λ x. list_all d (asks x) a) (f k (tokens_from l at))
  pub falls : (t : Listed) → r ≡ Some t → length (tokens_from l t.next) < length (tokens_from l at)
