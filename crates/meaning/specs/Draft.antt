-- A sheet read line by line: what has been declared, and what the rules have made.
use Rattle.std.specs.Prelude.{Bool, true, false, List, [], ◌∷◌, ◌++◌, ℕ, ◌+◌, pos, length}
use Rattle.whole.specs.Ranges.{range}
use Rattle.whole.specs.declared.Range.{Range}
use Rattle.problem.specs.Problem.{Problem}
use Rattle.sheet.specs.Grammar.{Line, ranged, default, must, when}
use Rattle.meaning.specs.Plain.{asks_of}
use Rattle.meaning.specs.Translation.{Piece, nothing, ◌⋈◌, rule_of}
use Rattle.meaning.specs.Lists.{range_list}

pub record Draft : Type 0 where
  pub names : List ℕ
  pub declared : List Range
  pub made : Piece
  pub ruled : Bool

-- before the first line
abbrev pub blank : Draft
blank = record { names = []; declared = []; made = nothing; ruled = false }

-- declared quantities first, then helpers
abbrev pub quantities_in : Draft → ℕ
quantities_in s = length s.declared + length s.made.ranges

abbrev pub declare : Draft → ℕ → Range → Draft
declare s n r = record { names = s.names ++ (n ∷ []); declared = s.declared ++ (r ∷ []); made = s.made; ruled = s.ruled }

abbrev pub rule : Draft → Line → Draft
rule s l =
    record {
      names = s.names;
      declared = s.declared;
      made = s.made ⋈ rule_of s.declared (quantities_in s) (asks_of s.names l);
      ruled = true;
    }

-- a line more; `range NAME` means 0 to the default's top
unfoldable pub after : ℕ → Draft → Line → Draft
after top s (ranged n low high) = declare s n (range low high)
after top s (default n) = declare s n (range (pos 0) (pos top))
after top s (must d ds) = rule s (must d ds)
after top s (when c cs d ds) = rule s (when c cs d ds)

-- the draft that trees make of one, and of none
abbrev pub after_all : ℕ → Draft → List Line → Draft
after_all top s [] = s
after_all top s (l ∷ ls) = after_all top (after top s l) ls

abbrev pub draft_of : ℕ → List Line → Draft
draft_of top ls = after_all top blank ls

-- the names of the range lines, in order
unfoldable pub declared_in : List Line → List ℕ
declared_in [] = []
declared_in (ranged n low high ∷ ls) = n ∷ declared_in ls
declared_in (default n ∷ ls) = n ∷ declared_in ls
declared_in (must d ds ∷ ls) = declared_in ls
declared_in (when c cs d ds ∷ ls) = declared_in ls

-- the problem of an accepted sheet
abbrev pub problem_in : Draft → Problem
problem_in s = record { ranges = range_list (s.declared ++ s.made.ranges); primitives = s.made.primitives; clauses = s.made.clauses }
