-- Each line without a fault carries on what is kept of the sheet: a range line says its name's range, a rule what it asks, and no line says anything else.
use mathlib.Core.Path.{◌≡◌, refl}
use mathlib.Core.Bool.{true, false, ◌&&◌}
use mathlib.Core.List.{List, [], ◌∷◌, ◌++◌}
use Prim.Native.Nat.{ℕ}
use lib.ListN.{length}
use lib.IntN.{pos}
use borrow.Author.Tests.{not-false}
use Rattle.whole.specs.Ranges.{range}
use Rattle.sheet.specs.Grammar.{Comparison, Line, ranged, default, must, when}
use Rattle.meaning.specs.Plain.{asks_of}
use Rattle.meaning.specs.Draft.{Draft, after}
use Rattle.meaning.specs.Grounds.{named_all, bad_names}
use Rattle.meaning.proofs.Tests.{both_on}
use Rattle.meaning.proofs.RuleAsks.{asks_named, met_asked, asked_met}
use Rattle.meaning.proofs.TreeValues.{Named}
use Rattle.meaning.proofs.LinesSay.{Kept, kept_declare, kept_rule}
use Rattle.meaning.proofs.Faultless.{Faultless}

none_named : (ns : List ℕ) → named_all ns [] ≡ true
unfolding named_all
none_named ns = refl

-- the names of a rule's parts were declared
must_named : (s : Draft) (d : Comparison) (ds : List Comparison) → bad_names s (must d ds) ≡ false → named_all s.names (d ∷ ds) ≡ true
must_named s d ds h = not-false (named_all s.names (d ∷ ds)) h

when_named : (s : Draft) (c : Comparison) (cs : List Comparison) (d : Comparison) (ds : List Comparison) → bad_names s (when c cs d ds) ≡ false → (named_all s.names (c ∷ cs) ≡ true) × (named_all s.names (d ∷ ds) ≡ true)
when_named s c cs d ds h =
    both_on (named_all s.names (c ∷ cs)) (named_all s.names (d ∷ ds)) (not-false (named_all s.names (c ∷ cs) && named_all s.names (d ∷ ds)) h)

pub line_named : (s : Draft) (l : Line) → bad_names s l ≡ false → Named (length s.names) (asks_of s.names l)
unfolding asks_of
line_named s (ranged n low high) h = tt
line_named s (default n) h = tt
line_named s (must d ds) h = asks_named s.names [] (d ∷ ds) (none_named s.names) (must_named s d ds h)
line_named s (when c cs d ds) h = let b = when_named s c cs d ds h in asks_named s.names (c ∷ cs) (d ∷ ds) b.0 b.1

pub carried : (top : ℕ) (ls : List Line) (s : Draft) (l : Line) → Kept top ls s → Faultless top s l → Kept top (ls ++ (l ∷ [])) (after top s l)
unfolding after asks_of
carried top ls s (ranged n low high) k f = kept_declare top ls s k f.late n (range low high) (ranged n low high) (λ v. (λ h. h, λ h. h))
carried top ls s (default n) k f = kept_declare top ls s k f.late n (range (pos 0) (pos top)) (default n) (λ v. (λ h. h, λ h. h))
carried top ls s (must d ds) k f =
    let ns = s.names in
    let h = must_named s d ds f.names in
    kept_rule top ls s k (must d ds) (line_named s (must d ds) f.names) f.single
    (λ v p a. (met_asked ns v p a [] (d ∷ ds) (none_named ns) h, asked_met ns v p a [] (d ∷ ds) (none_named ns) h))
carried top ls s (when c cs d ds) k f =
    let ns = s.names in
    let b = when_named s c cs d ds f.names in
    kept_rule top ls s k (when c cs d ds) (line_named s (when c cs d ds) f.names) f.single
    (λ v p a. (met_asked ns v p a (c ∷ cs) (d ∷ ds) b.0 b.1, asked_met ns v p a (c ∷ cs) (d ∷ ds) b.0 b.1))
