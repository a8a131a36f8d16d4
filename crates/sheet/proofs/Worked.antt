-- The worked lines pass by computing: each is read, its numbers are compared, and whether it is obeyed is tested; the tests are right.
use mathlib.Core.Path.{◌≡◌, refl, ap₂}
use mathlib.Core.Bool.{Bool, true, false, ◌&&◌, beq}
use mathlib.Core.List.{List, [], ◌∷◌, map}
use mathlib.Core.Option.{Option, none, some}
use mathlib.Core.Logic.{◌↔◌}
use Prim.Native.String.{String}
use lib.Dec.{T}
use lib.IntN.{ℤ}
use Rattle.whole.specs.Lists.{AllOf}
use Rattle.sheet.specs.Text.{bytes}
use Rattle.sheet.specs.Tokens.{pieces_of, suffix_of, digits_of, digit_first, number_of, key_of, all_lower, mark_of, minus_first, token_of, tokens_of}
use Rattle.sheet.specs.Grammar.{Line}
use Rattle.sheet.specs.Reading.{expr_f, comparison_f, more_f, all_f, read_range, read_line}
use Rattle.sheet.specs.Meaning.{value_e}
use Rattle.sheet.specs.Worked.{Names, values_in, numbers_of, Case, says, unread, Truly, Passes, cases}
use Rattle.sheet.proofs.SpellingLines.{reads_exactly, not_read}
use Rattle.sheet.proofs.Truth.{eq_z, eq_z_right, and_right, obeys_line, obeys_line_lem}

-- ---- the tests
abbrev same_numbers : List ℤ → List ℤ → Bool
same_numbers [] [] = true
same_numbers [] (b ∷ bs) = false
same_numbers (a ∷ xs) [] = false
same_numbers (a ∷ xs) (b ∷ bs) = eq_z a b && same_numbers xs bs

abbrev saying : Names → List ℤ → Bool → Option Line → Bool
saying ns zs b none = false
saying ns zs b (some l) = same_numbers (numbers_of (values_in ns) l) zs && beq (obeys_line 1_000_000 (values_in ns) l) b

abbrev is_none : Option Line → Bool
is_none none = true
is_none (some l) = false

abbrev passes : Case → Bool
passes (says s ns zs b) = saying ns zs b (read_line (tokens_of (bytes s)))
passes (unread s) = is_none (read_line (tokens_of (bytes s)))

abbrev all : List Bool → Bool
all [] = true
all (b ∷ bs) = b && all bs

-- ---- they are right
same_numbers_lem : (xs ys : List ℤ) → T (same_numbers xs ys) → xs ≡ ys
same_numbers_lem [] [] h = refl
same_numbers_lem [] (b ∷ bs) h = absurd h
same_numbers_lem (a ∷ xs) [] h = absurd h
same_numbers_lem (a ∷ xs) (b ∷ bs) h =
    let k = (and_right (eq_z a b) (same_numbers xs bs)).0 h in
    ap₂ (λ (z : ℤ) (zs : List ℤ). z ∷ zs) ((eq_z_right a b).0 k.0) (same_numbers_lem xs bs k.1)

truly : {A : Type 0} (o b : Bool) → T o ↔ A → T (beq o b) → Truly b A
truly true true i h = i.0 tt
truly true false i h = absurd h
truly false true i h = absurd h
truly false false i h = λ a. i.1 a

said : (s : String) (ns : Names) (zs : List ℤ) (b : Bool) (o : Option Line) → read_line (tokens_of (bytes s)) ≡ o → T (saying ns zs b o) → Passes (says s ns zs b)
said s ns zs b none e h = absurd h
said s ns zs b (some l) e h =
    let k = (and_right (same_numbers (numbers_of (values_in ns) l) zs) (beq (obeys_line 1_000_000 (values_in ns) l) b)).0 h in
    (l, (reads_exactly (bytes s) l).0 e, same_numbers_lem (numbers_of (values_in ns) l) zs k.0, truly (obeys_line 1_000_000 (values_in ns) l) b (obeys_line_lem 1_000_000 (values_in ns) l) k.1)

not_spelt : (s : String) (o : Option Line) → read_line (tokens_of (bytes s)) ≡ o → T (is_none o) → Passes (unread s)
not_spelt s none e h = not_read (bytes s) e
not_spelt s (some l) e h = absurd h

pass : (c : Case) → T (passes c) → Passes c
pass (says s ns zs b) h = said s ns zs b (read_line (tokens_of (bytes s))) refl h
pass (unread s) h = not_spelt s (read_line (tokens_of (bytes s))) refl h

all_pass_lem : (cs : List Case) → T (all (map passes cs)) → AllOf Passes cs
all_pass_lem [] h = tt
all_pass_lem (c ∷ cs) h = let k = (and_right (passes c) (all (map passes cs))).0 h in (pass c k.0, all_pass_lem cs k.1)

-- all tests hold
tested : T (all (map passes cases))
unfolding pieces_of suffix_of digits_of digit_first number_of key_of all_lower mark_of minus_first token_of tokens_of expr_f comparison_f more_f all_f read_range read_line value_e
tested = tt

pub worked : AllOf Passes cases
worked = all_pass_lem cases tested
