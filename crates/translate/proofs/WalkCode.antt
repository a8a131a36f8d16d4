-- The walk through the lines: some sheet is held, and the lines from here on make of it what all lines make of the blank one. Each line goes on with the sheet that
-- it makes, or decides by its fault; past the last line the sheet held is the outcome.
use Rattle.std.specs.Prelude.{Result, Ok, Err, MatchResult, IsErrAnd}
use mathlib.Core.Path.{◌≡◌, refl, ap, ◌∙◌}
use mathlib.Core.Bool.{false}
use mathlib.Core.List.{List, [], ◌∷◌}
use Prim.Native.Nat.{ℕ, suc, ◌+◌, ◌≤◌}
use native.Mathlib.Omega.{arith}
use lib.IntN.{ℤ}
use lib.ListN.{length}
use Rattle.sheet.specs.Lines.{lines_of}
use Rattle.std.proofs.lemmas.List.{nil_from_length}
use Rattle.sheet.proofs.Lines as lines
use Rattle.meaning.specs.Lists.{range_list, primitive_list, length_list, literals_in, literal_list}
use Rattle.meaning.specs.Draft.{Draft, blank}
use Rattle.meaning.specs.Grounds.{Outcome, refused, read, top_of, one_line, read_lines}
use Rattle.meaning.specs.declared.Refusal.{Refusal}
use Rattle.lines.specs.declared.parts.Progress.{Progress}
use Rattle.translate.specs.declared.Refused.{Refused}
use Rattle.translate.proofs.EndedLines.{Ended}
use Rattle.lines.specs.inner.Stored.{Stored, Proper, Full, Standing, Holds, LineSays, Answers, line_by}

-- ---- lines in a row
module _ (top k : ℕ) (s : Draft) (l : List ℕ) (ls : List (List ℕ)) where
  lines_next : (s' : Draft) → one_line top s k l ≡ read s' → read_lines top k s (l ∷ ls) ≡ read_lines top (suc k) s' ls
  unfolding read_lines
  lines_next s' e = rw (e, read_lines)

  lines_fault : (g : Refusal) (j : ℕ) → one_line top s k l ≡ refused g j → read_lines top k s (l ∷ ls) ≡ refused g j
  unfolding read_lines
  lines_fault g j e = rw (e, read_lines)

no_lines : lines_of [] ≡ []
no_lines = lines.lines_none

lines_none : (top k : ℕ) (s : Draft) → read_lines top k s [] ≡ read s
unfolding read_lines
lines_none top k s = refl

-- ---- the blank sheet
-- before the first line any lists hold the sheet
abbrev pub unread : Progress
unread = record { declared = 0; quantities = 0; primitives = 0; clauses = 0; literals = 0; ruled = false }

stored_blank : (rs ps ns ls : List ℤ) (keys : List ℕ) → Stored blank unread rs ps ns ls keys
unfolding range_list primitive_list length_list literals_in literal_list
stored_blank rs ps ns ls keys =
    record {
      declared = refl;
      alike = refl;
      quantities = refl;
      primitives = refl;
      clauses = refl;
      literals = refl;
      ruled = refl;
      range_front = refl;
      primitive_front = refl;
      length_front = refl;
      literal_front = refl;
      key_front = refl;
      few = omega arith;
    }

proper_blank : Proper blank
unfolding literals_in
proper_blank = record { good = tt; primitives = omega arith; clauses = omega arith; literals = omega arith; unruled = λ e. refl }

-- ---- a step of the walk
-- what the lines of a text make of the blank sheet
abbrev pub outcome_from : ℕ → List ℕ → Outcome
outcome_from version text = read_lines (top_of version) 2 blank (lines_of text)

-- n lines are read, and these bytes are left
pub record Walking (version : ℕ) (text : List ℕ) (rs ps ns ls : List ℤ) (keys : List ℕ) (g : Progress) (n : ℕ) (rest : List ℕ) : Type 0 where
  pub standing : Standing g rs ps ns ls keys
  pub same : outcome_from version text ≡ read_lines (top_of version) (n + 2) standing.draft (lines_of rest)
  pub number : n + length rest ≤ length text

pub walk_start : (version : ℕ) (text : List ℕ) (rs ps ns ls : List ℤ) (keys : List ℕ) (n : ℕ) (rest : List ℕ) → Full rs ps ns ls keys → n ≡ 0 → rest ≡ text → Walking version text rs ps ns ls keys unread n rest
walk_start version text rs ps ns ls keys n rest f z e =
    rw (z, e) (record { standing = record { draft = blank; stored = stored_blank rs ps ns ls keys; proper = proper_blank; full = f }; same = refl; number = omega arith })

module _ {version : ℕ} {text : List ℕ} {rs ps ns ls : List ℤ} {keys : List ℕ} {g : Progress} {n : ℕ} {rest : List ℕ} (w : Walking version text rs ps ns ls keys g n rest) where
  pub walk_done : length rest ≡ 0 → Holds (outcome_from version text) g rs ps ns ls keys
  walk_done h =
      let s = w.standing.draft in
      record {
        draft = s;
        outcome = w.same ∙ ap (λ (x : List ℕ). read_lines (top_of version) (n + 2) s (lines_of x)) (nil_from_length rest h) ∙ ap (read_lines (top_of version) (n + 2) s) no_lines ∙ lines_none (top_of version) (n + 2) s;
        stored = w.standing.stored;
        proper = w.standing.proper;
      }

  -- the lines that are left are this one, and those of the bytes behind it
  module _ (line back : List ℕ) (split : Ended rest line back) where
    here : outcome_from version text ≡ read_lines (top_of version) (n + 2) w.standing.draft (line ∷ lines_of back)
    here = w.same ∙ ap (read_lines (top_of version) (n + 2) w.standing.draft) split.lines

    module _ {rs' ps' ns' ls' : List ℤ} {keys' : List ℕ} {r : Result Progress Refusal} (read : Answers (line_by version line) g rs ps ns ls keys rs' ps' ns' ls' keys' r) where
      says : LineSays (n + 2) (one_line (top_of version) w.standing.draft (n + 2) line) rs' ps' ns' ls' keys' r
      says = read.says w.standing.draft (n + 2) w.standing.stored w.standing.proper

      -- a fault, with its line, is the answer to all lines
      pub walk_decides : (m : Result Progress Refused) (P : Refusal → Refused → Type 0) → ((g : Refusal) (e : Refused) → P g e → e ≡ record { refusal = g; line = n + 2 }) → MatchResult r (λ x. m ≡ Ok x) (λ g. IsErrAnd m (P g)) → (e : Refused) → m ≡ Err e → outcome_from version text ≡ refused e.refusal e.line
      walk_decides m P p d e i = by r refl d
        where
          by : (q : Result Progress Refusal) → r ≡ q → MatchResult q (λ x. m ≡ Ok x) (λ g. IsErrAnd m (P g)) → outcome_from version text ≡ refused e.refusal e.line
          by (Ok x) j k = absurd (let z : ◌≡◌ {A = ℕ} 0 1 = cc in omega arith)
          by (Err g) j k =
              let f : e ≡ record { refusal = g; line = n + 2 } = p g e (rw i at k) in
              rw f (here ∙ lines_fault (top_of version) (n + 2) w.standing.draft line (lines_of back) g (n + 2) (rw j at says))

      -- without one the walk goes on
      pub walk_holds : (m : Result Progress Refused) (P : Refusal → Refused → Type 0) → MatchResult r (λ x. m ≡ Ok x) (λ g. IsErrAnd m (P g)) → (next : Progress) → m ≡ Ok next → r ≡ Ok next
      walk_holds m P d next i = by r refl d
        where
          by : (q : Result Progress Refusal) → r ≡ q → MatchResult q (λ x. m ≡ Ok x) (λ g. IsErrAnd m (P g)) → r ≡ Ok next
          by (Ok x) j k = let h : x ≡ next = cc in j ∙ rw h
          by (Err g) j k = absurd (rw i at k)

      module _ (full : Full rs' ps' ns' ls' keys') where
        pub walk_next : (next : Progress) → r ≡ Ok next → (m : ℕ) (left : List ℕ) → m ≡ n + 1 → left ≡ back → Walking version text rs' ps' ns' ls' keys' next m left
        walk_next next d m left z e =
            let held : LineSays (n + 2) (one_line (top_of version) w.standing.draft (n + 2) line) rs' ps' ns' ls' keys' (Ok next) = rw d at says in
            let k : suc (n + 2) ≡ n + 1 + 2 = omega arith in
            rw (z, e) (record {
              standing = record { draft = held.draft; stored = held.stored; proper = held.proper; full = full };
              same = here ∙ lines_next (top_of version) (n + 2) w.standing.draft line (lines_of back) held.draft held.outcome ∙ ap (λ (j : ℕ). read_lines (top_of version) j held.draft (lines_of back)) k;
              number = omega (arith, w.number, split.shorter);
            })
