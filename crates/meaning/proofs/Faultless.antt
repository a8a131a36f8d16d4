-- A line that is read has none of the faults, a text that is read none of the grounds: each test is looked at in turn, and every one that is met refuses.
use Rattle.std.specs.Prelude.{Some, None}
use mathlib.Core.Path.{◌≡◌, refl, ap, subst, ◌∙◌}
use mathlib.Core.Bool.{Bool, true, false, cond}
use mathlib.Core.List.{List}
use mathlib.Core.Option.{Option, none, some}
use Prim.Native.Nat.{ℕ, zero, suc, ◌<◌, ◌≤◌}
use native.Mathlib.Omega.{arith}
use lib.Dec.{eqb}
use lib.ListN.{length}
use borrow.Author.Tests.{ltb-false, eqb-false}
use Rattle.sheet.specs.Lines.{lines_of, line_of}
use Rattle.sheet.specs.Tokens.{Value, tokens_of}
use Rattle.sheet.specs.Depth.{too_deep}
use Rattle.sheet.specs.Grammar.{Line}
use Rattle.sheet.specs.Reading.{read_line}
use Rattle.meaning.specs.Plain.{asks_of}
use Rattle.meaning.specs.Translation.{equalities}
use Rattle.meaning.specs.Draft.{Draft, blank, quantities_in, after}
use Rattle.meaning.specs.Grounds.{late_range, bad_names, bad_order, many_demands, helper_beyond, many_quantities, other_version, tree_fault, Outcome, refused, read, or_refused, line_outcome, one_line, read_lines, some_declared, behind_first, by_version, top_of, bad_text, first_line, outcome_of}
use Rattle.meaning.specs.declared.Refusal.{Refusal}
use Rattle.meaning.specs.declared.Refusal.TheVariants as refusal

-- none of grounds 24 to 29
pub record Faultless (top : ℕ) (s : Draft) (l : Line) : Type 0 where
  pub late : late_range s l ≡ false
  pub names : bad_names s l ≡ false
  pub order : bad_order l ≡ false
  pub single : equalities (asks_of s.names l) ≤ 1
  pub near : helper_beyond s l ≡ false
  pub few : quantities_in (after top s l) ≤ 128

past : (b : Bool) (g : Refusal) (o : Option Refusal) → cond b (some g) o ≡ none → (b ≡ false) × (o ≡ none)
past true g o e = absurd (let z : ◌≡◌ {A = ℕ} 0 1 = cc in omega arith)
past false g o e = (refl, e)

pub faultless : (top : ℕ) (s : Draft) (l : Line) → tree_fault top s l ≡ none → Faultless top s l
unfolding tree_fault
faultless top s l e =
    let a = past (late_range s l) refusal.Form _ e in
    let b = past (bad_names s l) refusal.Names _ a.1 in
    let c = past (bad_order l) refusal.Order _ b.1 in
    let d = past (many_demands s l) refusal.Equalities _ c.1 in
    let f = past (helper_beyond s l) refusal.Beyond _ d.1 in
    let g = past (many_quantities top s l) refusal.Many none f.1 in
    record { late = a.0; names = b.0; order = c.0; single = ltb-false 1 _ d.0; near = f.0; few = ltb-false 128 _ g.0 }

-- a line that is read
pub record LineRead (top : ℕ) (s : Draft) (t : List ℕ) (s' : Draft) : Type 0 where
  pub line : Line
  pub tree : read_line (tokens_of t) ≡ some line
  pub fine : Faultless top s line
  pub next : s' ≡ after top s line

module _ (top : ℕ) (s : Draft) (k : ℕ) (t : List ℕ) (s' : Draft) where
  pub line_read : one_line top s k t ≡ read s' → LineRead top s t s'
  unfolding one_line
  line_read e = shallow (too_deep (tokens_of t)) e
    where
      fault : (l : Line) (f : Option Refusal) → read_line (tokens_of t) ≡ some l → tree_fault top s l ≡ f → or_refused f k (read (after top s l)) ≡ read s' → LineRead top s t s'
      fault l none h i j = record { line = l; tree = h; fine = faultless top s l i; next = cc }
      fault l (some g) h i j = absurd (let z : ◌≡◌ {A = ℕ} 0 1 = cc in omega arith)

      formed : (o : Option Line) → read_line (tokens_of t) ≡ o → line_outcome top s k o ≡ read s' → LineRead top s t s'
      formed none h i = absurd (let z : ◌≡◌ {A = ℕ} 0 1 = cc in omega arith)
      formed (some l) h i = fault l (tree_fault top s l) h refl i

      shallow : (b : Bool) → cond b (refused refusal.Brackets k) (line_outcome top s k (read_line (tokens_of t))) ≡ read s' → LineRead top s t s'
      shallow true h = absurd (let z : ◌≡◌ {A = ℕ} 0 1 = cc in omega arith)
      shallow false h = formed (read_line (tokens_of t)) refl h

above : (n : ℕ) → (n ≡ 0 → ⊥) → 0 < n
above zero h = absurd (h refl)
above (suc n) h = omega arith

-- a text that is read: its first line is a version's, the others are read by that version, and a quantity is declared
pub record TextRead (t : List ℕ) (s : Draft) : Type 0 where
  pub version : ℕ
  pub first : first_line (line_of t 1) ≡ Some version
  pub lines : read_lines (top_of version) 2 blank (behind_first (lines_of t)) ≡ read s
  pub some : 0 < length s.names

pub text_read : (t : List ℕ) (s : Draft) → outcome_of t ≡ read s → TextRead t s
unfolding outcome_of
text_read t s e = good (bad_text t) e
  where
    declared : (s' : Draft) (b : Bool) → eqb (length s'.names) 0 ≡ b → cond b (refused refusal.Undeclared 0) (read s') ≡ read s → (s' ≡ s) × (0 < length s.names)
    declared s' true f h = absurd (let z : ◌≡◌ {A = ℕ} 0 1 = cc in omega arith)
    declared s' false f h =
        let i : s' ≡ s = cc in
        (i, subst (λ (u : Draft). 0 < length u.names) i (above (length s'.names) (eqb-false (length s'.names) 0 f)))

    lines : (v : ℕ) (o : Outcome) → first_line (line_of t 1) ≡ Some v → read_lines (top_of v) 2 blank (behind_first (lines_of t)) ≡ o → some_declared o ≡ read s → TextRead t s
    lines v (refused g k) i f h = absurd (let z : ◌≡◌ {A = ℕ} 0 1 = cc in omega arith)
    lines v (read s') i f h =
        let d = declared s' (eqb (length s'.names) 0) refl h in
        record { version = v; first = i; lines = f ∙ ap read d.0; some = d.1 }

    known : (v : ℕ) (b : Bool) → first_line (line_of t 1) ≡ Some v → cond b (refused refusal.Version 1) (some_declared (read_lines (top_of v) 2 blank (behind_first (lines_of t)))) ≡ read s → TextRead t s
    known v true i h = absurd (let z : ◌≡◌ {A = ℕ} 0 1 = cc in omega arith)
    known v false i h = lines v (read_lines (top_of v) 2 blank (behind_first (lines_of t))) i refl h

    versioned : (v : Value) → first_line (line_of t 1) ≡ v → by_version v t ≡ read s → TextRead t s
    versioned (Some v) i h = known v (other_version v) i h
    versioned None i h = absurd (let z : ◌≡◌ {A = ℕ} 0 1 = cc in omega arith)

    good : (b : Bool) → cond b (refused refusal.Text 0) (by_version (first_line (line_of t 1)) t) ≡ read s → TextRead t s
    good true h = absurd (let z : ◌≡◌ {A = ℕ} 0 1 = cc in omega arith)
    good false h = versioned (first_line (line_of t 1)) refl h
