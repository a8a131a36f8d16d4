-- A text is refused exactly on document 01's ground, at its line: the lines before it have no fault, and it is the first that has one.
use Rattle.std.specs.Prelude.{Some, None}
use mathlib.Core.Path.{◌≡◌, refl, sym, ap, subst, ◌∙◌}
use mathlib.Core.Bool.{Bool, true, false, cond}
use mathlib.Core.List.{List, [], ◌∷◌, ◌++◌}
use Prim.Native.Nat.{ℕ, suc, ◌+◌}
use native.Mathlib.Omega.{arith}
use borrow.Author.Tests.{eqb-true}
use lib.Dec.{eqb}
use lib.ListN.{length}
use Rattle.problem.specs.Grounds.{FirstMet}
use Rattle.sheet.specs.Lines.{lines_of, line_of}
use Rattle.sheet.specs.Grammar.{Line}
use Rattle.sheet.specs.Tokens.{Value}
use Rattle.meaning.specs.Draft.{Draft, blank, after, after_all, draft_of}
use Rattle.meaning.specs.Grounds.{bad_text, first_line, other_version, top_of, Outcome, refused, read, one_line, read_lines, some_declared, behind_first, by_version, outcome_of, refusal_number}
use Rattle.meaning.specs.Refused.{LineGround, FaultFree, FirstFault, RefusedAt, text, first, version, at_line, undeclared}
use Rattle.meaning.specs.declared.Refusal.{Refusal}
use Rattle.meaning.specs.declared.Refusal.TheVariants.{Text, FirstLine, Version, Undeclared}
use Rattle.meaning.proofs.DefinitionSteps.{lines_refused, lines_read, lines_end, lines_append}
use Rattle.meaning.proofs.LineInduction.{names_declared}
use Rattle.meaning.proofs.LineGrounds as line

-- ---- lines behind any draft
record From (top k : ℕ) (start : Draft) (ls : List (List ℕ)) (g j : ℕ) : Type 0 where
  before : List (List ℕ)
  line : List ℕ
  behind : List (List ℕ)
  split : ls ≡ before ++ (line ∷ behind)
  trees : List Line
  fine : FaultFree top start before trees
  fault : FirstMet (LineGround top (after_all top start trees) line) g
  number : j ≡ k + length before

data LinesAre (top k : ℕ) (s : Draft) (ls : List (List ℕ)) : Outcome → Type 0 where
  faulty : (g : Refusal) (j : ℕ) → From top k s ls (refusal_number g) j → LinesAre top k s ls (refused g j)
  fine : (xs : List Line) → FaultFree top s ls xs → LinesAre top k s ls (read (after_all top s xs))

lines_are : (top k : ℕ) (s : Draft) (ls : List (List ℕ)) → LinesAre top k s ls (read_lines top k s ls)
unfolding read_lines
lines_are top k s [] = fine [] tt
lines_are top k s (l ∷ ls) = by (one_line top s k l) (line.line_is top s l k) (λ u. lines_are top (suc k) u ls)
  where
    by : (o : Outcome) → line.LineIs top s l k o → ((u : Draft) → LinesAre top (suc k) u ls (read_lines top (suc k) u ls)) → LinesAre top k s (l ∷ ls) (elim o as (λ x. Outcome) [ refused g j ↦ refused g j | read u ↦ read_lines top (suc k) u ls ])
    by o (line.faulty g f) rec =
        faulty g k (record { before = []; line = l; behind = ls; split = refl; trees = []; fine = tt; fault = f; number = omega arith })
    by o (line.fine x spelt free) rec = on (read_lines top (suc k) (after top s x) ls) (rec (after top s x))
      where
        on : (o : Outcome) → LinesAre top (suc k) (after top s x) ls o → LinesAre top k s (l ∷ ls) o
        on o (faulty g j r) =
            faulty g j
            (record {
              before = l ∷ r.before;
              line = r.line;
              behind = r.behind;
              split = ap (λ (us : List (List ℕ)). l ∷ us) r.split;
              trees = x ∷ r.trees;
              fine = (spelt, free, r.fine);
              fault = r.fault;
              number = omega (arith, r.number);
            })
        on o (fine xs f) = fine (x ∷ xs) (spelt, free, f)

-- trees without a fault are read
pub lines_fine : (top k : ℕ) (s : Draft) (ls : List (List ℕ)) (xs : List Line) → FaultFree top s ls xs → read_lines top k s ls ≡ read (after_all top s xs)
lines_fine top k s [] [] f = lines_end top s k
lines_fine top k s [] (x ∷ xs) f = absurd f
lines_fine top k s (l ∷ ls) [] f = absurd f
lines_fine top k s (l ∷ ls) (x ∷ xs) f =
    lines_read top s k l ls (after top s x) (line.line_fine top s l k x f.0 f.1) ∙ lines_fine top (suc k) (after top s x) ls xs f.2

-- the first line with a fault refuses
fault_first : (top k : ℕ) (ls : List (List ℕ)) (n j : ℕ) → FirstFault top k ls n j → (g : Refusal) × (refusal_number g ≡ n) × (read_lines top k blank ls ≡ refused g j)
fault_first top k ls n j f =
    let m = k + length f.before in
    let s = draft_of top f.trees in
    let r = line.line_refused top s f.line m n f.fault in (
      r.0,
      r.1,
      ap (read_lines top k blank) f.split ∙ lines_append top k blank s f.before (f.line ∷ f.behind) (lines_fine top k blank f.before f.trees f.fine)
          ∙ lines_refused top s m f.line f.behind r.0 m r.2
          ∙ ap (refused r.0) (sym f.number),
    )

empty : (ns : List ℕ) → length ns ≡ 0 → ns ≡ []
empty [] e = refl
empty (n ∷ ns) e = absurd (omega arith)

module _ (t : List ℕ) where
  abbrev Refuses : Outcome → Type 0
  Refuses o = (g : Refusal) (j : ℕ) → o ≡ refused g j → RefusedAt t (refusal_number g) j

  -- an outcome that is this refusal
  told : (g : Refusal) (j : ℕ) → RefusedAt t (refusal_number g) j → Refuses (refused g j)
  told g j r h i e =
      let q : g ≡ h = cc in
      let n : j ≡ i = cc in
      subst (λ (x : Refusal). RefusedAt t (refusal_number x) i) q (subst (RefusedAt t (refusal_number g)) n r)

  module _ (b : bad_text t ≡ false) (v : ℕ) (is : first_line (line_of t 1) ≡ Some v) (known : other_version v ≡ false) where
    by_lines : (o : Outcome) → LinesAre (top_of v) 2 blank (behind_first (lines_of t)) o → Refuses (some_declared o)
    by_lines o (faulty g j r) =
        told g j
        (at_line b is known
        (record { before = r.before; line = r.line; behind = r.behind; split = r.split; trees = r.trees; fine = r.fine; fault = r.fault; number = r.number }))
    by_lines o (fine xs f) = by (eqb (length (draft_of (top_of v) xs).names) 0) refl
      where
        by : (x : Bool) → eqb (length (draft_of (top_of v) xs).names) 0 ≡ x → Refuses (cond x (refused Undeclared 0) (read (draft_of (top_of v) xs)))
        by true z =
            let e = empty (draft_of (top_of v) xs).names (eqb-true (length (draft_of (top_of v) xs).names) 0 z) in
            told Undeclared 0 (undeclared xs b is known f (sym (names_declared (top_of v) blank xs) ∙ e))
        by false z = λ g j e. absurd (let y : ◌≡◌ {A = ℕ} 0 1 = cc in omega arith)

  by_version_lem : bad_text t ≡ false → (w : Value) → first_line (line_of t 1) ≡ w → Refuses (by_version w t)
  by_version_lem b None v = told FirstLine 1 (first b v)
  by_version_lem b (Some k) v = by (other_version k) refl
    where
      by : (x : Bool) → other_version k ≡ x → Refuses (cond x (refused Version 1) (some_declared (read_lines (top_of k) 2 blank (behind_first (lines_of t)))))
      by true z = told Version 1 (version b v z)
      by false z = by_lines b k v z (read_lines (top_of k) 2 blank (behind_first (lines_of t))) (lines_are (top_of k) 2 blank (behind_first (lines_of t)))

  -- refused only on that ground, at that line
  pub grounds : (g : Refusal) (j : ℕ) → outcome_of t ≡ refused g j → RefusedAt t (refusal_number g) j
  unfolding outcome_of
  grounds = by (bad_text t) refl
    where
      by : (x : Bool) → bad_text t ≡ x → Refuses (cond x (refused Text 0) (by_version (first_line (line_of t 1)) t))
      by true b = told Text 0 (text b)
      by false b = by_version_lem b (first_line (line_of t 1)) refl

  -- and wherever that ground is met there
  pub grounds_back : {n j : ℕ} → RefusedAt t n j → (g : Refusal) × (refusal_number g ≡ n) × (outcome_of t ≡ refused g j)
  unfolding outcome_of
  grounds_back (text b) = (Text, refl, rw b)
  grounds_back (first b v) = (FirstLine, refl, rw (b, v))
  grounds_back (version b v z) = (Version, refl, rw (b, v, z))
  grounds_back {n} {j} (at_line {v} b is known f) = let r = fault_first (top_of v) 2 (behind_first (lines_of t)) n j f in (r.0, r.1, rw (b, is, known, r.2))
  grounds_back (undeclared {v} xs b is known f none) =
      let r = lines_fine (top_of v) 2 blank (behind_first (lines_of t)) xs f in
      let z : eqb (length (draft_of (top_of v) xs).names) 0 ≡ true = rw (names_declared (top_of v) blank xs, none) in
      (Undeclared, refl, rw (b, is, known, r, z))
