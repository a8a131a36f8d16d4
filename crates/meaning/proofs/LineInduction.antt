-- What holds before the first line and is carried on by each line holds of the sheet read, with the trees that its lines spell: by induction over the lines.
use mathlib.Core.Path.{◌≡◌, refl, sym, ap₂, subst, ◌∙◌}
use mathlib.Core.List.{List, [], ◌∷◌, ◌++◌, map, append_assoc, append-nil}
use Prim.Native.Nat.{ℕ, suc}
use native.Mathlib.Omega.{arith}
use Rattle.sheet.specs.Tokens.{tokens_of}
use Rattle.sheet.specs.Grammar.{Line, ranged, default, must, when, spell_line}
use Rattle.sheet.proofs.SpellingLines.{reads_exactly}
use Rattle.meaning.specs.Draft.{Draft, after, after_all, declared_in}
use Rattle.meaning.specs.Grounds.{Outcome, refused, read, one_line, read_lines}
use Rattle.meaning.proofs.Faultless.{Faultless, line_read}

pub after_one_more : (top : ℕ) (s : Draft) (ls : List Line) (l : Line) → after_all top s (ls ++ (l ∷ [])) ≡ after top (after_all top s ls) l
after_one_more top s [] l = refl
after_one_more top s (x ∷ ls) l = after_one_more top (after top s x) ls l

-- the names of a draft are those of the range lines that made it
pub names_declared : (top : ℕ) (s : Draft) (xs : List Line) → (after_all top s xs).names ≡ s.names ++ declared_in xs
unfolding after declared_in
names_declared top s [] = sym (append-nil s.names)
names_declared top s (ranged n low high ∷ xs) = names_declared top (after top s (ranged n low high)) xs ∙ append_assoc s.names (n ∷ []) (declared_in xs)
names_declared top s (default n ∷ xs) = names_declared top (after top s (default n)) xs ∙ append_assoc s.names (n ∷ []) (declared_in xs)
names_declared top s (must d ds ∷ xs) = names_declared top (after top s (must d ds)) xs
names_declared top s (when c cs d ds ∷ xs) = names_declared top (after top s (when c cs d ds)) xs

module _ (top : ℕ) (I : List Line → Draft → Type 0)
    (step : (ls : List Line) (s : Draft) (t : List ℕ) (l : Line) → I ls s → tokens_of t ≡ spell_line l → Faultless top s l → I (ls ++ (l ∷ [])) (after top s l)) where
  abbrev Found : List (List ℕ) → List Line → Draft → Type 0
  Found ts ls s' = (more : List Line) × (map tokens_of ts ≡ map spell_line more) × I (ls ++ more) s'

  pub by_lines : (ts : List (List ℕ)) (k : ℕ) (s s' : Draft) (ls : List Line) → I ls s → read_lines top k s ts ≡ read s' → Found ts ls s'
  unfolding read_lines
  by_lines [] k s s' ls i e = let f : s ≡ s' = cc in ([], refl, subst (I (ls ++ [])) f (subst (λ (m : List Line). I m s) (sym (append-nil ls)) i))
  by_lines (t ∷ ts) k s s' ls i e = go (one_line top s k t) refl e (by_lines ts (suc k))
    where
      go : (o : Outcome) → one_line top s k t ≡ o → (elim o as (λ x. Outcome) [ refused g j ↦ refused g j | read u ↦ read_lines top (suc k) u ts ]) ≡ read s' → ((u s' : Draft) (ls : List Line) → I ls u → read_lines top (suc k) u ts ≡ read s' → Found ts ls s') → Found (t ∷ ts) ls s'
      go (refused g j) f h rec = absurd (let z : ◌≡◌ {A = ℕ} 0 1 = cc in omega arith)
      go (read u) f h rec =
          let r = line_read top s k t u f in
          let l = r.line in
          let spelt = (reads_exactly t l).0 r.tree in
          let j : I (ls ++ (l ∷ [])) u = subst (I (ls ++ (l ∷ []))) (sym r.next) (step ls s t l i spelt r.fine) in
          let m = rec u s' (ls ++ (l ∷ [])) j h in
          (l ∷ m.0, ap₂ ◌∷◌ spelt m.1, subst (λ (x : List Line). I x s') (append_assoc ls (l ∷ []) m.0) m.2)
