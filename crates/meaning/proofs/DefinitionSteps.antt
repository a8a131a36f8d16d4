-- One step of reading and of emission at a time: each law is the definition's own clause, or an append regrouped.
use mathlib.Core.Path.{◌≡◌, refl, ap, ap₂, ◌∙◌}
use mathlib.Core.List.{List, [], ◌∷◌, ◌++◌, append-nil}
use Prim.Native.Nat.{ℕ, suc, ◌+◌}
use native.Mathlib.Omega.{arith}
use lib.ListN.{length, length-append}
use Rattle.whole.specs.declared.Range.{Range}
use Rattle.problem.specs.declared.Literal.{Literal}
use Rattle.sheet.specs.Grammar.{Line}
use Rattle.meaning.specs.Plain.{Tree, constant, quantity, binary, square, Asked, asks_of}
use Rattle.meaning.specs.Translation.{size_of, piece_of, gap_of, first, second, equalities, gaps, clause_of, one_or_two, rule_of}
use Rattle.meaning.specs.Draft.{Draft, quantities_in, rule}
use Rattle.meaning.specs.Grounds.{Outcome, refused, read, one_line, read_lines}
use Rattle.meaning.specs.declared.Refusal.{Refusal}
use Rattle.meaning.proofs.Definitions.{sizes, opened}
use Rattle.meaning.proofs.Rules.{rule_size}

-- ---- a line more
module _ (top : ℕ) (s : Draft) where
  module _ (k : ℕ) (t : List ℕ) where
    pub lines_refused : (ts : List (List ℕ)) (g : Refusal) (j : ℕ) → one_line top s k t ≡ refused g j → read_lines top k s (t ∷ ts) ≡ refused g j
    unfolding read_lines
    lines_refused ts g j e = rw (e, read_lines)

    pub lines_read : (ts : List (List ℕ)) (s' : Draft) → one_line top s k t ≡ read s' → read_lines top k s (t ∷ ts) ≡ read_lines top (suc k) s' ts
    unfolding read_lines
    lines_read ts s' e = rw (e, read_lines)

  pub lines_end : (k : ℕ) → read_lines top k s [] ≡ read s
  unfolding read_lines
  lines_end k = refl

-- lines in two parts
abbrev Next : ℕ → ℕ → List (List ℕ) → Outcome → Outcome
Next top k ts o = elim o [ refused g j ↦ refused g j | read u ↦ read_lines top k u ts ]

pub lines_append : (top k : ℕ) (s s₁ : Draft) (ts us : List (List ℕ)) → read_lines top k s ts ≡ read s₁ → read_lines top k s (ts ++ us) ≡ read_lines top (k + length ts) s₁ us
unfolding read_lines
lines_append top k s s₁ [] us e = let f : s ≡ s₁ = cc in ap₂ (λ (j : ℕ) (u : Draft). read_lines top j u us) (omega arith) f
lines_append top k s s₁ (t ∷ ts) us e = go (one_line top s k t) e (λ u. lines_append top (suc k) u s₁ ts us)
  where
    go : (o : Outcome) → Next top (suc k) ts o ≡ read s₁ → ((u : Draft) → read_lines top (suc k) u ts ≡ read s₁ → read_lines top (suc k) u (ts ++ us) ≡ read_lines top (suc k + length ts) s₁ us) → Next top (suc k) (ts ++ us) o ≡ read_lines top (k + suc (length ts)) s₁ us
    go (refused g j) h f = absurd (let z : ◌≡◌ {A = ℕ} 0 1 = cc in omega arith)
    go (read u) h f = f u h ∙ ap (λ (j : ℕ). read_lines top j s₁ us) (omega arith)

-- how many quantities there are then
pub rule_quantities : (s : Draft) (l : Line) → quantities_in (rule s l) ≡ quantities_in s + sizes (asks_of s.names l)
rule_quantities s l =
    let asked = asks_of s.names l in
    omega (arith, length-append s.made.ranges (rule_of s.declared (quantities_in s) asked).ranges, rule_size s.declared (quantities_in s) asked)

-- trees make no clauses
pub piece_clauses : (d : List Range) (k : ℕ) (t : Tree) → (piece_of d k t).clauses ≡ []
unfolding opened
piece_clauses d k (constant n) = refl
piece_clauses d k (quantity q) = refl
piece_clauses d k (binary o a b) = rw (piece_clauses d k a, piece_clauses d (k + size_of a) b)
piece_clauses d k (square a) = rw (piece_clauses d k a)

pub gaps_clauses : (d : List Range) (k : ℕ) (asked : List Asked) → (gaps d k asked).clauses ≡ []
unfolding gaps
gaps_clauses d k [] = refl
gaps_clauses d k (a ∷ more) = ap₂ ◌++◌ (piece_clauses d k (gap_of a)) (gaps_clauses d (k + size_of (gap_of a)) more)

-- ---- what a rule makes: the helpers and primitives of its differences, and one clause or two
module _ (d : List Range) (k : ℕ) (asked : List Asked) where
  pub rule_ranges : (rule_of d k asked).ranges ≡ (gaps d k asked).ranges
  unfolding rule_of
  rule_ranges = append-nil (gaps d k asked).ranges

  pub rule_primitives : (rule_of d k asked).primitives ≡ (gaps d k asked).primitives
  unfolding rule_of
  rule_primitives = append-nil (gaps d k asked).primitives

  pub rule_clauses : (rule_of d k asked).clauses ≡ one_or_two (equalities asked) (clause_of first k asked) (clause_of second k asked)
  unfolding rule_of
  rule_clauses = ap (λ (x : List (List Literal)). x ++ one_or_two (equalities asked) (clause_of first k asked) (clause_of second k asked)) (gaps_clauses d k asked)
