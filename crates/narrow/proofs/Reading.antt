-- A clause read position by position: those read that are not false, and those still to read, are the positions that are not false; none, one or a second one decides the cut.
use mathlib.Core.Path.{◌≡◌, refl, sym, ap, ◌∙◌}
use mathlib.Core.List.{List, [], ◌∷◌}
use mathlib.Core.Bool.{Bool, true, false}
use Prim.Native.Nat.{ℕ, ◌+◌, ◌*◌, ◌≤◌, ◌<◌}
use native.Mathlib.Omega.{arith}
use lib.ListN.{drop}
use lib.IntN.{ℤ}
use Rattle.problem.specs.Problem.{Box}
use Rattle.problem.specs.Lists.{literals_of}
use Rattle.problem.specs.inner.Placed.{literal_at}
use Rattle.problem.specs.declared.Literal.{Literal}
use Rattle.problem.proofs.Lists.{literals_at, literals_end}
use Rattle.narrow.specs.Narrowing.{is_false, open_of, literal_cut, unit_cut, clause_step}
use Rattle.narrow.specs.inner.Done.{Fine, Done}
use Rattle.narrow.specs.inner.Clause.{Lits}
use Rattle.narrow.specs.declared.Emptied.{Emptied}
use Rattle.std.specs.Prelude.{Result, Ok, Err}
use Rattle.narrow.proofs.Cutting.{next_at, done_stay, done_void}

-- ---- the positions that are not false
open_skip : (b : Box) (x : Literal) (ls : List Literal) → is_false b x ≡ true → open_of b (x ∷ ls) ≡ open_of b ls
unfolding open_of
open_skip b x ls e = rw e

open_take : (b : Box) (x : Literal) (ls : List Literal) → is_false b x ≡ false → open_of b (x ∷ ls) ≡ x ∷ open_of b ls
unfolding open_of
open_take b x ls e = rw e

-- the positions from k on that are not false
abbrev pub open_from : Box → List ℤ → ℕ → List Literal
open_from b l k = open_of b (literals_of (drop (3 * k) l))

-- k positions are read: none of them is not false, where only is n, and else just the one at only
pub record Read (b : Box) (l : List ℤ) (n only k : ℕ) : Type 0 where
  pub some : only ≤ n
  pub none : n ≤ only → open_from b l 0 ≡ open_from b l k
  pub one : only < n → open_from b l 0 ≡ literal_at l only ∷ open_from b l k

pub read_none : (b : Box) (l : List ℤ) (n : ℕ) → Read b l n n 0
read_none b l n = record { some = omega arith; none = λ _. refl; one = λ h. absurd (omega arith) }

module _ {b : Box} {l : List ℤ} {n only k : ℕ} (lits : Lits b l n) (read : Read b l n only k) (h : k < n) {x : Literal} (ex : x ≡ literal_at l k) where
  here : open_from b l k ≡ open_of b (literal_at l k ∷ literals_of (drop (3 * (k + 1)) l))
  here = ap (open_of b) (literals_at l k (omega (arith, lits.long)))

  is : {t : Bool} → t ≡ is_false b x → is_false b (literal_at l k) ≡ t
  is e = sym (ap (is_false b) ex) ∙ sym e

  skip : true ≡ is_false b x → open_from b l k ≡ open_from b l (k + 1)
  skip e = here ∙ open_skip b (literal_at l k) (literals_of (drop (3 * (k + 1)) l)) (is e)

  take : false ≡ is_false b x → open_from b l k ≡ literal_at l k ∷ open_from b l (k + 1)
  take e = here ∙ open_take b (literal_at l k) (literals_of (drop (3 * (k + 1)) l)) (is e)

  -- one position more is read: it is false, or it is the first that is not
  pub read_false : true ≡ is_false b x → Read b l n only (k + 1)
  read_false e = record {
    some = read.some;
    none = λ g. read.none g ∙ skip e;
    one = λ g. read.one g ∙ ap (λ (ls : List Literal). literal_at l only ∷ ls) (skip e);
  }

  pub read_open : false ≡ is_false b x → n ≤ only → Read b l n k (k + 1)
  read_open e g = record { some = omega arith; none = λ f. absurd (omega arith); one = λ _. read.none g ∙ take e }

  -- or it is a second one
  pub read_many : (p : Bool) → Fine b → false ≡ is_false b x → only < n → Done (clause_step (literals_of l) ∷ []) p b (Ok p) b
  read_many p f e g = done_stay (clause_step (literals_of l)) p b f (ap (unit_cut b) (read.one g ∙ ap (λ (ls : List Literal). literal_at l only ∷ ls) (take e)))

-- ---- the clause, when all positions are read
module _ {b : Box} {l : List ℤ} {n k : ℕ} (lits : Lits b l n) (all : n ≤ k) (p : Bool) where
  rest : open_from b l k ≡ []
  unfolding open_of
  rest = ap (open_of b) (literals_end l k (omega (arith, lits.long)))

  -- the one that is not false decides, at whatever position it stands
  pub clause_at : (i : ℕ) → open_from b l 0 ≡ literal_at l i ∷ open_from b l k → {x : Literal} → x ≡ literal_at l i → {r : Result Bool Emptied} {b' : Box} → Done ((λ c. literal_cut c x) ∷ []) p b r b' → Done (clause_step (literals_of l) ∷ []) p b r b'
  clause_at i one {x} ex {r} {b'} d = record {
    says = d.says
        ∙ sym (next_at (λ c. literal_cut c x) (literal_cut b (literal_at l i)) p b (ap (literal_cut b) ex))
        ∙ next_at (clause_step (literals_of l)) (literal_cut b (literal_at l i)) p b (ap (unit_cut b) (one ∙ ap (λ (ls : List Literal). literal_at l i ∷ ls) rest));
    fine = d.fine;
  }

module _ {b : Box} {l : List ℤ} {n only k : ℕ} (lits : Lits b l n) (read : Read b l n only k) (all : n ≤ k) (p : Bool) where
  pub clause_none : Fine b → n ≤ only → Done (clause_step (literals_of l) ∷ []) p b (Err (record {})) b
  clause_none f g = done_void (clause_step (literals_of l)) p b f (ap (unit_cut b) (read.none g ∙ rest lits all p))

  pub clause_one : only < n → {x : Literal} → x ≡ literal_at l only → {r : Result Bool Emptied} {b' : Box} → Done ((λ c. literal_cut c x) ∷ []) p b r b' → Done (clause_step (literals_of l) ∷ []) p b r b'
  clause_one g = clause_at lits all p only (read.one g)
