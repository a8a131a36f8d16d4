-- Each function that reads a part of an expression and writes it out, as a fact about the readings: from what its callees made to what it
-- makes. The readings match on the kind of the first token as the code does, a bound that is large enough at a place is large enough at each
-- later one, and what a tree writes is what its parts write, one after the other.
use mathlib.Core.Path.{◌≡◌, refl, sym, ◌∙◌, ap, subst}
use mathlib.Core.Bool.{Bool, true, false, cond}
use mathlib.Core.List.{List}
use mathlib.Core.Option.{Option, none, some}
use Prim.Native.Nat.{ℕ, zero, suc, ◌+◌, ◌*◌, ◌≤◌, ◌<◌}
use native.Mathlib.Nat.{le_refl}
use native.Mathlib.Omega.{arith}
use lib.Dec.{eqb}
use lib.IntN.{ℤ}
use lib.ListN.{length}
use borrow.Author.Tests.{ne_eqb, eqb-true, eqb-false}
use Rattle.std.specs.Prelude as code
use Rattle.std.specs.Prelude.{Some, None}
use Rattle.whole.specs.inner.Held.{Good}
use Rattle.sheet.specs.Grammar.{Expr, one, plus, minus, Term, lone, times, Factor, Atom, number, name}
use Rattle.sheet.specs.Reading.{head_of, rest_of, head_no, Read, and_then, maybe_squared, closed, expr_f, sum_f, term_f, prod_f, factor_f, atom_f}
use Rattle.sheet.specs.inner.Steps.{tokens_from}
use Rattle.sheet.specs.declared.Token.{Token}
use Rattle.sheet.specs.declared.Token.TheVariants.{Number, Name}
use Rattle.meaning.specs.Plain.{Operation, sum, difference, product, Tree, constant, quantity, binary, square, place_of, plain_e, plain_t, plain_f, plain_a}
use Rattle.lines.specs.inner.Emission.{Emit, emitted_as, Emits, joined, squared_of, emit, emitted, made_as, GoodHeld, Makes}
use Rattle.lines.specs.declared.parts.Making.{Making}
use Rattle.lines.specs.declared.parts.Emitted.{Emitted}
use Rattle.lines.specs.declared.parts.Made.{Made}
use Rattle.sheet.proofs.Heads.{sum_plus, sum_minus, sum_stop, prod_times, prod_stop}
use Rattle.lines.proofs.FirstTokens.{longer, atom_open}

no_at : {T : Type 0} (m : Made) → None ≡ Some m → T
no_at m e = let z : ◌≡◌ {A = ℕ} 0 1 = cc in absurd (omega arith)

-- ---- one reading after the other
pub then_none : {A B C D : Type 0} (f : A → C) (h : B → D) (o : Read A) (g : A → List Token → Read B) → none ≡ emitted f o → none ≡ emitted h (and_then o g)
then_none f h none g e = refl
then_none f h (some p) g e = let z : ◌≡◌ {A = ℕ} 0 1 = cc in absurd (omega arith)

abbrev pub rest_in : {C : Type 0} → List Token → Option (C × List Token) → List Token
rest_in d none = d
rest_in d (some p) = p.1

abbrev pub made_in : {C : Type 0} → C → Option (C × List Token) → C
made_in d none = d
made_in d (some p) = p.0

pub then_made : {A B C D : Type 0} (f : A → C) (h : B → D) (o : Read A) (g : A → List Token → Read B) (x : Option (D × List Token)) (s : C) (ts : List Token) → ◌≡◌ {A = Option (C × List Token)} (some (s, ts)) (emitted f o) → ((a : A) → f a ≡ s → x ≡ emitted h (g a ts)) → x ≡ emitted h (and_then o g)
then_made f h none g x s ts e k = let z : ◌≡◌ {A = ℕ} 0 1 = cc in absurd (omega arith)
then_made f h (some p) g x s ts e k =
    let q : ts ≡ p.1 = ap (rest_in ts) e in
    let r : f p.0 ≡ s = sym (ap (made_in s) e) in
    subst (λ (us : List Token). x ≡ emitted h (g p.0 us)) q (k p.0 r)

-- ---- what an operation writes: what its operands write, left first, and its helper
module _ (d : ℕ) (rs ps : List ℤ) (m : Making) where
  pub emit_binary : (o : Operation) (a b : Tree) (x y : Emit) → emit d a rs ps m ≡ x → emit d b x.ranges x.primitives x.making ≡ y → emit d (binary o a b) rs ps m ≡ joined o x.held y
  unfolding emit
  emit_binary o a b x y e f = rw (e, f)

  emit_square : (a : Tree) (x : Emit) → emit d a rs ps m ≡ x → emit d (square a) rs ps m ≡ squared_of x
  unfolding emit
  emit_square a x e = rw e

-- `+` or `-`: the tree that the sign makes, and its reading
sum_more : (ns : List ℕ) (ts : List Token) → 6 ≤ head_no ts → head_no ts ≤ 7 → (join : Expr → Term → Expr) × ((e : Expr) (t : Term) → plain_e ns (join e t) ≡ binary (cond (eqb (head_no ts) 6) sum difference) (plain_e ns e) (plain_t ns t)) × ((k : ℕ) (e : Expr) → sum_f (suc k) e ts ≡ and_then (term_f k (rest_of ts)) (λ t rest. sum_f k (join e t) rest))
unfolding plain_e
sum_more ns ts a b = by (eqb (head_no ts) 6) refl
  where
    by : (t : Bool) → eqb (head_no ts) 6 ≡ t → (join : Expr → Term → Expr) × ((e : Expr) (t : Term) → plain_e ns (join e t) ≡ binary (cond (eqb (head_no ts) 6) sum difference) (plain_e ns e) (plain_t ns t)) × ((k : ℕ) (e : Expr) → sum_f (suc k) e ts ≡ and_then (term_f k (rest_of ts)) (λ t rest. sum_f k (join e t) rest))
    by true q = ((λ e t. plus e t), (λ e t. rw q), λ k e. sum_plus k ts e (eqb-true (head_no ts) 6 q))
    by false q = ((λ e t. minus e t), (λ e t. rw q), λ k e. sum_minus k ts e (let h = eqb-false (head_no ts) 6 q in omega arith))

-- ---- a reading that goes on from a tree, whose helpers are written
pub record MakesOn {A : Type 0} (f : ℕ → A → List Token → Read A) (plain : A → Tree) (rank d : ℕ) (l : List ℕ) (at : ℕ) (e : Emit) (r : code.Option Made) (rs' ps' : List ℤ) : Type 0 where
  pub agrees : (acc : A) (rs ps : List ℤ) (m : Making) → emit d (plain acc) rs ps m ≡ e → (k : ℕ) → 8 * length (tokens_from l at) + rank ≤ k → made_as l r rs' ps' ≡ emitted (λ a. emit d (plain a) rs ps m) (f k acc (tokens_from l at))
  pub falls : (m' : Made) → r ≡ Some m' → length (tokens_from l m'.next) ≤ length (tokens_from l at)
  pub good : (m' : Made) → r ≡ Some m' → GoodHeld m'.emitted.held

-- a loop that reads on, at place i with e in hand: whatever it answers from here on is the answer from the loop's start on
pub record Going {A : Type 0} (f : ℕ → A → List Token → Read A) (plain : A → Tree) (rank d : ℕ) (l : List ℕ) (i₀ : ℕ) (e₀ : Emitted) (rs₀ ps₀ : List ℤ) (i : ℕ) (e : Emitted) (rs ps : List ℤ) : Type 0 where
  pub falls : length (tokens_from l i) ≤ length (tokens_from l i₀)
  pub good : Good e.held.span
  pub on : (r : code.Option Made) (rs' ps' : List ℤ) → MakesOn f plain rank d l i (emitted_as e rs ps) r rs' ps' → MakesOn f plain rank d l i₀ (emitted_as e₀ rs₀ ps₀) r rs' ps'

pub start : {A : Type 0} (f : ℕ → A → List Token → Read A) (plain : A → Tree) (rank d : ℕ) (l : List ℕ) (i : ℕ) (e : Emitted) (rs ps : List ℤ) → Good e.held.span → Going f plain rank d l i e rs ps i e rs ps
start f plain rank d l i e rs ps g = record { falls = le_refl _; good = g; on = λ r rs' ps' h. h }

-- ---- what each part of an expression writes, its names replaced by their places among the declared ones
module _ (ns : List ℕ) (rs ps : List ℤ) (m : Making) where
  abbrev pub write_e : Expr → Emit
  write_e a = emit (length ns) (plain_e ns a) rs ps m

  abbrev pub write_t : Term → Emit
  write_t a = emit (length ns) (plain_t ns a) rs ps m

  abbrev pub write_f : Factor → Emit
  write_f a = emit (length ns) (plain_f ns a) rs ps m

  abbrev pub write_a : Atom → Emit
  write_a a = emit (length ns) (plain_a ns a) rs ps m

-- what was made and is in hand
abbrev pub upto : ℕ → Emitted → code.Option Made
upto n e = Some (record { next = n; emitted = e })

upto_falls : (P : ℕ → Type 0) (n : ℕ) (e : Emitted) (m : Made) → upto n e ≡ Some m → P n → P m.next
upto_falls P n e m q p = let z : n ≡ m.next = cc in subst P z p

upto_good : (n : ℕ) (e : Emitted) (m : Made) → upto n e ≡ Some m → Good e.held.span → GoodHeld m.emitted.held
upto_good n e m q p = let z : e.held ≡ m.emitted.held = cc in subst GoodHeld z p

-- ---- a part that is read first: where it is not there, nothing is, and what is behind it goes on
module _ (ns l : List ℕ) (at : ℕ) (m : Making) (rs ps : List ℤ) where
  pub expr_no : (rs1 ps1 : List ℤ) → Makes term_f (plain_t ns) 4 (length ns) l at m rs ps None rs1 ps1 → Makes expr_f (plain_e ns) 6 (length ns) l at m rs ps None rs1 ps1
  unfolding expr_f
  expr_no rs1 ps1 h = record { agrees = go; falls = λ n z. no_at n z; good = λ n z. no_at n z }
    where
      go : (k : ℕ) → 8 * length (tokens_from l at) + 6 ≤ k → none ≡ emitted (write_e ns rs ps m) (expr_f k (tokens_from l at))
      go zero b = absurd (omega arith)
      go (suc k) b = then_none (write_t ns rs ps m) (write_e ns rs ps m) (term_f k (tokens_from l at)) _ (h.agrees k (omega arith))

  pub term_no : (rs1 ps1 : List ℤ) → Makes factor_f (plain_f ns) 2 (length ns) l at m rs ps None rs1 ps1 → Makes term_f (plain_t ns) 4 (length ns) l at m rs ps None rs1 ps1
  unfolding expr_f
  term_no rs1 ps1 h = record { agrees = go; falls = λ n z. no_at n z; good = λ n z. no_at n z }
    where
      go : (k : ℕ) → 8 * length (tokens_from l at) + 4 ≤ k → none ≡ emitted (write_t ns rs ps m) (term_f k (tokens_from l at))
      go zero b = absurd (omega arith)
      go (suc k) b = then_none (write_f ns rs ps m) (write_t ns rs ps m) (factor_f k (tokens_from l at)) _ (h.agrees k (omega arith))

  pub factor_no : (rs1 ps1 : List ℤ) → Makes atom_f (plain_a ns) 1 (length ns) l at m rs ps None rs1 ps1 → Makes factor_f (plain_f ns) 2 (length ns) l at m rs ps None rs1 ps1
  unfolding expr_f
  factor_no rs1 ps1 h = record { agrees = go; falls = λ n z. no_at n z; good = λ n z. no_at n z }
    where
      go : (k : ℕ) → 8 * length (tokens_from l at) + 2 ≤ k → none ≡ emitted (write_f ns rs ps m) (factor_f k (tokens_from l at))
      go zero b = absurd (omega arith)
      go (suc k) b = then_none (write_a ns rs ps m) (write_f ns rs ps m) (atom_f k (tokens_from l at)) _ (h.agrees k (omega arith))

  module _ (i : ℕ) (e : Emitted) (rs1 ps1 : List ℤ) where
    pub expr_on : (r : code.Option Made) (rs2 ps2 : List ℤ) → Makes term_f (plain_t ns) 4 (length ns) l at m rs ps (upto i e) rs1 ps1 → MakesOn sum_f (plain_e ns) 5 (length ns) l i (emitted_as e rs1 ps1) r rs2 ps2 → Makes expr_f (plain_e ns) 6 (length ns) l at m rs ps r rs2 ps2
    unfolding expr_f plain_e
    expr_on r rs2 ps2 h g = record { agrees = go; falls = λ n z. let a = h.falls _ refl in let b = g.falls n z in omega arith; good = g.good }
      where
        go : (k : ℕ) → 8 * length (tokens_from l at) + 6 ≤ k → made_as l r rs2 ps2 ≡ emitted (write_e ns rs ps m) (expr_f k (tokens_from l at))
        go zero b = absurd (omega arith)
        go (suc k) b =
            let a = h.falls _ refl in
            then_made (write_t ns rs ps m) (write_e ns rs ps m) (term_f k (tokens_from l at)) (λ t rest. sum_f k (one t) rest) (made_as l r rs2 ps2) (emitted_as e rs1 ps1) (tokens_from l i) (h.agrees k (omega arith)) (λ t z. g.agrees (one t) rs ps m z k (omega arith))

    pub term_on : (r : code.Option Made) (rs2 ps2 : List ℤ) → Makes factor_f (plain_f ns) 2 (length ns) l at m rs ps (upto i e) rs1 ps1 → MakesOn prod_f (plain_t ns) 3 (length ns) l i (emitted_as e rs1 ps1) r rs2 ps2 → Makes term_f (plain_t ns) 4 (length ns) l at m rs ps r rs2 ps2
    unfolding expr_f plain_e
    term_on r rs2 ps2 h g = record { agrees = go; falls = λ n z. let a = h.falls _ refl in let b = g.falls n z in omega arith; good = g.good }
      where
        go : (k : ℕ) → 8 * length (tokens_from l at) + 4 ≤ k → made_as l r rs2 ps2 ≡ emitted (write_t ns rs ps m) (term_f k (tokens_from l at))
        go zero b = absurd (omega arith)
        go (suc k) b =
            let a = h.falls _ refl in
            then_made (write_f ns rs ps m) (write_t ns rs ps m) (factor_f k (tokens_from l at)) (λ f rest. prod_f k (lone f) rest) (made_as l r rs2 ps2) (emitted_as e rs1 ps1) (tokens_from l i) (h.agrees k (omega arith)) (λ t z. g.agrees (lone t) rs ps m z k (omega arith))

    -- ---- factors
    pub factor_square : (e2 : Emitted) (rs2 ps2 : List ℤ) (nx : ℕ) → Makes atom_f (plain_a ns) 1 (length ns) l at m rs ps (upto i e) rs1 ps1 → head_no (tokens_from l i) ≡ 9 → tokens_from l nx ≡ rest_of (tokens_from l i) → Emits (squared_of (emitted_as e rs1 ps1)) e2 rs2 ps2 → Makes factor_f (plain_f ns) 2 (length ns) l at m rs ps (upto nx e2) rs2 ps2
    unfolding expr_f plain_e
    factor_square e2 rs2 ps2 nx h d q s = record {
      agrees = go;
      falls = λ n z. upto_falls (λ j. length (tokens_from l j) < length (tokens_from l at)) nx e2 n z (let a = h.falls _ refl in let len = longer (tokens_from l i) (omega arith) in let len2 = ap length q in omega arith);
      good = λ n z. upto_good nx e2 n z s.good;
    }
      where
        go : (k : ℕ) → 8 * length (tokens_from l at) + 2 ≤ k → made_as l (upto nx e2) rs2 ps2 ≡ emitted (write_f ns rs ps m) (factor_f k (tokens_from l at))
        go zero b = absurd (omega arith)
        go (suc k) b =
            then_made (write_a ns rs ps m) (write_f ns rs ps m) (atom_f k (tokens_from l at)) maybe_squared (made_as l (upto nx e2) rs2 ps2) (emitted_as e rs1 ps1) (tokens_from l i) (h.agrees k (omega arith))
            (λ a z. rw (d, q, s.is, emit_square (length ns) rs ps m (plain_a ns a) (emitted_as e rs1 ps1) z))

    pub factor_bare : Makes atom_f (plain_a ns) 1 (length ns) l at m rs ps (upto i e) rs1 ps1 → (head_no (tokens_from l i) ≡ 9 → ⊥) → Makes factor_f (plain_f ns) 2 (length ns) l at m rs ps (upto i e) rs1 ps1
    unfolding expr_f plain_e
    factor_bare h d = record { agrees = go; falls = h.falls; good = h.good }
      where
        go : (k : ℕ) → 8 * length (tokens_from l at) + 2 ≤ k → made_as l (upto i e) rs1 ps1 ≡ emitted (write_f ns rs ps m) (factor_f k (tokens_from l at))
        go zero b = absurd (omega arith)
        go (suc k) b =
            then_made (write_a ns rs ps m) (write_f ns rs ps m) (atom_f k (tokens_from l at)) maybe_squared (made_as l (upto i e) rs1 ps1) (emitted_as e rs1 ps1) (tokens_from l i) (h.agrees k (omega arith))
            (λ a z. rw (ne_eqb (head_no (tokens_from l i)) 9 d, z))

  -- ---- atoms
  atom_one : (a : Atom) (nx : ℕ) (e : Emitted) (rs1 ps1 : List ℤ) → ((k : ℕ) → atom_f (suc k) (tokens_from l at) ≡ some (a, rest_of (tokens_from l at))) → 0 < head_no (tokens_from l at) → tokens_from l nx ≡ rest_of (tokens_from l at) → Emits (write_a ns rs ps m a) e rs1 ps1 → Makes atom_f (plain_a ns) 1 (length ns) l at m rs ps (upto nx e) rs1 ps1
  atom_one a nx e rs1 ps1 f d q s = record {
    agrees = go;
    falls = λ n z. upto_falls (λ j. length (tokens_from l j) < length (tokens_from l at)) nx e n z (let len = longer (tokens_from l at) d in let len2 = ap length q in omega arith);
    good = λ n z. upto_good nx e n z s.good;
  }
    where
      go : (k : ℕ) → 8 * length (tokens_from l at) + 1 ≤ k → made_as l (upto nx e) rs1 ps1 ≡ emitted (write_a ns rs ps m) (atom_f k (tokens_from l at))
      go zero b = absurd (omega arith)
      go (suc k) b = rw (f k, q, s.is)

  pub atom_number : (n nx : ℕ) (e : Emitted) (rs1 ps1 : List ℤ) → head_of (tokens_from l at) ≡ Number n → tokens_from l nx ≡ rest_of (tokens_from l at) → Emits (emit (length ns) (constant n) rs ps m) e rs1 ps1 → Makes atom_f (plain_a ns) 1 (length ns) l at m rs ps (upto nx e) rs1 ps1
  unfolding expr_f plain_e
  atom_number n nx e rs1 ps1 d q s = atom_one (number n) nx e rs1 ps1 (λ k. rw d) (rw d (omega arith)) q s

  pub atom_name : (n nx : ℕ) (e : Emitted) (rs1 ps1 : List ℤ) → head_of (tokens_from l at) ≡ Name n → tokens_from l nx ≡ rest_of (tokens_from l at) → Emits (emit (length ns) (quantity (place_of ns n)) rs ps m) e rs1 ps1 → Makes atom_f (plain_a ns) 1 (length ns) l at m rs ps (upto nx e) rs1 ps1
  unfolding expr_f plain_e
  atom_name n nx e rs1 ps1 d q s = atom_one (name n) nx e rs1 ps1 (λ k. rw d) (rw d (omega arith)) q s

  pub atom_none : ((k : ℕ) → atom_f (suc k) (tokens_from l at) ≡ none) → Makes atom_f (plain_a ns) 1 (length ns) l at m rs ps None rs ps
  atom_none f = record { agrees = go; falls = λ n z. no_at n z; good = λ n z. no_at n z }
    where
      go : (k : ℕ) → 8 * length (tokens_from l at) + 1 ≤ k → none ≡ emitted (write_a ns rs ps m) (atom_f k (tokens_from l at))
      go zero b = absurd (omega arith)
      go (suc k) b = rw (f k)

  module _ (nx : ℕ) (rs1 ps1 : List ℤ) (d : head_no (tokens_from l at) ≡ 4) (q : tokens_from l nx ≡ rest_of (tokens_from l at)) where
    pub atom_unread : Makes expr_f (plain_e ns) 6 (length ns) l nx m rs ps None rs1 ps1 → Makes atom_f (plain_a ns) 1 (length ns) l at m rs ps None rs1 ps1
    atom_unread h = record { agrees = go; falls = λ n z. no_at n z; good = λ n z. no_at n z }
      where
        go : (k : ℕ) → 8 * length (tokens_from l at) + 1 ≤ k → none ≡ emitted (write_a ns rs ps m) (atom_f k (tokens_from l at))
        go zero b = absurd (omega arith)
        go (suc k) b =
            let len = longer (tokens_from l at) (omega arith) in
            let len2 = ap length q in
            rw (atom_open k (tokens_from l at) d) (then_none (write_e ns rs ps m) (write_a ns rs ps m) (expr_f k (rest_of (tokens_from l at))) closed (rw q at (h.agrees k (omega arith))))

    pub atom_unclosed : (i : ℕ) (e : Emitted) → Makes expr_f (plain_e ns) 6 (length ns) l nx m rs ps (upto i e) rs1 ps1 → (head_no (tokens_from l i) ≡ 5 → ⊥) → Makes atom_f (plain_a ns) 1 (length ns) l at m rs ps None rs1 ps1
    atom_unclosed i e h f = record { agrees = go; falls = λ n z. no_at n z; good = λ n z. no_at n z }
      where
        go : (k : ℕ) → 8 * length (tokens_from l at) + 1 ≤ k → none ≡ emitted (write_a ns rs ps m) (atom_f k (tokens_from l at))
        go zero b = absurd (omega arith)
        go (suc k) b =
            let len = longer (tokens_from l at) (omega arith) in
            let len2 = ap length q in
            rw (atom_open k (tokens_from l at) d)
            (then_made (write_e ns rs ps m) (write_a ns rs ps m) (expr_f k (rest_of (tokens_from l at))) closed none (emitted_as e rs1 ps1) (tokens_from l i) (rw q at (h.agrees k (omega arith)))
            (λ a z. rw (ne_eqb (head_no (tokens_from l i)) 5 f)))

    pub atom_close : (i n2 : ℕ) (e : Emitted) → Makes expr_f (plain_e ns) 6 (length ns) l nx m rs ps (upto i e) rs1 ps1 → head_no (tokens_from l i) ≡ 5 → tokens_from l n2 ≡ rest_of (tokens_from l i) → Makes atom_f (plain_a ns) 1 (length ns) l at m rs ps (upto n2 e) rs1 ps1
    unfolding plain_e
    atom_close i n2 e h f p = record {
      agrees = go;
      falls = λ n z. upto_falls (λ j. length (tokens_from l j) < length (tokens_from l at)) n2 e n z (let a = h.falls _ refl in let len = longer (tokens_from l at) (omega arith) in let len2 = ap length q in let len3 = longer (tokens_from l i) (omega arith) in let len4 = ap length p in omega arith);
      good = λ n z. upto_good n2 e n z (h.good _ refl);
    }
      where
        go : (k : ℕ) → 8 * length (tokens_from l at) + 1 ≤ k → made_as l (upto n2 e) rs1 ps1 ≡ emitted (write_a ns rs ps m) (atom_f k (tokens_from l at))
        go zero b = absurd (omega arith)
        go (suc k) b =
            let len = longer (tokens_from l at) (omega arith) in
            let len2 = ap length q in
            rw (atom_open k (tokens_from l at) d)
            (then_made (write_e ns rs ps m) (write_a ns rs ps m) (expr_f k (rest_of (tokens_from l at))) closed (made_as l (upto n2 e) rs1 ps1) (emitted_as e rs1 ps1) (tokens_from l i) (rw q at (h.agrees k (omega arith)))
            (λ a z. rw (f, p, z)))

-- ---- going on: nothing more, or one more operand and its operation
module _ (ns l : List ℕ) (at : ℕ) (e : Emitted) (rs ps : List ℤ) where
  pub sum_end : Good e.held.span → (head_no (tokens_from l at) ≡ 6 → ⊥) → (head_no (tokens_from l at) ≡ 7 → ⊥) → MakesOn sum_f (plain_e ns) 5 (length ns) l at (emitted_as e rs ps) (upto at e) rs ps
  sum_end g d f = record { agrees = go; falls = λ n z. upto_falls (λ j. length (tokens_from l j) ≤ length (tokens_from l at)) at e n z (le_refl _); good = λ n z. upto_good at e n z g }
    where
      go : (acc : Expr) (rs₀ ps₀ : List ℤ) (m₀ : Making) → write_e ns rs₀ ps₀ m₀ acc ≡ emitted_as e rs ps → (k : ℕ) → 8 * length (tokens_from l at) + 5 ≤ k → made_as l (upto at e) rs ps ≡ emitted (write_e ns rs₀ ps₀ m₀) (sum_f k acc (tokens_from l at))
      go acc rs₀ ps₀ m₀ z zero b = absurd (omega arith)
      go acc rs₀ ps₀ m₀ z (suc k) b = rw (sum_stop k (tokens_from l at) acc d f, z)

  pub prod_end : Good e.held.span → (head_no (tokens_from l at) ≡ 8 → ⊥) → MakesOn prod_f (plain_t ns) 3 (length ns) l at (emitted_as e rs ps) (upto at e) rs ps
  prod_end g d = record { agrees = go; falls = λ n z. upto_falls (λ j. length (tokens_from l j) ≤ length (tokens_from l at)) at e n z (le_refl _); good = λ n z. upto_good at e n z g }
    where
      go : (acc : Term) (rs₀ ps₀ : List ℤ) (m₀ : Making) → write_t ns rs₀ ps₀ m₀ acc ≡ emitted_as e rs ps → (k : ℕ) → 8 * length (tokens_from l at) + 3 ≤ k → made_as l (upto at e) rs ps ≡ emitted (write_t ns rs₀ ps₀ m₀) (prod_f k acc (tokens_from l at))
      go acc rs₀ ps₀ m₀ z zero b = absurd (omega arith)
      go acc rs₀ ps₀ m₀ z (suc k) b = rw (prod_stop k (tokens_from l at) acc d, z)

  module _ (nx : ℕ) (rs1 ps1 : List ℤ) (q : tokens_from l nx ≡ rest_of (tokens_from l at)) where
    pub sum_no : 6 ≤ head_no (tokens_from l at) → head_no (tokens_from l at) ≤ 7 → Makes term_f (plain_t ns) 4 (length ns) l nx e.making rs ps None rs1 ps1 → MakesOn sum_f (plain_e ns) 5 (length ns) l at (emitted_as e rs ps) None rs1 ps1
    sum_no lo hi h = record { agrees = go; falls = λ n z. no_at n z; good = λ n z. no_at n z }
      where
        go : (acc : Expr) (rs₀ ps₀ : List ℤ) (m₀ : Making) → write_e ns rs₀ ps₀ m₀ acc ≡ emitted_as e rs ps → (k : ℕ) → 8 * length (tokens_from l at) + 5 ≤ k → none ≡ emitted (write_e ns rs₀ ps₀ m₀) (sum_f k acc (tokens_from l at))
        go acc rs₀ ps₀ m₀ z zero b = absurd (omega arith)
        go acc rs₀ ps₀ m₀ z (suc k) b =
            let len = longer (tokens_from l at) (omega arith) in
            let len2 = ap length q in
            rw ((sum_more ns (tokens_from l at) lo hi).2 k acc)
            (then_none (write_t ns rs ps e.making) (write_e ns rs₀ ps₀ m₀) (term_f k (rest_of (tokens_from l at))) _ (rw q at (h.agrees k (omega arith))))

    pub prod_no : head_no (tokens_from l at) ≡ 8 → Makes factor_f (plain_f ns) 2 (length ns) l nx e.making rs ps None rs1 ps1 → MakesOn prod_f (plain_t ns) 3 (length ns) l at (emitted_as e rs ps) None rs1 ps1
    prod_no d h = record { agrees = go; falls = λ n z. no_at n z; good = λ n z. no_at n z }
      where
        go : (acc : Term) (rs₀ ps₀ : List ℤ) (m₀ : Making) → write_t ns rs₀ ps₀ m₀ acc ≡ emitted_as e rs ps → (k : ℕ) → 8 * length (tokens_from l at) + 3 ≤ k → none ≡ emitted (write_t ns rs₀ ps₀ m₀) (prod_f k acc (tokens_from l at))
        go acc rs₀ ps₀ m₀ z zero b = absurd (omega arith)
        go acc rs₀ ps₀ m₀ z (suc k) b =
            let len = longer (tokens_from l at) (omega arith) in
            let len2 = ap length q in
            rw (prod_times k (tokens_from l at) acc d)
            (then_none (write_f ns rs ps e.making) (write_t ns rs₀ ps₀ m₀) (factor_f k (rest_of (tokens_from l at))) _ (rw q at (h.agrees k (omega arith))))

    module _ (j : ℕ) (e1 e2 : Emitted) (rs2 ps2 : List ℤ) (r : code.Option Made) (rs3 ps3 : List ℤ) where
      pub sum_on : 6 ≤ head_no (tokens_from l at) → head_no (tokens_from l at) ≤ 7 → Makes term_f (plain_t ns) 4 (length ns) l nx e.making rs ps (upto j e1) rs1 ps1 → Emits (joined (cond (eqb (head_no (tokens_from l at)) 6) sum difference) e.held (emitted_as e1 rs1 ps1)) e2 rs2 ps2 → MakesOn sum_f (plain_e ns) 5 (length ns) l j (emitted_as e2 rs2 ps2) r rs3 ps3 → MakesOn sum_f (plain_e ns) 5 (length ns) l at (emitted_as e rs ps) r rs3 ps3
      sum_on lo hi h s g = record { agrees = go; falls = λ n z. let a = h.falls _ refl in let b = g.falls n z in let len = longer (tokens_from l at) (omega arith) in let len2 = ap length q in omega arith; good = g.good }
        where
          go : (acc : Expr) (rs₀ ps₀ : List ℤ) (m₀ : Making) → write_e ns rs₀ ps₀ m₀ acc ≡ emitted_as e rs ps → (k : ℕ) → 8 * length (tokens_from l at) + 5 ≤ k → made_as l r rs3 ps3 ≡ emitted (write_e ns rs₀ ps₀ m₀) (sum_f k acc (tokens_from l at))
          go acc rs₀ ps₀ m₀ z zero b = absurd (omega arith)
          go acc rs₀ ps₀ m₀ z (suc k) b =
              let len = longer (tokens_from l at) (omega arith) in
              let len2 = ap length q in
              let a = h.falls _ refl in
              let more = sum_more ns (tokens_from l at) lo hi in
              rw (more.2 k acc)
              (then_made (write_t ns rs ps e.making) (write_e ns rs₀ ps₀ m₀) (term_f k (rest_of (tokens_from l at))) (λ t rest. sum_f k (more.0 acc t) rest) (made_as l r rs3 ps3) (emitted_as e1 rs1 ps1) (tokens_from l j) (rw q at (h.agrees k (omega arith)))
              (λ t y. g.agrees (more.0 acc t) rs₀ ps₀ m₀ (ap (λ (x : Tree). emit (length ns) x rs₀ ps₀ m₀) (more.1 acc t) ∙ emit_binary (length ns) rs₀ ps₀ m₀ (cond (eqb (head_no (tokens_from l at)) 6) sum difference) (plain_e ns acc) (plain_t ns t) (emitted_as e rs ps) (emitted_as e1 rs1 ps1) z y ∙ sym s.is) k (omega arith)))

      pub prod_on : head_no (tokens_from l at) ≡ 8 → Makes factor_f (plain_f ns) 2 (length ns) l nx e.making rs ps (upto j e1) rs1 ps1 → Emits (joined product e.held (emitted_as e1 rs1 ps1)) e2 rs2 ps2 → MakesOn prod_f (plain_t ns) 3 (length ns) l j (emitted_as e2 rs2 ps2) r rs3 ps3 → MakesOn prod_f (plain_t ns) 3 (length ns) l at (emitted_as e rs ps) r rs3 ps3
      unfolding plain_e
      prod_on d h s g = record { agrees = go; falls = λ n z. let a = h.falls _ refl in let b = g.falls n z in let len = longer (tokens_from l at) (omega arith) in let len2 = ap length q in omega arith; good = g.good }
        where
          go : (acc : Term) (rs₀ ps₀ : List ℤ) (m₀ : Making) → write_t ns rs₀ ps₀ m₀ acc ≡ emitted_as e rs ps → (k : ℕ) → 8 * length (tokens_from l at) + 3 ≤ k → made_as l r rs3 ps3 ≡ emitted (write_t ns rs₀ ps₀ m₀) (prod_f k acc (tokens_from l at))
          go acc rs₀ ps₀ m₀ z zero b = absurd (omega arith)
          go acc rs₀ ps₀ m₀ z (suc k) b =
              let len = longer (tokens_from l at) (omega arith) in
              let len2 = ap length q in
              let a = h.falls _ refl in
              rw (prod_times k (tokens_from l at) acc d)
              (then_made (write_f ns rs ps e.making) (write_t ns rs₀ ps₀ m₀) (factor_f k (rest_of (tokens_from l at))) (λ t rest. prod_f k (times acc t) rest) (made_as l r rs3 ps3) (emitted_as e1 rs1 ps1) (tokens_from l j) (rw q at (h.agrees k (omega arith)))
              (λ t y. g.agrees (times acc t) rs₀ ps₀ m₀ (emit_binary (length ns) rs₀ ps₀ m₀ product (plain_t ns acc) (plain_f ns t) (emitted_as e rs ps) (emitted_as e1 rs1 ps1) z y ∙ sym s.is) k (omega arith)))

-- ---- one turn of a loop that reads on
module _ (ns l : List ℕ) {i₀ : ℕ} {e₀ : Emitted} {rs₀ ps₀ : List ℤ} (i : ℕ) (e : Emitted) (rs ps : List ℤ) (nx j : ℕ) (e1 e2 : Emitted) (rs1 ps1 rs2 ps2 : List ℤ) (q : tokens_from l nx ≡ rest_of (tokens_from l i)) where
  pub sum_turn : Going sum_f (plain_e ns) 5 (length ns) l i₀ e₀ rs₀ ps₀ i e rs ps → (n : ℕ) → n ≡ head_no (tokens_from l i) → 6 ≤ n → n ≤ 7 → Makes term_f (plain_t ns) 4 (length ns) l nx e.making rs ps (upto j e1) rs1 ps1 → Emits (joined (cond (eqb n 6) sum difference) e.held (emitted_as e1 rs1 ps1)) e2 rs2 ps2 → Going sum_f (plain_e ns) 5 (length ns) l i₀ e₀ rs₀ ps₀ j e2 rs2 ps2
  sum_turn g n d lo hi h s =
      let a = h.falls _ refl in
      let len = longer (tokens_from l i) (omega arith) in
      let len2 = ap length q in
      let below = g.falls in
      record {
        falls = omega arith;
        good = s.good;
        on = λ r rs3 ps3 k. g.on r rs3 ps3 (sum_on ns l i e rs ps nx rs1 ps1 q j e1 e2 rs2 ps2 r rs3 ps3 (omega arith) (omega arith) h (rw d at s) k);
      }

  pub prod_turn : Going prod_f (plain_t ns) 3 (length ns) l i₀ e₀ rs₀ ps₀ i e rs ps → head_no (tokens_from l i) ≡ 8 → Makes factor_f (plain_f ns) 2 (length ns) l nx e.making rs ps (upto j e1) rs1 ps1 → Emits (joined product e.held (emitted_as e1 rs1 ps1)) e2 rs2 ps2 → Going prod_f (plain_t ns) 3 (length ns) l i₀ e₀ rs₀ ps₀ j e2 rs2 ps2
  prod_turn g d h s =
      let a = h.falls _ refl in
      let len = longer (tokens_from l i) (omega arith) in
      let len2 = ap length q in
      let below = g.falls in
      record {
        falls = omega arith;
        good = s.good;
        on = λ r rs3 ps3 k. g.on r rs3 ps3 (prod_on ns l i e rs ps nx rs1 ps1 q j e1 e2 rs2 ps2 r rs3 ps3 d h s k);
      }
