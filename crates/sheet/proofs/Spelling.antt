-- The readings of expressions are right for the grammar: what is read is spelt by its tree, by the number that bounds the reading; and a spelling is
-- read, unless what follows would go on, by the tree. The number is large enough at 8 for each token: no more steps lie between two tokens.
use mathlib.Core.Path.{◌≡◌, refl, sym, ◌∙◌, ap}
use mathlib.Core.List.{List, [], ◌∷◌, ◌++◌, append_assoc}
use mathlib.Core.Bool.{Bool, true, false, cond}
use mathlib.Core.Option.{none, some}
use Prim.Native.Nat.{ℕ, zero, suc, ◌+◌, ◌-◌, ◌*◌, ◌≤◌}
use native.Mathlib.Omega.{arith}
use lib.ListN.{length, length-append}
use lib.Dec.{eqb}
use borrow.Author.Tests.{ne_eqb, eqb-true, eqb-false}
use Rattle.sheet.specs.Grammar.{Expr, one, plus, minus, Term, lone, times, Factor, bare, squared, Atom, number, name, bracket, spell_e, spell_t, spell_f, spell_a}
use Rattle.sheet.specs.Reading.{payload, head_of, rest_of, head_no, Read, and_then, maybe_squared, closed, expr_f, sum_f, term_f, prod_f, factor_f, atom_f}
use Rattle.sheet.specs.declared.Mark.TheVariants.{Open, Close, Plus, Minus, Times, Square}
use Rattle.sheet.specs.declared.Token.{Token}
use Rattle.sheet.specs.declared.Token.TheVariants.{Fixed}
use Rattle.sheet.proofs.Heads.{headed_number, headed_name, behind, sum_plus, sum_minus, sum_stop, prod_times, prod_stop}

pub impossible : {A T : Type 0} (x : A) → none ≡ some x → T
impossible x e = let z : ◌≡◌ {A = ℕ} 0 1 = cc in absurd (omega arith)

-- a reading that goes on has read something first
pub then_inv : {A B : Type 0} (o : Read A) (g : A → List Token → Read B) (q : B × List Token) → and_then o g ≡ some q
    → (a : A) × (us : List Token) × (o ≡ some (a, us)) × (g a us ≡ some q)
then_inv none g q h = impossible q h
then_inv (some p) g q h = (p.0, p.1, refl, h)

-- two readings that are the same spell the same
spelt : {A : Type 0} → (A → List Token) → Read A → List Token
spelt f none = []
spelt f (some p) = f p.0 ++ p.1

pub same : {A : Type 0} (f : A → List Token) (a b : A) (us vs : List Token) → ◌≡◌ {A = Read A} (some (a, us)) (some (b, vs)) → f a ++ us ≡ f b ++ vs
unfolding spelt
same f a b us vs h = ap (spelt f) h

-- ---- sound

-- what is read is spelt by its tree; and the same of a reading that goes on from a tree
abbrev pub SpeltBy : {A : Type 0} → (A → List Token) → (List Token → Read A) → Type 0
SpeltBy {A} spell read = (ts : List Token) (a : A) (rest : List Token) → read ts ≡ some (a, rest) → ts ≡ spell a ++ rest

abbrev SpeltOn : {A : Type 0} → (A → List Token) → (A → List Token → Read A) → Type 0
SpeltOn {A} spell read = (acc : A) (ts : List Token) (a : A) (rest : List Token) → read acc ts ≡ some (a, rest) → spell acc ++ ts ≡ spell a ++ rest

module _ (k : ℕ) where
  expr_sound : SpeltBy spell_t (term_f k) → SpeltOn spell_e (sum_f k) → SpeltBy spell_e (expr_f (suc k))
  unfolding expr_f spell_e
  expr_sound st ss ts e rest h =
      let i = then_inv (term_f k ts) (λ t us. sum_f k (one t) us) (e, rest) h in
      st ts i.0 i.1 i.2 ∙ ss (one i.0) i.1 e rest i.3

  sum_sound : SpeltBy spell_t (term_f k) → SpeltOn spell_e (sum_f k) → SpeltOn spell_e (sum_f (suc k))
  unfolding spell_e
  sum_sound st ss acc ts e rest h = by (eqb (head_no ts) 6) (eqb (head_no ts) 7) refl refl
    where
      by : (p m : Bool) → eqb (head_no ts) 6 ≡ p → eqb (head_no ts) 7 ≡ m → spell_e acc ++ ts ≡ spell_e e ++ rest
      by true m x y =
          let d = eqb-true (head_no ts) 6 x in
          let i = then_inv (term_f k (rest_of ts)) (λ t us. sum_f k (plus acc t) us) (e, rest) (sym (sum_plus k ts acc d) ∙ h) in
          behind (spell_e acc) ts (spell_t i.0) i.1 Plus d (st (rest_of ts) i.0 i.1 i.2) ∙ ss (plus acc i.0) i.1 e rest i.3
      by false true x y =
          let d = eqb-true (head_no ts) 7 y in
          let i = then_inv (term_f k (rest_of ts)) (λ t us. sum_f k (minus acc t) us) (e, rest) (sym (sum_minus k ts acc d) ∙ h) in
          behind (spell_e acc) ts (spell_t i.0) i.1 Minus d (st (rest_of ts) i.0 i.1 i.2) ∙ ss (minus acc i.0) i.1 e rest i.3
      by false false x y = same spell_e acc e ts rest (sym (sum_stop k ts acc (eqb-false (head_no ts) 6 x) (eqb-false (head_no ts) 7 y)) ∙ h)

  term_sound : SpeltBy spell_f (factor_f k) → SpeltOn spell_t (prod_f k) → SpeltBy spell_t (term_f (suc k))
  unfolding expr_f spell_e
  term_sound sf sp ts t rest h =
      let i = then_inv (factor_f k ts) (λ f us. prod_f k (lone f) us) (t, rest) h in
      sf ts i.0 i.1 i.2 ∙ sp (lone i.0) i.1 t rest i.3

  prod_sound : SpeltBy spell_f (factor_f k) → SpeltOn spell_t (prod_f k) → SpeltOn spell_t (prod_f (suc k))
  unfolding spell_e
  prod_sound sf sp acc ts t rest h = by (eqb (head_no ts) 8) refl
    where
      by : (p : Bool) → eqb (head_no ts) 8 ≡ p → spell_t acc ++ ts ≡ spell_t t ++ rest
      by true x =
          let d = eqb-true (head_no ts) 8 x in
          let i = then_inv (factor_f k (rest_of ts)) (λ f us. prod_f k (times acc f) us) (t, rest) (sym (prod_times k ts acc d) ∙ h) in
          behind (spell_t acc) ts (spell_f i.0) i.1 Times d (sf (rest_of ts) i.0 i.1 i.2) ∙ sp (times acc i.0) i.1 t rest i.3
      by false x = same spell_t acc t ts rest (sym (prod_stop k ts acc (eqb-false (head_no ts) 8 x)) ∙ h)

squared_sound : (a : Atom) (us : List Token) (f : Factor) (rest : List Token) → maybe_squared a us ≡ some (f, rest) → spell_a a ++ us ≡ spell_f f ++ rest
unfolding spell_e
squared_sound a us f rest = by (eqb (head_no us) 9) refl
  where
    by : (p : Bool) → eqb (head_no us) 9 ≡ p → cond {A = Read Factor} p (some (squared a, rest_of us)) (some (bare a, us)) ≡ some (f, rest)
        → spell_a a ++ us ≡ spell_f f ++ rest
    by true x g = behind (spell_a a) us [] (rest_of us) Square (eqb-true (head_no us) 9 x) refl ∙ same spell_f (squared a) f (rest_of us) rest g
    by false x g = same spell_f (bare a) f us rest g

closed_sound : (e : Expr) (us : List Token) (a : Atom) (rest : List Token) → closed e us ≡ some (a, rest) → Fixed Open ∷ (spell_e e ++ us) ≡ spell_a a ++ rest
unfolding spell_e
closed_sound e us a rest = by (eqb (head_no us) 5) refl
  where
    by : (p : Bool) → eqb (head_no us) 5 ≡ p → cond {A = Read Atom} p (some (bracket e, rest_of us)) none ≡ some (a, rest)
        → Fixed Open ∷ (spell_e e ++ us) ≡ spell_a a ++ rest
    by true x g =
        behind (Fixed Open ∷ spell_e e) us [] (rest_of us) Close (eqb-true (head_no us) 5 x) refl ∙ same spell_a (bracket e) a (rest_of us) rest g
    by false x g = impossible (a, rest) g

module _ (k : ℕ) where
  factor_sound : SpeltBy spell_a (atom_f k) → SpeltBy spell_f (factor_f (suc k))
  unfolding expr_f
  factor_sound sa ts f rest h =
      let i = then_inv (atom_f k ts) maybe_squared (f, rest) h in
      sa ts i.0 i.1 i.2 ∙ squared_sound i.0 i.1 f rest i.3

  atom_sound : SpeltBy spell_e (expr_f k) → SpeltBy spell_a (atom_f (suc k))
  unfolding expr_f spell_e
  atom_sound se ts a rest = by (eqb (head_no ts) 1) (eqb (head_no ts) 2) (eqb (head_no ts) 4) refl refl refl
    where
      n : ℕ
      n = payload (head_of ts)

      by : (p q r : Bool) → eqb (head_no ts) 1 ≡ p → eqb (head_no ts) 2 ≡ q → eqb (head_no ts) 4 ≡ r
          → cond p (some (number n, rest_of ts)) (cond q (some (name n, rest_of ts)) (cond r (and_then (expr_f k (rest_of ts)) closed) none)) ≡ some (a, rest)
          → ts ≡ spell_a a ++ rest
      by true q r x y z g = headed_number ts (eqb-true (head_no ts) 1 x) ∙ same spell_a (number n) a (rest_of ts) rest g
      by false true r x y z g = headed_name ts (eqb-true (head_no ts) 2 y) ∙ same spell_a (name n) a (rest_of ts) rest g
      by false false true x y z g =
          let i = then_inv (expr_f k (rest_of ts)) closed (a, rest) g in
          behind [] ts (spell_e i.0) i.1 Open (eqb-true (head_no ts) 4 z) (se (rest_of ts) i.0 i.1 i.2) ∙ closed_sound i.0 i.1 a rest i.3
      by false false false x y z g = impossible (a, rest) g

record AllSound (k : ℕ) : Type 0 where
  sound_e : SpeltBy spell_e (expr_f k)
  sound_s : SpeltOn spell_e (sum_f k)
  sound_t : SpeltBy spell_t (term_f k)
  sound_p : SpeltOn spell_t (prod_f k)
  sound_f : SpeltBy spell_f (factor_f k)
  sound_a : SpeltBy spell_a (atom_f k)

all_sound : (k : ℕ) → AllSound k
unfolding expr_f
all_sound zero = record {
  sound_e = λ ts e rest h. impossible (e, rest) h;
  sound_s = λ acc ts e rest h. impossible (e, rest) h;
  sound_t = λ ts e rest h. impossible (e, rest) h;
  sound_p = λ acc ts e rest h. impossible (e, rest) h;
  sound_f = λ ts e rest h. impossible (e, rest) h;
  sound_a = λ ts e rest h. impossible (e, rest) h;
}
all_sound (suc k) = let s = all_sound k in record {
  sound_e = expr_sound k s.sound_t s.sound_s;
  sound_s = sum_sound k s.sound_t s.sound_s;
  sound_t = term_sound k s.sound_f s.sound_p;
  sound_p = prod_sound k s.sound_f s.sound_p;
  sound_f = factor_sound k s.sound_a;
  sound_a = atom_sound k s.sound_e;
}

pub sound : (k : ℕ) → SpeltBy spell_e (expr_f k)
sound k = (all_sound k).sound_e

-- ---- complete

-- how many signs join the terms, the factors; each is a token
signs_e : Expr → ℕ
signs_e (one t) = 0
signs_e (plus e t) = suc (signs_e e)
signs_e (minus e t) = suc (signs_e e)

signs_t : Term → ℕ
signs_t (lone f) = 0
signs_t (times t f) = suc (signs_t t)

signs_few : (e : Expr) → signs_e e ≤ length (spell_e e)
unfolding signs_e spell_e
signs_few (one t) = omega arith
signs_few (plus e t) = let h = signs_few e in omega (arith, length-append (spell_e e) (Fixed Plus ∷ spell_t t))
signs_few (minus e t) = let h = signs_few e in omega (arith, length-append (spell_e e) (Fixed Minus ∷ spell_t t))

signs_few_t : (t : Term) → signs_t t ≤ length (spell_t t)
unfolding signs_t spell_e
signs_few_t (lone f) = omega arith
signs_few_t (times t f) = let h = signs_few_t t in omega (arith, length-append (spell_t t) (Fixed Times ∷ spell_f f))

-- what follows does not go on with a factor, a term, an expression
EndF : List Token → Type 0
EndF ts = head_no ts ≡ 9 → ⊥

EndT : List Token → Type 0
EndT ts = (head_no ts ≡ 8 → ⊥) × (head_no ts ≡ 9 → ⊥)

unfoldable pub EndE : List Token → Type 0
EndE ts = (head_no ts ≡ 6 → ⊥) × (head_no ts ≡ 7 → ⊥) × (head_no ts ≡ 8 → ⊥) × (head_no ts ≡ 9 → ⊥)

-- the reading of a spelling comes to the reading that goes on from the tree
ReachE : Expr → Type 0
ReachE e = (K k : ℕ) (rest : List Token) → EndT rest → K ≡ suc (signs_e e + k) → 8 * length (spell_e e) + 6 ≤ K
    → expr_f K (spell_e e ++ rest) ≡ sum_f k e rest

ReachT : Term → Type 0
ReachT t = (K k : ℕ) (rest : List Token) → EndF rest → K ≡ suc (signs_t t + k) → 8 * length (spell_t t) + 4 ≤ K
    → term_f K (spell_t t ++ rest) ≡ prod_f k t rest

-- a spelling is read
ReadF : Factor → Type 0
ReadF f = (K : ℕ) (rest : List Token) → EndF rest → 8 * length (spell_f f) + 2 ≤ K → factor_f K (spell_f f ++ rest) ≡ some (f, rest)

ReadA : Atom → Type 0
ReadA a = (K : ℕ) (rest : List Token) → 8 * length (spell_a a) + 1 ≤ K → atom_f K (spell_a a ++ rest) ≡ some (a, rest)

-- a reading that stops
read_e : (e : Expr) → ReachE e → (K : ℕ) (rest : List Token) → EndE rest → 8 * length (spell_e e) + 6 ≤ K
    → expr_f K (spell_e e ++ rest) ≡ some (e, rest)
unfolding ReachE EndE EndT
read_e e re K rest h b =
    let s = signs_few e in
    let q : K ≡ suc (signs_e e + suc (K - 2 - signs_e e)) = omega arith in
    re K (suc (K - 2 - signs_e e)) rest (h.2, h.3) q b ∙ sum_stop (K - 2 - signs_e e) rest e h.0 h.1

read_t : (t : Term) → ReachT t → (K : ℕ) (rest : List Token) → EndT rest → 8 * length (spell_t t) + 4 ≤ K
    → term_f K (spell_t t ++ rest) ≡ some (t, rest)
unfolding ReachT EndT EndF
read_t t rt K rest h b =
    let s = signs_few_t t in
    let q : K ≡ suc (signs_t t + suc (K - 2 - signs_t t)) = omega arith in
    rt K (suc (K - 2 - signs_t t)) rest h.1 q b ∙ prod_stop (K - 2 - signs_t t) rest t h.0

-- one step of each
one_reach : (t : Term) → ReachT t → ReachE (one t)
unfolding ReachE signs_e spell_e expr_f
one_reach t rt K k rest h q b =
    let p : K ≡ suc k = omega arith in
    rw (p, read_t t rt k rest h (omega arith))

plus_reach : (e : Expr) (t : Term) → ReachE e → ReachT t → ReachE (plus e t)
unfolding ReachE EndT signs_e spell_e
plus_reach e t re rt K k rest h q b =
    let s = signs_few e in
    let len = length-append (spell_e e) (Fixed Plus ∷ spell_t t) in
    ap (expr_f K) (append_assoc (spell_e e) (Fixed Plus ∷ spell_t t) rest)
    ∙ re K (suc k) (Fixed Plus ∷ (spell_t t ++ rest)) (omega arith) (omega arith) (omega arith)
    ∙ sum_plus k (Fixed Plus ∷ (spell_t t ++ rest)) e refl
    ∙ rw (read_t t rt k rest h (omega arith))

minus_reach : (e : Expr) (t : Term) → ReachE e → ReachT t → ReachE (minus e t)
unfolding ReachE EndT signs_e spell_e
minus_reach e t re rt K k rest h q b =
    let s = signs_few e in
    let len = length-append (spell_e e) (Fixed Minus ∷ spell_t t) in
    ap (expr_f K) (append_assoc (spell_e e) (Fixed Minus ∷ spell_t t) rest)
    ∙ re K (suc k) (Fixed Minus ∷ (spell_t t ++ rest)) (omega arith) (omega arith) (omega arith)
    ∙ sum_minus k (Fixed Minus ∷ (spell_t t ++ rest)) e refl
    ∙ rw (read_t t rt k rest h (omega arith))

lone_reach : (f : Factor) → ReadF f → ReachT (lone f)
unfolding ReachT ReadF signs_t spell_e expr_f
lone_reach f rf K k rest h q b =
    let p : K ≡ suc k = omega arith in
    rw (p, rf k rest h (omega arith))

times_reach : (t : Term) (f : Factor) → ReachT t → ReadF f → ReachT (times t f)
unfolding ReachT ReadF EndF signs_t spell_e
times_reach t f rt rf K k rest h q b =
    let s = signs_few_t t in
    let len = length-append (spell_t t) (Fixed Times ∷ spell_f f) in
    ap (term_f K) (append_assoc (spell_t t) (Fixed Times ∷ spell_f f) rest)
    ∙ rt K (suc k) (Fixed Times ∷ (spell_f f ++ rest)) (λ z. omega arith) (omega arith) (omega arith)
    ∙ prod_times k (Fixed Times ∷ (spell_f f ++ rest)) t refl
    ∙ rw (rf k rest h (omega arith))

bare_read : (a : Atom) → ReadA a → ReadF (bare a)
unfolding ReadA ReadF EndF spell_e expr_f
bare_read a ra zero rest h b = absurd (omega arith)
bare_read a ra (suc k) rest h b = rw (ra k rest (omega arith), ne_eqb (head_no rest) 9 h)

square_read : (a : Atom) → ReadA a → ReadF (squared a)
unfolding ReadA ReadF spell_e expr_f
square_read a ra zero rest h b = absurd (omega arith)
square_read a ra (suc k) rest h b =
    let len = length-append (spell_a a) (Fixed Square ∷ []) in
    rw (append_assoc (spell_a a) (Fixed Square ∷ []) rest, ra k (Fixed Square ∷ rest) (omega arith))

number_read : (n : ℕ) → ReadA (number n)
unfolding ReadA spell_e expr_f
number_read n zero rest b = absurd (omega arith)
number_read n (suc k) rest b = refl

name_read : (n : ℕ) → ReadA (name n)
unfolding ReadA spell_e expr_f
name_read n zero rest b = absurd (omega arith)
name_read n (suc k) rest b = refl

bracket_read : (e : Expr) → ReachE e → ReadA (bracket e)
unfolding ReadA EndE spell_e expr_f
bracket_read e re zero rest b = absurd (omega arith)
bracket_read e re (suc k) rest b =
    let len = length-append (spell_e e) (Fixed Close ∷ []) in
    rw (append_assoc (spell_e e) (Fixed Close ∷ []) rest, read_e e re k (Fixed Close ∷ rest) (omega arith) (omega arith))

mutual
  reach_e : (e : Expr) → ReachE e
  reach_e (one t) = one_reach t (reach_t t)
  reach_e (plus e t) = plus_reach e t (reach_e e) (reach_t t)
  reach_e (minus e t) = minus_reach e t (reach_e e) (reach_t t)

  reach_t : (t : Term) → ReachT t
  reach_t (lone f) = lone_reach f (reads_f f)
  reach_t (times t f) = times_reach t f (reach_t t) (reads_f f)

  reads_f : (f : Factor) → ReadF f
  reads_f (bare a) = bare_read a (reads_a a)
  reads_f (squared a) = square_read a (reads_a a)

  reads_a : (a : Atom) → ReadA a
  reads_a (number n) = number_read n
  reads_a (name n) = name_read n
  reads_a (bracket e) = bracket_read e (reach_e e)

-- a spelling is read, unless what follows would go on
pub complete : (e : Expr) (k : ℕ) (rest : List Token) → EndE rest → 8 * length (spell_e e) + 6 ≤ k → expr_f k (spell_e e ++ rest) ≡ some (e, rest)
complete e = read_e e (reach_e e)
