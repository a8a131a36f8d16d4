-- A line that spells a tree is too deep exactly if the tree's brackets nest deeper than 16. Where a tree begins with o opened and c closed, its
-- innermost bracket is the one with its depth more opened, and behind the tree as many were closed as opened.
use mathlib.Core.Path.{◌≡◌, refl, sym}
use mathlib.Core.Bool.{Bool, true, false, cond, true≢false}
use mathlib.Core.List.{List, [], ◌∷◌, ◌++◌, append_assoc, append-nil}
use mathlib.Core.Logic.{◌↔◌}
use Prim.Native.Nat.{ℕ, suc, ◌+◌, ◌≤◌, ◌<◌, max}
use native.Mathlib.Nat.{zero-add}
use native.Mathlib.Omega.{arith}
use lib.Dec.{ltb}
use lib.IntN.{ℤ, pos, negsuc}
use borrow.Author.Tests.{ltb-true, ltb-false}
use Rattle.sheet.specs.Tokens.{tokens_of}
use Rattle.sheet.specs.Grammar.{Expr, one, plus, minus, Term, lone, times, Factor, bare, squared, Atom, number, name, bracket, Comparison, Line, ranged, default, must, when, spell_e, spell_t, spell_f, spell_a, mark_for, spell_c, spell_all, signed, spell_line}
use Rattle.sheet.specs.Depth.{opens_of, closes_of, deep_from, too_deep, depth_e, depth_t, depth_f, depth_a, depth_c, depth_all, depth_line}
use Rattle.sheet.specs.declared.Mark.{Mark}
use Rattle.sheet.specs.declared.Mark.TheVariants.{Open, Close, Plus, Minus, Times, Square, Range, Must, If, Then, And, Or}
use Rattle.sheet.specs.declared.Sign.{Sign}
use Rattle.sheet.specs.declared.Sign.TheVariants.{AtMost, Below, AtLeast, Above, Equal, Differ}
use Rattle.sheet.specs.declared.Token.{Token}
use Rattle.sheet.specs.declared.Token.TheVariants.{Number, Name, Fixed}

-- one token: what is open at it, and what is asked of the others
step : (t : Token) (o c o' c' : ℕ) (ts : List Token) → o' ≡ o + opens_of t → c' ≡ c + closes_of t
    → (deep_from o c (t ∷ ts) ≡ false) ↔ ((o' ≤ c' + 16) × (deep_from o' c' ts ≡ false))
unfolding deep_from
step t o c o' c' ts p q = rw (← p, ← q) (by (ltb (c' + 16) o') refl)
  where
    by : (b : Bool) → ltb (c' + 16) o' ≡ b → (cond b true (deep_from o' c' ts) ≡ false) ↔ ((o' ≤ c' + 16) × (deep_from o' c' ts ≡ false))
    by true e = ((λ k. absurd (true≢false k)), (λ g. let h = ltb-true (c' + 16) o' e in absurd (omega (arith, g.0))))
    by false e = ((λ k. (ltb-false (c' + 16) o' e, k)), (λ g. g.1))

-- a token that is no bracket
plain : (t : Token) (o c : ℕ) (ts : List Token) → opens_of t ≡ 0 → closes_of t ≡ 0 → (deep_from o c (t ∷ ts) ≡ false) ↔ ((o ≤ c + 16) × (deep_from o c ts ≡ false))
plain t o c ts p q = step t o c o c ts (omega arith) (omega arith)

-- of these tokens some come first and the others behind: in the first, d more are open somewhere, and as many closed as opened
record Nests (d : ℕ) (ts rest : List Token) : Type 0 where
  n : ℕ
  exact : (o c : ℕ) → (deep_from o c ts ≡ false) ↔ ((d + o ≤ c + 16) × (deep_from (o + n) (c + n) rest ≡ false))

-- two parts with a token between them that is no bracket
joined : (d e : ℕ) (t : Token) (ts us rest : List Token) → opens_of t ≡ 0 → closes_of t ≡ 0 → Nests d ts (t ∷ us) → Nests e us rest → Nests (max d e) ts rest
joined d e t ts us rest p q f g = record { n = f.n + g.n; exact = λ o c. (to o c, from o c) }
  where
    both : (o : ℕ) → o + (f.n + g.n) ≡ o + f.n + g.n
    both o = omega arith

    to : (o c : ℕ) → deep_from o c ts ≡ false → (max d e + o ≤ c + 16) × (deep_from (o + (f.n + g.n)) (c + (f.n + g.n)) rest ≡ false)
    to o c h =
        let a = (f.exact o c).0 h in
        let b = (plain t (o + f.n) (c + f.n) us p q).0 a.1 in
        let r = (g.exact (o + f.n) (c + f.n)).0 b.1 in
        (omega (arith, a.0, r.0), rw (both o, both c) r.1)

    from : (o c : ℕ) → (max d e + o ≤ c + 16) × (deep_from (o + (f.n + g.n)) (c + (f.n + g.n)) rest ≡ false) → deep_from o c ts ≡ false
    from o c k =
        let r = (g.exact (o + f.n) (c + f.n)).1 (omega (arith, k.0), rw (both o, both c) at k.1) in
        (f.exact o c).1 (omega (arith, k.0), (plain t (o + f.n) (c + f.n) us p q).1 (omega (arith, k.0), r))

-- a token alone
alone : (t : Token) (rest : List Token) → opens_of t ≡ 0 → closes_of t ≡ 0 → Nests 0 (t ∷ rest) rest
alone t rest p q = record { n = 0; exact = λ o c. rw (same o, same c, zero-add o) (plain t o c rest p q) }
  where
    same : (o : ℕ) → o + 0 ≡ o
    same o = omega arith

-- a part with a token behind it
ended : (d : ℕ) (t : Token) (ts rest : List Token) → opens_of t ≡ 0 → closes_of t ≡ 0 → Nests d ts (t ∷ rest) → Nests d ts rest
ended d t ts rest p q f =
    record {
      n = f.n;
      exact = λ o c. (
        (λ h. let a = (f.exact o c).0 h in (a.0, ((plain t (o + f.n) (c + f.n) rest p q).0 a.1).1)),
        (λ k. (f.exact o c).1 (k.0, (plain t (o + f.n) (c + f.n) rest p q).1 (omega (arith, k.0), k.1))),
      );
    }

-- a part in brackets
bracketed : (d : ℕ) (ts rest : List Token) → Nests d ts (Fixed Close ∷ rest) → Nests (suc d) (Fixed Open ∷ ts) rest
bracketed d ts rest f = record { n = suc f.n; exact = λ o c. (to o c, from o c) }
  where
    opened : (o c : ℕ) → (deep_from o c (Fixed Open ∷ ts) ≡ false) ↔ ((o + 1 ≤ c + 16) × (deep_from (o + 1) c ts ≡ false))
    opened o c = step (Fixed Open) o c (o + 1) c ts (omega arith) (omega arith)

    closed : (o c : ℕ) → (deep_from (o + 1 + f.n) (c + f.n) (Fixed Close ∷ rest) ≡ false)
        ↔ ((o + suc f.n ≤ c + suc f.n + 16) × (deep_from (o + suc f.n) (c + suc f.n) rest ≡ false))
    closed o c = step (Fixed Close) (o + 1 + f.n) (c + f.n) (o + suc f.n) (c + suc f.n) rest (omega arith) (omega arith)

    to : (o c : ℕ) → deep_from o c (Fixed Open ∷ ts) ≡ false → (suc d + o ≤ c + 16) × (deep_from (o + suc f.n) (c + suc f.n) rest ≡ false)
    to o c h = let a = (f.exact (o + 1) c).0 ((opened o c).0 h).1 in (omega (arith, a.0), ((closed o c).0 a.1).1)

    from : (o c : ℕ) → (suc d + o ≤ c + 16) × (deep_from (o + suc f.n) (c + suc f.n) rest ≡ false) → deep_from o c (Fixed Open ∷ ts) ≡ false
    from o c k = (opened o c).1 (omega (arith, k.0), (f.exact (o + 1) c).1 (omega (arith, k.0), (closed o c).1 (omega (arith, k.0), k.1)))

-- ---- expressions
mutual
  unfolding spell_e depth_e

  nest_e : (e : Expr) (rest : List Token) → Nests (depth_e e) (spell_e e ++ rest) rest
  nest_e (one t) rest = nest_t t rest
  nest_e (plus e t) rest = rw append_assoc (joined (depth_e e) (depth_t t) (Fixed Plus) (spell_e e ++ (Fixed Plus ∷ (spell_t t ++ rest))) (spell_t t ++ rest) rest refl refl (nest_e e (Fixed Plus ∷ (spell_t t ++ rest))) (nest_t t rest))
  nest_e (minus e t) rest = rw append_assoc (joined (depth_e e) (depth_t t) (Fixed Minus) (spell_e e ++ (Fixed Minus ∷ (spell_t t ++ rest))) (spell_t t ++ rest) rest refl refl (nest_e e (Fixed Minus ∷ (spell_t t ++ rest))) (nest_t t rest))

  nest_t : (t : Term) (rest : List Token) → Nests (depth_t t) (spell_t t ++ rest) rest
  nest_t (lone f) rest = nest_f f rest
  nest_t (times t f) rest = rw append_assoc (joined (depth_t t) (depth_f f) (Fixed Times) (spell_t t ++ (Fixed Times ∷ (spell_f f ++ rest))) (spell_f f ++ rest) rest refl refl (nest_t t (Fixed Times ∷ (spell_f f ++ rest))) (nest_f f rest))

  nest_f : (f : Factor) (rest : List Token) → Nests (depth_f f) (spell_f f ++ rest) rest
  nest_f (bare a) rest = nest_a a rest
  nest_f (squared a) rest = rw append_assoc (ended (depth_a a) (Fixed Square) (spell_a a ++ (Fixed Square ∷ rest)) rest refl refl (nest_a a (Fixed Square ∷ rest)))

  nest_a : (a : Atom) (rest : List Token) → Nests (depth_a a) (spell_a a ++ rest) rest
  nest_a (number n) rest = alone (Number n) rest refl refl
  nest_a (name n) rest = alone (Name n) rest refl refl
  nest_a (bracket e) rest = rw append_assoc (bracketed (depth_e e) (spell_e e ++ (Fixed Close ∷ rest)) rest (nest_e e (Fixed Close ∷ rest)))

-- ---- comparisons and lines
sign_opens : (s : Sign) → opens_of (Fixed (mark_for s)) ≡ 0
sign_opens AtMost = refl
sign_opens Below = refl
sign_opens AtLeast = refl
sign_opens Above = refl
sign_opens Equal = refl
sign_opens Differ = refl

sign_closes : (s : Sign) → closes_of (Fixed (mark_for s)) ≡ 0
sign_closes AtMost = refl
sign_closes Below = refl
sign_closes AtLeast = refl
sign_closes Above = refl
sign_closes Equal = refl
sign_closes Differ = refl

nest_c : (x : Comparison) (rest : List Token) → Nests (depth_c x) (spell_c x ++ rest) rest
unfolding spell_c depth_c
nest_c x rest =
    let m = Fixed (mark_for x.sign) in
    let us = spell_e x.right ++ rest in
    rw append_assoc (joined (depth_e x.left) (depth_e x.right) m (spell_e x.left ++ (m ∷ us)) us rest (sign_opens x.sign) (sign_closes x.sign) (nest_e x.left (m ∷ us)) (nest_e x.right rest))

nest_all : (m : Mark) → opens_of (Fixed m) ≡ 0 → closes_of (Fixed m) ≡ 0 → (x : Comparison) (xs : List Comparison) (rest : List Token)
    → Nests (depth_all x xs) (spell_all m x xs ++ rest) rest
unfolding spell_all depth_all
nest_all m p q x [] rest = nest_c x rest
nest_all m p q x (y ∷ ys) rest =
    let us = spell_all m y ys ++ rest in
    rw append_assoc (joined (depth_c x) (depth_all y ys) (Fixed m) (spell_c x ++ (Fixed m ∷ us)) us rest p q (nest_c x (Fixed m ∷ us)) (nest_all m p q y ys rest))

signed_opens : (z : ℤ) → opens_of (signed z) ≡ 0
signed_opens (pos n) = refl
signed_opens (negsuc n) = refl

signed_closes : (z : ℤ) → closes_of (signed z) ≡ 0
signed_closes (pos n) = refl
signed_closes (negsuc n) = refl

-- demands up to a line's end
demands : (d : Comparison) (ds : List Comparison) → Nests (depth_all d ds) (spell_all Or d ds) []
demands d ds = rw append-nil at (nest_all Or refl refl d ds [])

-- a whole line, its first token no bracket
from_first : (m : Mark) (d : ℕ) (ts : List Token) → opens_of (Fixed m) ≡ 0 → closes_of (Fixed m) ≡ 0 → Nests d ts [] → (too_deep (Fixed m ∷ ts) ≡ false) ↔ (d ≤ 16)
unfolding deep_from
from_first m d ts p q f = (
  (λ h. let a = (f.exact 0 0).0 ((plain (Fixed m) 0 0 ts p q).0 h).1 in omega (arith, a.0)),
  (λ k. (plain (Fixed m) 0 0 ts p q).1 (omega arith, (f.exact 0 0).1 (omega arith, refl))),
)

flat : (x : Line) → (too_deep (spell_line x) ≡ false) ↔ (depth_line x ≤ 16)
unfolding spell_line depth_line
flat (ranged n low high) =
    let us = signed high ∷ [] in
    let ts = Name n ∷ signed low ∷ us in
    from_first Range 0 ts refl refl
    (joined 0 0 (signed low) ts us [] (signed_opens low) (signed_closes low) (alone (Name n) (signed low ∷ us) refl refl) (alone (signed high) [] (signed_opens high) (signed_closes high)))
flat (default n) = from_first Range 0 (Name n ∷ []) refl refl (alone (Name n) [] refl refl)
flat (must d ds) = from_first Must (depth_all d ds) (spell_all Or d ds) refl refl (demands d ds)
flat (when x xs d ds) =
    let us = spell_all Or d ds in
    let ts = spell_all And x xs ++ (Fixed Then ∷ us) in
    from_first If (max (depth_all x xs) (depth_all d ds)) ts refl refl
    (joined (depth_all x xs) (depth_all d ds) (Fixed Then) ts us [] refl refl (nest_all And refl refl x xs (Fixed Then ∷ us)) (demands d ds))

-- a line that spells a tree is too deep exactly if the tree's brackets nest deeper than 16
pub deep_exactly : (l : List ℕ) (x : Line) → tokens_of l ≡ spell_line x → (too_deep (tokens_of l) ≡ true) ↔ (16 < depth_line x)
deep_exactly l x e = rw e (by (too_deep (spell_line x)) (flat x))
  where
    above : (b : Bool) → ltb 16 (depth_line x) ≡ b → (depth_line x ≤ 16 → ⊥) → 16 < depth_line x
    above true p h = ltb-true 16 (depth_line x) p
    above false p h = absurd (h (ltb-false 16 (depth_line x) p))

    by : (b : Bool) → (b ≡ false) ↔ (depth_line x ≤ 16) → (b ≡ true) ↔ (16 < depth_line x)
    by true i = ((λ h. above (ltb 16 (depth_line x)) refl (λ k. true≢false (i.1 k))), (λ h. refl))
    by false i = ((λ h. absurd (true≢false (sym h))), (λ h. let k = i.0 refl in absurd (omega arith)))
