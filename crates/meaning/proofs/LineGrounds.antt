-- A line is refused exactly on its lowest ground: where no bracket is too many and a tree is spelt, the tests of 24 to 29 are looked at in the order of their numbers.
use mathlib.Core.Path.{◌≡◌, refl, sym, subst, ◌∙◌}
use mathlib.Core.Bool.{Bool, true, false, cond, true≢false}
use mathlib.Core.List.{List}
use mathlib.Core.Option.{Option, none, some}
use Prim.Native.Nat.{ℕ, suc, ◌<◌, ◌≤◌}
use native.Mathlib.Omega.{arith}
use lib.Dec.{eqb, ltb}
use borrow.Author.Tests.{ltb-true, ltb-false, ne_eqb}
use Rattle.problem.specs.Grounds.{FirstMet}
use Rattle.sheet.specs.Tokens.{tokens_of}
use Rattle.sheet.specs.Depth.{too_deep}
use Rattle.sheet.specs.Grammar.{Line, spell_line}
use Rattle.sheet.specs.Reading.{read_line}
use Rattle.sheet.proofs.SpellingLines.{reads_exactly, not_read, spells_one}
use Rattle.meaning.specs.Draft.{Draft, after}
use Rattle.meaning.specs.Grounds.{late_range, bad_names, bad_order, many_demands, helper_beyond, many_quantities, tree_fault, Outcome, refused, read, or_refused, line_outcome, one_line, refusal_number}
use Rattle.meaning.specs.Refused.{LineGround, brackets, formless, late, names, order, demands, beyond, many}
use Rattle.meaning.specs.declared.Refusal.{Refusal}
use Rattle.meaning.specs.declared.Refusal.TheVariants.{Brackets, Form, Names, Order, Equalities, Beyond, Many}

-- ---- tests by number, looked at in order: T is the test, P what it shows
module _ (T : ℕ → Bool) (P : ℕ → Type 0) where
  -- from number n on, o is the first refusal whose test is met
  record Chain (n : ℕ) (o : Option Refusal) : Type 0 where
    met : (g : Refusal) → o ≡ some g → P (refusal_number g)
    lower : (g : Refusal) → o ≡ some g → (h : ℕ) → n ≤ h → h < refusal_number g → T h ≡ true → ⊥
    free : o ≡ none → (h : ℕ) → n ≤ h → T h ≡ true → ⊥

  further : (n h : ℕ) → n ≤ h → T n ≡ false → T h ≡ true → n < h
  further n h i off on = by (ltb n h) refl
    where
      by : (b : Bool) → ltb n h ≡ b → n < h
      by true e = ltb-true n h e
      by false e =
          let j = ltb-false n h e in
          let q : h ≡ n = omega arith in
          absurd (true≢false (sym on ∙ subst (λ (m : ℕ). T m ≡ false) (sym q) off))

  chain_next : (a : Refusal) (o : Option Refusal) → (T (refusal_number a) ≡ true → P (refusal_number a)) → Chain (suc (refusal_number a)) o → Chain (refusal_number a) (cond (T (refusal_number a)) (some a) o)
  chain_next a o f c = by (T (refusal_number a)) refl
    where
      by : (b : Bool) → T (refusal_number a) ≡ b → Chain (refusal_number a) (cond b (some a) o)
      by true e =
          record {
            met = λ g q. let s : a ≡ g = cc in subst (λ (r : Refusal). P (refusal_number r)) s (f e);
            lower = λ g q h i j t.
                let s : a ≡ g = cc in
                let k = subst (λ (r : Refusal). h < refusal_number r) (sym s) j in
                absurd (omega arith);
            free = λ q. absurd (let z : ◌≡◌ {A = ℕ} 0 1 = cc in omega arith);
          }
      by false e =
          record {
            met = c.met;
            lower = λ g q h i j t. c.lower g q h (further (refusal_number a) h i e t) j t;
            free = λ q h i t. c.free q h (further (refusal_number a) h i e t) t;
          }

  chain_end : (n : ℕ) → ((h : ℕ) → n ≤ h → T h ≡ true → ⊥) → Chain n none
  chain_end n f =
      record {
        met = λ g q. absurd (let z : ◌≡◌ {A = ℕ} 0 1 = cc in omega arith);
        lower = λ g q. absurd (let z : ◌≡◌ {A = ℕ} 0 1 = cc in omega arith);
        free = λ q. f;
      }

-- two numbers that are both the first met are the same
first_once : {Met : ℕ → Type 0} {m n : ℕ} → FirstMet Met m → FirstMet Met n → m ≡ n
first_once {Met} {m} {n} f g = by (ltb m n) (ltb n m) refl refl
  where
    by : (a b : Bool) → ltb m n ≡ a → ltb n m ≡ b → m ≡ n
    by true b d e = absurd (g.none_lower m (ltb-true m n d) f.met)
    by false true d e = absurd (f.none_lower n (ltb-true n m e) g.met)
    by false false d e = omega (arith, ltb-false m n d, ltb-false n m e)

-- ---- one line
module _ (top : ℕ) (s : Draft) (l : List ℕ) where
  abbrev Ground : ℕ → Type 0
  Ground = LineGround top s l

  from_23 : (h : ℕ) → Ground h → 23 ≤ h
  from_23 h (brackets d) = omega arith
  from_23 h (formless f) = omega arith
  from_23 h (late x e t) = omega arith
  from_23 h (names x e t) = omega arith
  from_23 h (order x e t) = omega arith
  from_23 h (demands x e t) = omega arith
  from_23 h (beyond x e t) = omega arith
  from_23 h (many x e t) = omega arith

  from_24 : too_deep (tokens_of l) ≡ false → (h : ℕ) → Ground h → 24 ≤ h
  from_24 flat h (brackets d) = absurd (true≢false (sym d ∙ flat))
  from_24 flat h (formless f) = omega arith
  from_24 flat h (late x e t) = omega arith
  from_24 flat h (names x e t) = omega arith
  from_24 flat h (order x e t) = omega arith
  from_24 flat h (demands x e t) = omega arith
  from_24 flat h (beyond x e t) = omega arith
  from_24 flat h (many x e t) = omega arith

  module _ (flat : too_deep (tokens_of l) ≡ false) (x : Line) (spelt : tokens_of l ≡ spell_line x) where
    -- the test of each number, of the tree that is spelt
    abbrev test : ℕ → Bool
    test h =
        cond (eqb h 24) (late_range s x)
        (cond (eqb h 25) (bad_names s x)
        (cond (eqb h 26) (bad_order x)
        (cond (eqb h 27) (many_demands s x)
        (cond (eqb h 28) (helper_beyond s x)
        (cond (eqb h 29) (many_quantities top s x) false)))))

    same : (y : Line) → tokens_of l ≡ spell_line y → y ≡ x
    same y e = spells_one y x (sym e ∙ spelt)

    tested : (h : ℕ) → Ground h → test h ≡ true
    tested h (brackets d) = absurd (true≢false (sym d ∙ flat))
    tested h (formless f) = absurd (f x spelt)
    tested h (late y e t) = subst (λ (z : Line). late_range s z ≡ true) (same y e) t
    tested h (names y e t) = subst (λ (z : Line). bad_names s z ≡ true) (same y e) t
    tested h (order y e t) = subst (λ (z : Line). bad_order z ≡ true) (same y e) t
    tested h (demands y e t) = subst (λ (z : Line). many_demands s z ≡ true) (same y e) t
    tested h (beyond y e t) = subst (λ (z : Line). helper_beyond s z ≡ true) (same y e) t
    tested h (many y e t) = subst (λ (z : Line). many_quantities top s z ≡ true) (same y e) t

    none_above : (h : ℕ) → 30 ≤ h → test h ≡ true → ⊥
    none_above h i t =
        let off : test h ≡ false = rw (ne_eqb h 24 (λ e. omega arith), ne_eqb h 25 (λ e. omega arith), ne_eqb h 26 (λ e. omega arith), ne_eqb h 27 (λ e. omega arith), ne_eqb h 28 (λ e. omega arith), ne_eqb h 29 (λ e. omega arith)) in
        true≢false (sym t ∙ off)

    in_order_lem : Chain test Ground 24 (tree_fault top s x)
    unfolding tree_fault
    in_order_lem =
        chain_next test Ground Form _ (late x spelt)
        (chain_next test Ground Names _ (names x spelt)
        (chain_next test Ground Order _ (order x spelt)
        (chain_next test Ground Equalities _ (demands x spelt)
        (chain_next test Ground Beyond _ (beyond x spelt)
        (chain_next test Ground Many _ (many x spelt)
        (chain_end test Ground 30 none_above))))))

  -- what a line comes to, with number k
  pub data LineIs (k : ℕ) : Outcome → Type 0 where
    faulty : (g : Refusal) → FirstMet Ground (refusal_number g) → LineIs k (refused g k)
    fine : (x : Line) → tokens_of l ≡ spell_line x → ((h : ℕ) → Ground h → ⊥) → LineIs k (read (after top s x))

  pub line_is : (k : ℕ) → LineIs k (one_line top s k l)
  unfolding one_line
  line_is k = by_depth (too_deep (tokens_of l)) refl
    where
      by_fault : (x : Line) → tokens_of l ≡ spell_line x → too_deep (tokens_of l) ≡ false → (o : Option Refusal) → tree_fault top s x ≡ o → LineIs k (or_refused o k (read (after top s x)))
      by_fault x spelt flat none e = fine x spelt (λ h m. (in_order_lem flat x spelt).free e h (from_24 flat h m) (tested flat x spelt h m))
      by_fault x spelt flat (some g) e =
          let c = in_order_lem flat x spelt in
          faulty g (record { met = c.met g e; none_lower = λ h i m. c.lower g e h (from_24 flat h m) i (tested flat x spelt h m) })

      by_tree : too_deep (tokens_of l) ≡ false → (o : Option Line) → read_line (tokens_of l) ≡ o → LineIs k (line_outcome top s k o)
      by_tree flat none r = faulty Form (record { met = formless (not_read l r); none_lower = λ h i m. absurd (omega (arith, from_24 flat h m)) })
      by_tree flat (some x) r = by_fault x ((reads_exactly l x).0 r) flat (tree_fault top s x) refl

      by_depth : (b : Bool) → too_deep (tokens_of l) ≡ b → LineIs k (cond b (refused Brackets k) (line_outcome top s k (read_line (tokens_of l))))
      by_depth true d = faulty Brackets (record { met = brackets d; none_lower = λ h i m. absurd (omega (arith, from_23 h m)) })
      by_depth false d = by_tree d (read_line (tokens_of l)) refl

  -- and back: the lowest ground refuses, and a tree without a ground is read
  pub line_refused : (k n : ℕ) → FirstMet Ground n → (g : Refusal) × (refusal_number g ≡ n) × (one_line top s k l ≡ refused g k)
  line_refused k n f = by (one_line top s k l) (line_is k)
    where
      by : (o : Outcome) → LineIs k o → (g : Refusal) × (refusal_number g ≡ n) × (o ≡ refused g k)
      by o (faulty g e) = (g, first_once e f, refl)
      by o (fine x spelt free) = absurd (free n f.met)

  pub line_fine : (k : ℕ) (x : Line) → tokens_of l ≡ spell_line x → ((h : ℕ) → Ground h → ⊥) → one_line top s k l ≡ read (after top s x)
  line_fine k x spelt free = by (one_line top s k l) (line_is k)
    where
      by : (o : Outcome) → LineIs k o → o ≡ read (after top s x)
      by o (faulty g e) = absurd (free (refusal_number g) e.met)
      by o (fine y e f) = let q : y ≡ x = spells_one y x (sym e ∙ spelt) in rw q
