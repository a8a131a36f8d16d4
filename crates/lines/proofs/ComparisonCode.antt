-- Comparisons behind one another, read and listed: what is listed of the first and then of the others is what is listed of all of them.
use mathlib.Core.Path.{◌≡◌, refl, sym, ◌∙◌, ap, ap₂}
use mathlib.Core.Bool.{Bool, true, false, cond, ◌&&◌}
use mathlib.Core.List.{List, [], ◌∷◌, map}
use mathlib.Core.Option.{none, some}
use Prim.Native.Nat.{ℕ, zero, suc, ◌+◌, ◌*◌, ◌≤◌, ◌<◌}
use native.Mathlib.Nat.{le_refl}
use native.Mathlib.Omega.{arith}
use lib.IntN.{ℤ}
use lib.ListN.{length}
use lib.Dec.{leb}
use borrow.Author.Tests.{eq-eqb, ne_eqb}
use Rattle.std.specs.Prelude as code
use Rattle.std.specs.Prelude.{Some, None}
use Rattle.sheet.specs.Grammar.{Expr, Comparison}
use Rattle.sheet.specs.Reading.{rest_of, head_no, Read, and_then, expr_f, sign_of, compared, comparison_f, more_f, all_f}
use Rattle.sheet.specs.inner.Steps.{tokens_from}
use Rattle.sheet.specs.declared.Token.{Token}
use Rattle.sheet.specs.declared.Sign.{Sign}
use Rattle.meaning.specs.Plain.{difference, plain_e}
use Rattle.lines.specs.inner.Emission.{Emit, emitted_as, Emits, joined, emitted, Makes, Listing, listed, list_all}
use Rattle.lines.specs.inner.Comparisons.{turned_by, asked_by, asks_one, asks_all, listing_of, listing_as, Lists}
use Rattle.lines.specs.declared.parts.Emitted.{Emitted}
use Rattle.lines.specs.declared.parts.Tally.{Tally}
use Rattle.lines.specs.declared.parts.Listed.{Listed}
use Rattle.lines.proofs.ExpressionCode.{then_none, then_made, emit_binary, write_e, upto}

-- what was listed so far
abbrev pub listed_to : ℕ → Tally → code.Option Listed
listed_to n t = Some (record { next = n; tally = t })

no_at : {T : Type 0} (t : Listed) → None ≡ Some t → T
no_at t e = let z : ◌≡◌ {A = ℕ} 0 1 = cc in absurd (omega arith)

at_falls : (P : ℕ → Type 0) (n : ℕ) (t : Tally) (u : Listed) → listed_to n t ≡ Some u → P n → P u.next
at_falls P n t u e p = let z : n ≡ u.next = cc in rw (← z) p

-- the rest is never longer
pub shorter : (ts : List Token) → length (rest_of ts) ≤ length ts
shorter [] = le_refl 0
shorter (t ∷ ts) = omega arith

-- ---- the signs
-- the number is that of a sign
abbrev pub signed : ℕ → Bool
signed n = leb 10 n && leb n 15

-- what `rule::sign_of` gives
abbrev sign_in : ℕ → code.Option Sign
sign_in n = cond (signed n) (Some (sign_of n)) None

pub sign_told : (n : ℕ) (s : Sign) → sign_in n ≡ Some s → (signed n ≡ true) × (s ≡ sign_of n)
sign_told n s e = by (signed n) e
  where
    by : (b : Bool) → cond b (Some (sign_of n)) None ≡ Some s → (b ≡ true) × (s ≡ sign_of n)
    by true f = (refl, cc)
    by false f = let z : ◌≡◌ {A = ℕ} 0 1 = cc in absurd (omega arith)

pub sign_untold : (n : ℕ) → sign_in n ≡ None → signed n ≡ false
sign_untold n e = by (signed n) e
  where
    by : (b : Bool) → cond b (Some (sign_of n)) None ≡ None → b ≡ false
    by true f = let z : ◌≡◌ {A = ℕ} 0 1 = cc in absurd (omega arith)
    by false f = refl

-- ---- one comparison
module _ (mark : ℕ) (ns l : List ℕ) (at : ℕ) (a : Listing) where
  -- what is listed of one
  abbrev one : Comparison → Listing
  one c = list_all (length ns) (asks_one mark ns c) a

  abbrev write : Expr → Emit
  write = write_e ns a.ranges a.primitives a.making

  pub comparison_no : (rs ps fs ss : List ℤ) → Makes expr_f (plain_e ns) 6 (length ns) l at a.making a.ranges a.primitives None rs ps → Lists comparison_f (asks_one mark ns) (length ns) l at a None rs ps fs ss
  unfolding comparison_f
  comparison_no rs ps fs ss h = record { agrees = λ k b. then_none write one (expr_f k (tokens_from l at)) _ (h.agrees k b); falls = λ t z. no_at t z }

  module _ (i : ℕ) (e1 : Emitted) (rs1 ps1 : List ℤ) (h : Makes expr_f (plain_e ns) 6 (length ns) l at a.making a.ranges a.primitives (upto i e1) rs1 ps1) where
    pub comparison_unsigned : (fs ss : List ℤ) → signed (head_no (tokens_from l i)) ≡ false → Lists comparison_f (asks_one mark ns) (length ns) l at a None rs1 ps1 fs ss
    unfolding comparison_f
    comparison_unsigned fs ss d = record {
      agrees = λ k b. then_made write one (expr_f k (tokens_from l at)) _ none (emitted_as e1 rs1 ps1) (tokens_from l i) (h.agrees k b) (λ x z. rw d);
      falls = λ t z. no_at t z;
    }

    module _ (nx : ℕ) (d : signed (head_no (tokens_from l i)) ≡ true) (q : tokens_from l nx ≡ rest_of (tokens_from l i)) where
      bound : (k : ℕ) → 8 * length (tokens_from l at) + 6 ≤ k → 8 * length (tokens_from l nx) + 6 ≤ k
      bound k b =
          let f = h.falls _ refl in
          let s = shorter (tokens_from l i) in
          let len = ap length q in
          omega arith

      pub comparison_half : (rs2 ps2 fs ss : List ℤ) → Makes expr_f (plain_e ns) 6 (length ns) l nx e1.making rs1 ps1 None rs2 ps2 → Lists comparison_f (asks_one mark ns) (length ns) l at a None rs2 ps2 fs ss
      unfolding comparison_f
      comparison_half rs2 ps2 fs ss g = record {
        agrees = λ k b. then_made write one (expr_f k (tokens_from l at)) _ none (emitted_as e1 rs1 ps1) (tokens_from l i) (h.agrees k b)
            (λ x z. rw d (then_none (write_e ns rs1 ps1 e1.making) one (expr_f k (rest_of (tokens_from l i))) (compared x (head_no (tokens_from l i))) (rw q at (g.agrees k (bound k b)))));
        falls = λ t z. no_at t z;
      }

      module _ (j : ℕ) (e2 e3 : Emitted) (t : Tally) (sg : Sign) (rs2 ps2 rs3 ps3 fs ss : List ℤ) where
        pub comparison_is : Makes expr_f (plain_e ns) 6 (length ns) l nx e1.making rs1 ps1 (upto j e2) rs2 ps2 → Emits (joined difference e1.held (emitted_as e2 rs2 ps2)) e3 rs3 ps3 → sg ≡ turned_by mark (sign_of (head_no (tokens_from l i))) → listing_of t rs3 ps3 fs ss ≡ listed sg (emitted_as e3 rs3 ps3) a → Lists comparison_f (asks_one mark ns) (length ns) l at a (listed_to j t) rs3 ps3 fs ss
        unfolding comparison_f list_all
        comparison_is g s c w = record {
          agrees = λ k b. then_made write one (expr_f k (tokens_from l at)) _ (some (listing_of t rs3 ps3 fs ss, tokens_from l j)) (emitted_as e1 rs1 ps1) (tokens_from l i) (h.agrees k b)
              (λ x z. rw d
              (then_made (write_e ns rs1 ps1 e1.making) one (expr_f k (rest_of (tokens_from l i))) (compared x (head_no (tokens_from l i))) (some (listing_of t rs3 ps3 fs ss, tokens_from l j)) (emitted_as e2 rs2 ps2) (tokens_from l j) (rw q at (g.agrees k (bound k b)))
              (λ y u. ap (λ (v : Listing). some (v, tokens_from l j)) (w ∙ ap₂ (λ (x : Sign) (e : Emit). listed x e a) c (s.is ∙ sym (emit_binary (length ns) a.ranges a.primitives a.making difference (plain_e ns x) (plain_e ns y) (emitted_as e1 rs1 ps1) (emitted_as e2 rs2 ps2) z u))))));
          falls = λ v z. at_falls (λ m. length (tokens_from l m) < length (tokens_from l at)) j t v z
              (let f = h.falls _ refl in let b = g.falls _ refl in let r = shorter (tokens_from l i) in let len = ap length q in omega arith);
        }

-- ---- more comparisons, each behind the mark
pub record More (mark : ℕ) (ns l : List ℕ) (at : ℕ) (a : Listing) (r : code.Option Listed) (rs ps fs ss : List ℤ) : Type 0 where
  pub agrees : (k : ℕ) → 8 * length (tokens_from l at) + 7 ≤ k → listing_as l r rs ps fs ss ≡ emitted (λ cs. list_all (length ns) (map (asked_by mark ns) cs) a) (more_f k mark (tokens_from l at))
  pub falls : (t : Listed) → r ≡ Some t → length (tokens_from l t.next) ≤ length (tokens_from l at)

-- a reading with something put in front of it
in_front : {A B C : Type 0} (f : B → C) (g : A → B) (o : Read A) → emitted f (and_then o (λ x end. some (g x, end))) ≡ emitted (λ x. f (g x)) o
in_front f g none = refl
in_front f g (some p) = refl

module _ (mark : ℕ) (ns l : List ℕ) where
  abbrev all : Listing → List Comparison → Listing
  all a cs = list_all (length ns) (map (asked_by mark ns) cs) a

  -- the others behind the first
  behind : (a : Listing) (c : Comparison) (b : Listing) (o : Read (List Comparison)) → list_all (length ns) (asks_one mark ns c) a ≡ b → emitted (all b) o ≡ emitted (λ cs. all a (c ∷ cs)) o
  unfolding list_all
  behind a c b o z = ap (λ (x : Listing). emitted (all x) o) (sym z)

  module _ (at : ℕ) where
    pub more_end : (t : Tally) (rs ps fs ss : List ℤ) → (head_no (tokens_from l at) ≡ mark → ⊥) → More mark ns l at (listing_of t rs ps fs ss) (listed_to at t) rs ps fs ss
    unfolding more_f list_all
    more_end t rs ps fs ss d = record { agrees = go; falls = λ u z. at_falls (λ m. length (tokens_from l m) ≤ length (tokens_from l at)) at t u z (le_refl _) }
      where
        go : (k : ℕ) → 8 * length (tokens_from l at) + 7 ≤ k → some (listing_of t rs ps fs ss, tokens_from l at) ≡ emitted (all (listing_of t rs ps fs ss)) (more_f k mark (tokens_from l at))
        go zero b = absurd (omega arith)
        go (suc k) b = rw (ne_eqb (head_no (tokens_from l at)) mark d)

    module _ (nx : ℕ) (a : Listing) (d : head_no (tokens_from l at) ≡ mark) (q : tokens_from l nx ≡ rest_of (tokens_from l at)) where
      room : (k : ℕ) → 8 * length (tokens_from l at) + 7 ≤ suc k → 8 * length (tokens_from l nx) + 6 ≤ k
      room k b = let s = shorter (tokens_from l at) in let len = ap length q in omega arith

      pub more_no : (rs ps fs ss : List ℤ) → Lists comparison_f (asks_one mark ns) (length ns) l nx a None rs ps fs ss → More mark ns l at a None rs ps fs ss
      unfolding more_f
      more_no rs ps fs ss h = record { agrees = go; falls = λ t z. no_at t z }
        where
          go : (k : ℕ) → 8 * length (tokens_from l at) + 7 ≤ k → none ≡ emitted (all a) (more_f k mark (tokens_from l at))
          go zero b = absurd (omega arith)
          go (suc k) b =
              rw (eq-eqb (head_no (tokens_from l at)) mark d)
              (then_none (one mark ns l at a) (all a) (comparison_f k (rest_of (tokens_from l at))) _ (rw q at (h.agrees k (room k b))))

      pub more_on : (j : ℕ) (t : Tally) (rs ps fs ss : List ℤ) (r : code.Option Listed) (rs' ps' fs' ss' : List ℤ) → Lists comparison_f (asks_one mark ns) (length ns) l nx a (listed_to j t) rs ps fs ss → More mark ns l j (listing_of t rs ps fs ss) r rs' ps' fs' ss' → More mark ns l at a r rs' ps' fs' ss'
      unfolding more_f
      more_on j t rs ps fs ss r rs' ps' fs' ss' h g = record { agrees = go; falls = λ u z. let x = h.falls _ refl in let y = g.falls u z in let s = shorter (tokens_from l at) in let len = ap length q in omega arith }
        where
          go : (k : ℕ) → 8 * length (tokens_from l at) + 7 ≤ k → listing_as l r rs' ps' fs' ss' ≡ emitted (all a) (more_f k mark (tokens_from l at))
          go zero b = absurd (omega arith)
          go (suc k) b =
              let x = h.falls _ refl in
              let s = shorter (tokens_from l at) in
              let len = ap length q in
              rw (eq-eqb (head_no (tokens_from l at)) mark d)
              (then_made (one mark ns l at a) (all a) (comparison_f k (rest_of (tokens_from l at))) (λ c rest. and_then (more_f k mark rest) (λ cs end. some (c ∷ cs, end))) (listing_as l r rs' ps' fs' ss') (listing_of t rs ps fs ss) (tokens_from l j) (rw q at (h.agrees k (room k b)))
              (λ c z. g.agrees k (omega arith) ∙ behind a c (listing_of t rs ps fs ss) (more_f k mark (tokens_from l j)) z ∙ sym (in_front (all a) (λ cs. c ∷ cs) (more_f k mark (tokens_from l j)))))

    -- ---- the first and the others
    pub all_no : (a : Listing) (rs ps fs ss : List ℤ) → Lists comparison_f (asks_one mark ns) (length ns) l at a None rs ps fs ss → Lists (λ k. all_f k mark) (asks_all mark ns) (length ns) l at a None rs ps fs ss
    unfolding all_f
    all_no a rs ps fs ss h = record { agrees = λ k b. then_none (one mark ns l at a) (λ p. list_all (length ns) (asks_all mark ns p) a) (comparison_f k (tokens_from l at)) _ (h.agrees k b); falls = λ t z. no_at t z }

    pub all_on : (a : Listing) (j : ℕ) (t : Tally) (rs ps fs ss : List ℤ) (r : code.Option Listed) (rs' ps' fs' ss' : List ℤ) → Lists comparison_f (asks_one mark ns) (length ns) l at a (listed_to j t) rs ps fs ss → More mark ns l j (listing_of t rs ps fs ss) r rs' ps' fs' ss' → Lists (λ k. all_f k mark) (asks_all mark ns) (length ns) l at a r rs' ps' fs' ss'
    unfolding all_f
    all_on a j t rs ps fs ss r rs' ps' fs' ss' h g = record {
      agrees = λ k b. let x = h.falls _ refl in
          then_made (one mark ns l at a) (λ p. list_all (length ns) (asks_all mark ns p) a) (comparison_f k (tokens_from l at)) (λ c rest. and_then (more_f k mark rest) (λ cs end. some ((c, cs), end))) (listing_as l r rs' ps' fs' ss') (listing_of t rs ps fs ss) (tokens_from l j) (h.agrees k b)
          (λ c z. g.agrees k (omega arith) ∙ behind a c (listing_of t rs ps fs ss) (more_f k mark (tokens_from l j)) z ∙ sym (in_front (λ p. list_all (length ns) (asks_all mark ns p) a) (λ cs. (c, cs)) (more_f k mark (tokens_from l j))));
      falls = λ u z. let x = h.falls _ refl in let y = g.falls u z in omega arith;
    }

-- ---- a loop that lists on, at place i with the counts t: whatever it answers from here on is the answer from the loop's start on
pub record Walks (mark : ℕ) (ns l : List ℕ) (i₀ : ℕ) (t₀ : Tally) (rs₀ ps₀ fs₀ ss₀ : List ℤ) (i : ℕ) (t : Tally) (rs ps fs ss : List ℤ) : Type 0 where
  pub on : (r : code.Option Listed) (rs' ps' fs' ss' : List ℤ) → More mark ns l i (listing_of t rs ps fs ss) r rs' ps' fs' ss' → More mark ns l i₀ (listing_of t₀ rs₀ ps₀ fs₀ ss₀) r rs' ps' fs' ss'
  pub firsts : length fs ≡ length fs₀
  pub seconds : length ss ≡ length ss₀

pub walks_turn : (mark : ℕ) (ns l : List ℕ) {i₀ : ℕ} {t₀ : Tally} {rs₀ ps₀ fs₀ ss₀ : List ℤ} (i : ℕ) (t : Tally) (rs ps fs ss : List ℤ) (nx j : ℕ) (u : Tally) (rs1 ps1 fs1 ss1 : List ℤ) → Walks mark ns l i₀ t₀ rs₀ ps₀ fs₀ ss₀ i t rs ps fs ss → head_no (tokens_from l i) ≡ mark → tokens_from l nx ≡ rest_of (tokens_from l i) → Lists comparison_f (asks_one mark ns) (length ns) l nx (listing_of t rs ps fs ss) (listed_to j u) rs1 ps1 fs1 ss1 → length fs1 ≡ length fs → length ss1 ≡ length ss → Walks mark ns l i₀ t₀ rs₀ ps₀ fs₀ ss₀ j u rs1 ps1 fs1 ss1
walks_turn mark ns l i t rs ps fs ss nx j u rs1 ps1 fs1 ss1 w d q h kf ks = record {
  on = λ r rs' ps' fs' ss' g. w.on r rs' ps' fs' ss' (more_on mark ns l i nx (listing_of t rs ps fs ss) d q j u rs1 ps1 fs1 ss1 r rs' ps' fs' ss' h g);
  firsts = kf ∙ w.firsts;
  seconds = ks ∙ w.seconds;
}
