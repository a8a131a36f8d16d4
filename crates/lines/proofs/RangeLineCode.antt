-- A range line's grounds in order: after a rule (24), declared twice (25), low above high (26), one quantity too many (29); otherwise its range and its name
-- are put behind those before, and the lists hold the sheet with the line.
use mathlib.Core.Path.{◌≡◌, refl, sym, ap, ◌∙◌}
use mathlib.Core.Bool.{Bool, true, false, cond, ◌&&◌}
use mathlib.Core.List.{List, [], ◌∷◌}
use mathlib.Core.Option.{Option, none, some}
use Prim.Native.Nat.{ℕ, ◌+◌, ◌≤◌, ◌<◌}
use native.Mathlib.Numerals.{add-one}
use native.Mathlib.Omega.{arith}
use lib.Dec.{eqb, ltb}
use lib.IntN.{ℤ, pos}
use lib.ListN.{length, take, set, length-append}
use lib.Seq.{take-suc-set}
use lib.Signed.{lt_z}
use borrow.Author.Tests.{lt-ltb, le-ltb}
use Rattle.std.specs.Prelude.{Some, None, Result, Ok, Err}
use Rattle.whole.specs.Lists.{AllOf}
use Rattle.whole.specs.Numbers.{Near}
use Rattle.whole.specs.Ranges.{range}
use Rattle.whole.proofs.Kit.{ints, at, rn}
use Rattle.sheet.specs.Grammar.{Line, ranged, default, must, when}
use Rattle.sheet.specs.Reading.{token_no, payload, signed_of, is_signed, read_range}
use Rattle.sheet.specs.inner.Contents.{Proper}
use Rattle.sheet.specs.inner.Forms.{declaration_of}
use Rattle.sheet.specs.declared.Token.{Token}
use Rattle.sheet.specs.declared.Token.TheVariants.{Number, Negative, Name, Fixed, Bad}
use Rattle.sheet.specs.declared.Declaration.TheVariants.{Plain, Ranged}
use Rattle.meaning.specs.Plain.{place_of, is_in, asks_of}
use Rattle.meaning.specs.Translation.{gaps, equalities}
use Rattle.meaning.specs.Draft.{Draft, quantities_in, declare, after}
use Rattle.meaning.specs.Grounds.{any_beyond, tree_fault, refused, read, or_refused, top_of, line_outcome}
use Rattle.meaning.specs.declared.Refusal.{Refusal}
use Rattle.meaning.specs.declared.Refusal.TheVariants as refusal
use Rattle.lines.specs.declared.parts.Progress.{Progress}
use Rattle.lines.specs.inner.Emission.{put_range}
use Rattle.lines.specs.inner.Stored.{Stored, Answers, tree_by, DeclaresIn}
use Rattle.meaning.proofs.LinesFit.{top_near}
use Rattle.lines.proofs.Flags.{is_in_is}
use Rattle.lines.proofs.ListFronts.{put_range_next}
use Rattle.lines.proofs.RuleDraft.{proper_declare}
use Rattle.lines.proofs.RangeHeld.{stored_declared}

-- ---- numbers within plus or minus M are read as they are
pub near_at : {z : ℤ} → Near z → Near (at z)
near_at {z} h = rw (rn z h) h

module _ {low high : ℤ} (nl : Near low) (nh : Near high) where
  pub order_told : {b : Bool} → lt_z (at high) (at low) ≡ b → lt_z high low ≡ b
  order_told e = rw (rn low nl, rn high nh) at e

  pub range_told : range (at low) (at high) ≡ range low high
  range_told = rw (rn low nl, rn high nh)

-- ---- the grounds
grounds : Bool → Bool → Bool → Bool → Option Refusal
grounds late twice order many =
    cond late (some refusal.Form) (cond twice (some refusal.Names) (cond order (some refusal.Order) (cond many (some refusal.Many) none)))

fault_is : (top : ℕ) (s : Draft) (n : ℕ) (low high : ℤ) → tree_fault top s (ranged n low high) ≡ grounds s.ruled (is_in s.names n) (lt_z high low) (ltb 128 (quantities_in (declare s n (range low high))))
unfolding tree_fault asks_of equalities gaps any_beyond after grounds
fault_is top s n low high = refl

one_more : (s : Draft) (n : ℕ) (low high : ℤ) → quantities_in (declare s n (range low high)) ≡ quantities_in s + 1
one_more s n low high = omega (arith, length-append s.declared (range low high ∷ []))

-- a fault is the outcome
faulty : (version : ℕ) (s : Draft) (k n : ℕ) (low high : ℤ) (late twice order many : Bool) (g : Refusal) → s.ruled ≡ late → is_in s.names n ≡ twice → lt_z high low ≡ order → ltb 128 (quantities_in (declare s n (range low high))) ≡ many → grounds late twice order many ≡ some g → tree_by version (some (ranged n low high)) s k ≡ refused g k
faulty version s k n low high late twice order many g a b c d e =
    let f : tree_fault (top_of version) s (ranged n low high) ≡ some g = fault_is (top_of version) s n low high ∙ rw (a, b, c, d) e in
    ap (λ (o : Option Refusal). or_refused o k (read (after (top_of version) s (ranged n low high)))) f

faultless : (version : ℕ) (s : Draft) (k n : ℕ) (low high : ℤ) → s.ruled ≡ false → is_in s.names n ≡ false → lt_z high low ≡ false → ltb 128 (quantities_in (declare s n (range low high))) ≡ false → tree_by version (some (ranged n low high)) s k ≡ read (declare s n (range low high))
unfolding after grounds
faultless version s k n low high a b c d =
    let f : tree_fault (top_of version) s (ranged n low high) ≡ none = fault_is (top_of version) s n low high ∙ rw (a, b, c, d) in
    ap (λ (o : Option Refusal). or_refused o k (read (after (top_of version) s (ranged n low high)))) f

module _ (version n : ℕ) (low high : ℤ) (g : Progress) (rs ps ns ls : List ℤ) (keys : List ℕ) (rs' : List ℤ) (keys' : List ℕ) where
  -- 24: after a rule
  pub declare_late : g.ruled ≡ true → Answers (tree_by version (some (ranged n low high))) g rs ps ns ls keys rs' ps ns ls keys' (Err refusal.Form)
  unfolding grounds
  declare_late e = record { says = λ s k h p. faulty version s k n low high true _ _ _ refusal.Form (sym h.ruled ∙ e) refl refl refl refl }

  module _ (early : g.ruled ≡ false) where
    -- 25: declared twice
    pub declare_twice : place_of (take g.declared keys) n < g.declared → Answers (tree_by version (some (ranged n low high))) g rs ps ns ls keys rs' ps ns ls keys' (Err refusal.Names)
    unfolding grounds
    declare_twice t =
        record {
          says = λ s k h p.
              let e : place_of s.names n < length s.names = rw (h.key_front, h.declared) at t in
              faulty version s k n low high false true _ _ refusal.Names (sym h.ruled ∙ early) (is_in_is s.names n ∙ lt-ltb _ _ e) refl refl refl;
        }

    module _ (fresh : g.declared ≤ place_of (take g.declared keys) n) where
      new_name : (s : Draft) → Stored s g rs ps ns ls keys → is_in s.names n ≡ false
      new_name s h =
          let e : length s.names ≤ place_of s.names n = rw (h.key_front, h.declared) at fresh in
          is_in_is s.names n ∙ le-ltb _ _ e

      -- 26: low above high
      pub declare_order : lt_z high low ≡ true → Answers (tree_by version (some (ranged n low high))) g rs ps ns ls keys rs' ps ns ls keys' (Err refusal.Order)
      unfolding grounds
      declare_order o = record { says = λ s k h p. faulty version s k n low high false false true _ refusal.Order (sym h.ruled ∙ early) (new_name s h) o refl refl }

      module _ (o : lt_z high low ≡ false) where
        -- 29: more than 128 quantities
        pub declare_many : 128 ≤ g.quantities → Answers (tree_by version (some (ranged n low high))) g rs ps ns ls keys rs' ps ns ls keys' (Err refusal.Many)
        unfolding grounds
        declare_many m =
            record {
              says = λ s k h p.
                  faulty version s k n low high false false false true refusal.Many (sym h.ruled ∙ early) (new_name s h) o
                  (lt-ltb 128 (quantities_in (declare s n (range low high))) (omega (arith, one_more s n low high, h.quantities))) refl;
            }

        -- a quantity more
        pub declare_next : Near low → Near high → DeclaresIn g rs keys → g.quantities < 128 → rs' ≡ put_range rs g.quantities (range (at low) (at high)) → keys' ≡ set keys g.declared n → Answers (tree_by version (some (ranged n low high))) g rs ps ns ls keys rs' ps ns ls keys' (Ok (record { declared = g.declared + 1; quantities = g.quantities + 1; primitives = g.primitives; clauses = g.clauses; literals = g.literals; ruled = false }))
        declare_next nl nh room q er ek =
            record {
              says = λ s k h p.
                  let few : quantities_in (declare s n (range low high)) ≤ 128 = omega (arith, one_more s n low high, h.quantities) in
                  record {
                    draft = declare s n (range low high);
                    outcome = faultless version s k n low high (sym h.ruled ∙ early) (new_name s h) o (le-ltb _ _ few);
                    stored = stored_declared h p rs' keys' n (range low high) (sym h.ruled ∙ early)
                        (record { declared = refl; quantities = refl; primitives = refl; clauses = refl; literals = refl; ruled = sym early })
                        (omega arith)
                        (rw (er, range_told nl nh) (put_range_next rs g.quantities (range low high) q (omega (arith, room.ranges))))
                        (rw (ek, add-one) (take-suc-set keys g.declared n (omega (arith, room.within, room.names))));
                    proper = proper_declare s n (range low high) p (record { low = nl; high = nh; ordered = omega (ints, o) });
                  };
            }

-- ---- what stands behind `range`
-- the default range is 0 to its top
same_default : (version : ℕ) (s : Draft) (k n : ℕ) → tree_by version (some (default n)) s k ≡ tree_by version (some (ranged n (pos 0) (pos (top_of version)))) s k
unfolding tree_fault asks_of after
same_default version s k n = by (eqb version 1)
  where
    by : (b : Bool) → (let top : ℕ = cond b 1_000_000 200_000 in line_outcome top s k (some (default n)) ≡ line_outcome top s k (some (ranged n (pos 0) (pos top))))
    by true = refl
    by false = refl

-- and that top is within plus or minus M
pub top_told : (version : ℕ) {top : ℤ} → top ≡ pos (top_of version) → Near top
top_told version e = rw e (record { low = omega ints; high = omega (ints, top_near version) })

-- what a declaration says of the tree
is_ranged : (o : Option Line) (n : ℕ) (low high : ℤ) → declaration_of o ≡ Some (Ranged n low high) → o ≡ some (ranged n low high)
is_ranged none n low high e = absurd (let z : ◌≡◌ {A = ℕ} 0 1 = cc in omega arith)
is_ranged (some (ranged m a b)) n low high e = cc
is_ranged (some (default m)) n low high e = absurd (let z : ◌≡◌ {A = ℕ} 0 1 = cc in omega arith)
is_ranged (some (must d ds)) n low high e = absurd (let z : ◌≡◌ {A = ℕ} 0 1 = cc in omega arith)
is_ranged (some (when c cs d ds)) n low high e = absurd (let z : ◌≡◌ {A = ℕ} 0 1 = cc in omega arith)

is_plain : (o : Option Line) (n : ℕ) → declaration_of o ≡ Some (Plain n) → o ≡ some (default n)
is_plain none n e = absurd (let z : ◌≡◌ {A = ℕ} 0 1 = cc in omega arith)
is_plain (some (ranged m a b)) n e = absurd (let z : ◌≡◌ {A = ℕ} 0 1 = cc in omega arith)
is_plain (some (default m)) n e = cc
is_plain (some (must d ds)) n e = absurd (let z : ◌≡◌ {A = ℕ} 0 1 = cc in omega arith)
is_plain (some (when c cs d ds)) n e = absurd (let z : ◌≡◌ {A = ℕ} 0 1 = cc in omega arith)

-- behind `range` stands no rule, and LOW and HIGH are within plus or minus M
signed_near : (t : Token) → Proper t → Near (signed_of t)
signed_near (Number n) h = record { low = omega ints; high = omega ints }
signed_near (Negative n) h = record { low = omega (ints, h); high = omega ints }
signed_near (Name n) h = record { low = omega ints; high = omega ints }
signed_near (Fixed m) h = record { low = omega ints; high = omega ints }
signed_near Bad h = record { low = omega ints; high = omega ints }

pub no_declaration : (ts : List Token) → declaration_of (read_range ts) ≡ None → read_range ts ≡ none
unfolding read_range
no_declaration [] e = refl
no_declaration (n ∷ []) e = by (eqb (token_no n) 2) e
  where
    by : (t : Bool) → declaration_of (cond t (some (default (payload n))) none) ≡ None → cond t (some (default (payload n))) none ≡ none
    by true f = absurd (let z : ◌≡◌ {A = ℕ} 0 1 = cc in omega arith)
    by false f = refl
no_declaration (n ∷ (l ∷ [])) e = refl
no_declaration (n ∷ (l ∷ (h ∷ []))) e = by (eqb (token_no n) 2 && (is_signed l && is_signed h)) e
  where
    by : (t : Bool) → declaration_of (cond t (some (ranged (payload n) (signed_of l) (signed_of h))) none) ≡ None → cond t (some (ranged (payload n) (signed_of l) (signed_of h))) none ≡ none
    by true f = absurd (let z : ◌≡◌ {A = ℕ} 0 1 = cc in omega arith)
    by false f = refl
no_declaration (n ∷ (l ∷ (h ∷ (t ∷ ts)))) e = refl

pub range_near : (ts : List Token) (m : ℕ) (low high : ℤ) → AllOf Proper ts → declaration_of (read_range ts) ≡ Some (Ranged m low high) → Near low × Near high
unfolding read_range
range_near [] m low high a e = absurd (let z : ◌≡◌ {A = ℕ} 0 1 = cc in omega arith)
range_near (n ∷ []) m low high a e = by (eqb (token_no n) 2) e
  where
    by : (t : Bool) → declaration_of (cond t (some (default (payload n))) none) ≡ Some (Ranged m low high) → Near low × Near high
    by true f = absurd (let z : ◌≡◌ {A = ℕ} 0 1 = cc in omega arith)
    by false f = absurd (let z : ◌≡◌ {A = ℕ} 0 1 = cc in omega arith)
range_near (n ∷ (l ∷ [])) m low high a e = absurd (let z : ◌≡◌ {A = ℕ} 0 1 = cc in omega arith)
range_near (n ∷ (l ∷ (h ∷ []))) m low high a e = by (eqb (token_no n) 2 && (is_signed l && is_signed h)) e
  where
    by : (t : Bool) → declaration_of (cond t (some (ranged (payload n) (signed_of l) (signed_of h))) none) ≡ Some (Ranged m low high) → Near low × Near high
    by true f =
        let el : signed_of l ≡ low = cc in
        let eh : signed_of h ≡ high = cc in
        (rw (← el) (signed_near l a.1.0), rw (← eh) (signed_near h a.1.1.0))
    by false f = absurd (let z : ◌≡◌ {A = ℕ} 0 1 = cc in omega arith)
range_near (n ∷ (l ∷ (h ∷ (t ∷ ts)))) m low high a e = absurd (let z : ◌≡◌ {A = ℕ} 0 1 = cc in omega arith)

module _ (version : ℕ) (o : Option Line) (g : Progress) (rs ps ns ls : List ℤ) (keys : List ℕ) (rs' ps' ns' ls' : List ℤ) (keys' : List ℕ) (r : Result Progress Refusal) where
  by_tree : (l : Line) → o ≡ some l → Answers (tree_by version (some l)) g rs ps ns ls keys rs' ps' ns' ls' keys' r → Answers (tree_by version o) g rs ps ns ls keys rs' ps' ns' ls' keys' r
  by_tree l e a = rw e a

  pub says_ranged : (n : ℕ) (low high : ℤ) → declaration_of o ≡ Some (Ranged n low high) → Near low × Near high → Answers (tree_by version (some (ranged n (at low) (at high)))) g rs ps ns ls keys rs' ps' ns' ls' keys' r → Answers (tree_by version o) g rs ps ns ls keys rs' ps' ns' ls' keys' r
  says_ranged n low high e near a = by_tree (ranged n low high) (is_ranged o n low high e) (rw (rn low near.0, rn high near.1) at a)

  pub says_plain : (n : ℕ) (top : ℤ) → declaration_of o ≡ Some (Plain n) → top ≡ pos (top_of version) → Answers (tree_by version (some (ranged n (pos 0) (at top)))) g rs ps ns ls keys rs' ps' ns' ls' keys' r → Answers (tree_by version o) g rs ps ns ls keys rs' ps' ns' ls' keys' r
  says_plain n top e z a =
      let b : Answers (tree_by version (some (ranged n (pos 0) (pos (top_of version))))) g rs ps ns ls keys rs' ps' ns' ls' keys' r = rw (rn top (top_told version z), z) at a in
      by_tree (default n) (is_plain o n e) (record { says = λ s k h p. rw (same_default version s k n) (b.says s k h p) })

  pub says_none : r ≡ Err refusal.Form → o ≡ none → Answers (tree_by version o) g rs ps ns ls keys rs' ps' ns' ls' keys' r
  says_none e f = rw (e, f) (record { says = λ s k h p. refl })
