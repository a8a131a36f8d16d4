-- What the code makes of a number, a name and an operation is what the definitions write: each part of the answer is the definition's.
use mathlib.Core.Path.{◌≡◌, refl, ap, ap₂, subst}
use mathlib.Core.Bool.{Bool, true, false, cond, ◌||◌}
use mathlib.Core.List.{List, [], ◌∷◌}
use Prim.Native.Nat.{ℕ, suc, ◌≤◌}
use native.Mathlib.Omega.{arith}
use lib.Dec.{eqb, leb}
use lib.IntN.{ℤ, pos}
use lib.ListN.{length}
use lib.Signed.{◌≤ℤ◌}
use borrow.Author.Tests.{ltb-false}
use Rattle.std.specs.Prelude.{Some, None, unwrap_or, nat_lt, position}
use Rattle.std.specs.List.{position_or_len}
use Rattle.std.proofs.lemmas.List.Recursion.{is_position_or_len}
use Rattle.whole.specs.Ranges.{range, sum_span, difference_span, product_span, square_span}
use Rattle.whole.specs.inner.Held.{held_span, Good}
use Rattle.whole.specs.declared.Range.{Range}
use Rattle.whole.proofs.Spans.{product_ordered, square_ordered}
use Rattle.problem.specs.Problem.{range_at}
use Rattle.problem.specs.declared.Primitive.{Primitive}
use Rattle.problem.specs.declared.Primitive.TheVariants.{Sum, Product, Square}
use Rattle.meaning.specs.Plain.{place_of, constant, quantity, sum, difference, product}
use Rattle.meaning.specs.Translation.{span_for, equation}
use Rattle.lines.specs.inner.Emission.{bump, Keeps, put_range, put_primitive, Emit, emitted_as, Emits, emit, another, operated, joined, squared_of}
use Rattle.lines.specs.declared.parts.Making.{Making}
use Rattle.lines.specs.declared.parts.Held.{Held}
use Rattle.lines.specs.declared.parts.Emitted.{Emitted}
use Rattle.lines.proofs.ComputableRanges.{bad_held, kept_held}

-- ---- a helper

-- the same of a held span
made : (k : Range) (b : Bool) (rs ps : List ℤ) (count : ℕ) (m : Making) → Emit
made k b rs ps count m =
    record {
      ranges = put_range rs m.used k;
      primitives = ps;
      making = record { used = bump m.used; count = count; unknown = m.unknown; wide = m.wide || b };
      held = record { place = m.used; span = k };
    }

another_held : (s : Range) (rs ps : List ℤ) (count : ℕ) (m : Making) → s.low ≤ℤ s.high → another (held_span s) rs ps count m ≡ another s rs ps count m
unfolding made
another_held s rs ps count m o = ap₂ (λ (k : Range) (b : Bool). made k b rs ps count m) (kept_held s o) (bad_held s o)

-- ---- operations

operated_held : (s : Range) (p : Primitive) (rs ps : List ℤ) (m : Making) {r : Emitted} {rs' ps' : List ℤ} → s.low ≤ℤ s.high → Emits (operated (held_span s) p rs ps m) r rs' ps' → Emits (operated s p rs ps m) r rs' ps'
operated_held s p rs ps m {r} {rs'} {ps'} o h =
    subst (λ (e : Emit). Emits e r rs' ps') (another_held s rs (put_primitive ps m.count p) (bump m.count) m o) h

module _ (a : Held) (e : Emitted) (rs ps : List ℤ) {s : Range} {r : Emitted} {rs' ps' : List ℤ} where
  pub sum_is : s ≡ sum_span a.span e.held.span → Emits (operated s (Sum e.making.used a.place e.held.place) rs ps e.making) r rs' ps' → Emits (joined sum a (emitted_as e rs ps)) r rs' ps'
  unfolding span_for equation
  sum_is f h = rw f at h

  pub difference_is : s ≡ difference_span a.span e.held.span → Emits (operated s (Sum a.place e.making.used e.held.place) rs ps e.making) r rs' ps' → Emits (joined difference a (emitted_as e rs ps)) r rs' ps'
  unfolding span_for equation
  difference_is f h = rw f at h

  pub product_is : Good a.span → Good e.held.span → s ≡ held_span (product_span a.span e.held.span) → Emits (operated s (Product e.making.used a.place e.held.place) rs ps e.making) r rs' ps' → Emits (joined product a (emitted_as e rs ps)) r rs' ps'
  unfolding span_for equation
  product_is g k f h =
      operated_held (product_span a.span e.held.span) (Product e.making.used a.place e.held.place) rs ps e.making
      (product_ordered a.span e.held.span g.ordered k.ordered) (rw f at h)

pub square_is : (e : Emitted) (rs ps : List ℤ) {s : Range} {r : Emitted} {rs' ps' : List ℤ} → Good e.held.span → s ≡ held_span (square_span e.held.span) → Emits (operated s (Square e.making.used e.held.place) rs ps e.making) r rs' ps' → Emits (squared_of (emitted_as e rs ps)) r rs' ps'
square_is e rs ps k f h =
    operated_held (square_span e.held.span) (Square e.making.used e.held.place) rs ps e.making
    (square_ordered e.held.span k.ordered) (rw f at h)

-- ---- a number and a name
pub constant_is : (n : ℕ) (rs ps : List ℤ) (m : Making) {z : ℤ} {r : Emitted} {rs' ps' : List ℤ} → z ≡ pos n → Emits (another (range z z) rs ps m.count m) r rs' ps' → (d : ℕ) → Emits (emit d (constant n) rs ps m) r rs' ps'
unfolding emit
constant_is n rs ps m {z} {r} {rs'} {ps'} e h d = subst (λ (x : ℤ). Emits (another (range x x) rs ps m.count m) r rs' ps') e h

pub named_is : (d q : ℕ) (rs ps : List ℤ) (m : Making) {p : ℕ} {k : Range} {b : Bool} → p ≡ q → b ≡ (m.unknown || leb d p) → Keeps (range_at rs p) k → Emits (emit d (quantity q) rs ps m) (record { held = record { place = p; span = k }; making = record { used = m.used; count = m.count; unknown = b; wide = m.wide } }) rs ps
unfolding emit
named_is d q rs ps m e f h = record { is = rw (h.is, f, e); good = h.good }

-- ---- the place of a name
module _ (n : ℕ) where
  place_in : (ks : List ℕ) → place_of ks n ≡ position_or_len (λ k. eqb k n) ks
  unfolding place_of
  place_in ks = is_position_or_len (λ ms. place_of ms n) (λ k. eqb k n) refl (λ m ms. ap (cond (eqb m n) 0) (omega arith)) ks

  place_within : (ks : List ℕ) → place_of ks n ≤ length ks
  unfolding place_of
  place_within [] = omega arith
  place_within (k ∷ ks) = by (eqb k n) (place_within ks)
    where
      by : (b : Bool) → place_of ks n ≤ length ks → cond b 0 (suc (place_of ks n)) ≤ suc (length ks)
      by true h = omega arith
      by false h = omega (arith, h)

  pub place_found : (ks : List ℕ) → unwrap_or (position (λ k. eqb k n) ks) (length ks) ≡ place_of ks n
  place_found ks = rw (← place_in ks) (by (nat_lt (place_of ks n) (length ks)) refl)
    where
      by : (b : Bool) → nat_lt (place_of ks n) (length ks) ≡ b → unwrap_or (cond b (Some (place_of ks n)) None) (length ks) ≡ place_of ks n
      by true e = refl
      by false e = let all : length ks ≡ place_of ks n = omega (arith, place_within ks, ltb-false _ _ e) in all
