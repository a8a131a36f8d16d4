-- The ranges of helpers are in order, as those of the declared quantities are; so such a range can be computed with exactly if no end is beyond plus or minus M.
use mathlib.Core.Path.{◌≡◌, refl, sym, ap, ◌∙◌}
use mathlib.Core.Bool.{Bool, true, false, ◌||◌}
use mathlib.Core.List.{List, [], ◌∷◌, ◌++◌}
use Prim.Native.Nat.{ℕ, zero, suc}
use lib.IntN.{ℤ, pos}
use lib.ListN.{get_or}
use lib.Signed.{lt_z, ◌≤ℤ◌}
use Rattle.whole.specs.Numbers.{M, minus_m, Near}
use Rattle.whole.specs.Lists.{AllOf}
use Rattle.whole.specs.Ranges.{range}
use Rattle.whole.specs.inner.Held.{Good}
use Rattle.whole.specs.declared.Range.{Range}
use Rattle.whole.proofs.Kit.{ints}
use Rattle.whole.proofs.Spans.{sum_ordered, difference_ordered, product_ordered, square_ordered}
use Rattle.problem.specs.Grounds.{beyond, bad_range}
use Rattle.meaning.specs.Plain.{Operation, sum, difference, product, Tree, constant, quantity, binary, square}
use Rattle.meaning.specs.Translation.{span_for, range_of}
use Rattle.meaning.specs.Grounds.{any_beyond}
use Rattle.lines.specs.inner.Emission.{kept}
use Rattle.lines.proofs.Flags.{or_assoc}
use Rattle.meaning.proofs.Tests.{either_off}

-- ---- tests of two parts
pub or_true : (a : Bool) → (a || true) ≡ true
or_true true = refl
or_true false = refl

pub any_append : (xs ys : List Range) → any_beyond (xs ++ ys) ≡ (any_beyond xs || any_beyond ys)
unfolding any_beyond
any_append [] ys = refl
any_append (x ∷ xs) ys =
    ap (λ (z : Bool). (beyond x.low || beyond x.high) || z) (any_append xs ys)
    ∙ sym (or_assoc (beyond x.low || beyond x.high) (any_beyond xs) (any_beyond ys))

-- ---- a range in order
abbrev pub Ordered : Range → Type 0
Ordered r = r.low ≤ℤ r.high

near_end : (z : ℤ) → beyond z ≡ false → Near z
near_end z e =
    let k = either_off (lt_z z minus_m) (lt_z M z) e in
    let l = k.0 in
    let h = k.1 in
    omega ints

pub ordered_good : (r : Range) → Ordered r → (beyond r.low || beyond r.high) ≡ false → Good r
ordered_good r o e =
    let k = either_off (beyond r.low) (beyond r.high) e in
    record { low = near_end r.low k.0; high = near_end r.high k.1; ordered = o }

pub ordered_bad : (r : Range) → Ordered r → bad_range r.low r.high ≡ (beyond r.low || beyond r.high)
ordered_bad r o = let e : lt_z r.high r.low ≡ false = omega ints in rw e

near_test : (z : ℤ) → Near z → beyond z ≡ false
near_test z n =
    let e : lt_z z minus_m ≡ false = omega ints in
    let f : lt_z M z ≡ false = omega ints in
    rw (e, f)

pub good_bad : (r : Range) → Good r → bad_range r.low r.high ≡ false
good_bad r g = ordered_bad r g.ordered ∙ rw (near_test r.low g.low, near_test r.high g.high)

pub good_kept : (r : Range) → Good r → kept r ≡ r
good_kept r g = rw (good_bad r g)

-- ---- the ranges of trees
spans_ordered : (o : Operation) (x y : Range) → Ordered x → Ordered y → Ordered (span_for o x y)
unfolding span_for
spans_ordered sum x y h k = sum_ordered x y h k
spans_ordered difference x y h k = difference_ordered x y h k
spans_ordered product x y h k = product_ordered x y h k

zero_good : Good (range (pos 0) (pos 0))
zero_good = omega ints

pub declared_good : (ds : List Range) (q : ℕ) → AllOf Good ds → Good (get_or ds q (range (pos 0) (pos 0)))
declared_good [] q g = zero_good
declared_good (d ∷ ds) zero g = g.0
declared_good (d ∷ ds) (suc q) g = declared_good ds q g.1

module _ (ds : List Range) (good : AllOf Good ds) where
  pub range_ordered : (t : Tree) → Ordered (range_of ds t)
  unfolding range_of
  range_ordered (constant n) = omega ints
  range_ordered (quantity q) = (declared_good ds q good).ordered
  range_ordered (binary o a b) = spans_ordered o (range_of ds a) (range_of ds b) (range_ordered a) (range_ordered b)
  range_ordered (square a) = square_ordered (range_of ds a) (range_ordered a)
