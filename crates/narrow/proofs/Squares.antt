-- A square's four cuts: squares of numbers from 0 up keep the order, so a root bounds what has a square in a range, on both sides of 0.
use mathlib.Core.Path.{◌≡◌, refl, sym, ap, subst, ◌∙◌}
use mathlib.Core.Bool.{Bool, true, false, cond}
use Prim.Native.Nat.{ℕ, ◌<◌}
use lib.IntN.{ℤ, pos, neg_ℤ, ◌*ℤ◌}
use lib.Signed.{le_z}
use Rattle.whole.proofs.Kit.{ints}
use Rattle.whole.proofs.Roots.{root_in_lem, up_from, up_turned_from}
use Rattle.whole.proofs.Spans.{square_in, square_one}
use Rattle.whole.specs.Lists.{AllOf}
use Rattle.whole.specs.Numbers.{root_up}
use Rattle.whole.specs.Ranges.{Point, In, range, square_span}
use Rattle.whole.specs.declared.Range.{Range}
use Rattle.problem.specs.Problem.{Box, low_at, high_at, range_at, Holds}
use Rattle.problem.specs.declared.Primitive.TheVariants.{Square}
use Rattle.narrow.specs.Cuts.{stay, to}
use Rattle.narrow.specs.Narrowing.{raise_cut, lower_cut, square_step, square_steps}
use Rattle.narrow.proofs.Boxes.{Single, single_range}
use Rattle.narrow.proofs.Cuts.{Quiet, quiet_value, Allows}
use Rattle.narrow.specs.Named.{SitedIn}
use Rattle.narrow.proofs.Steps.{LosesNone}

module _ (n : ℕ) (p : Point) (q : ℕ) (x z : Range) (w : ℤ) (h : q < n) (i : In x (p q)) (j : In z w) (e : w ≡ p q *ℤ p q) where
  raise_allows : Allows n p (raise_cut q x z)
  raise_allows = go (le_z (pos 0) x.low) refl
    where
      go : (t : Bool) → le_z (pos 0) x.low ≡ t → Allows n p (cond t (to q (range (root_up z.low) x.high)) stay)
      go true f = (h, record { above = up_from (p q) z.low (omega ints) (omega ints); below = i.below })
      go false f = tt

  lower_allows : Allows n p (lower_cut q x z)
  lower_allows = go (le_z x.high (pos 0)) refl
    where
      go : (t : Bool) → le_z x.high (pos 0) ≡ t → Allows n p (cond t (to q (range x.low (neg_ℤ (root_up z.low)))) stay)
      go true f = (h, record { above = i.above; below = up_turned_from (p q) z.low (omega ints) (omega ints) })
      go false f = tt

pub square_sound : (n : ℕ) (p : Point) (z x : ℕ) → SitedIn n (Square z x) → Holds p (Square z x) → AllOf (LosesNone n p) (square_steps z x)
square_sound n p z x h e = (
  λ b i. (h.0, subst (In (square_span (range_at b x))) (sym e) (square_in (range_at b x) (p x) (i.each x h.1))),
  (
    λ b i. let j = i.each z h.0 in (h.1, root_in_lem (p x) (high_at b z) (omega ints)),
    (
      λ b i. raise_allows n p x (range_at b x) (range_at b z) (p z) h.1 (i.each x h.1) (i.each z h.0) e,
      (λ b i. lower_allows n p x (range_at b x) (range_at b z) (p z) h.1 (i.each x h.1) (i.each z h.0) e, tt),
    ),
  ),
)

pub square_point : (b : Box) (z x : ℕ) → Single b → Quiet b (square_step z x b) → Holds (low_at b) (Square z x)
square_point b z x o h = quiet_value b z (square_span (range_at b x)) (low_at b x *ℤ low_at b x) (o z) (ap square_span (single_range b o x) ∙ square_one (low_at b x)) h
