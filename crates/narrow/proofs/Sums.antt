-- A sum's three cuts: sums and differences keep the order, so the ends of two ranges bound what the third can be.
use mathlib.Core.Path.{◌≡◌, sym, ap₂, subst, ◌∙◌}
use Prim.Native.Nat.{ℕ}
use lib.IntN.{◌+ℤ◌, ◌-ℤ◌}
use Rattle.whole.proofs.Kit.{ints, plus, minus}
use Rattle.whole.proofs.Spans.{sum_in, difference_in, sum_one}
use Rattle.whole.specs.Lists.{AllOf}
use Rattle.whole.specs.Ranges.{Point, In, sum_span, difference_span}
use Rattle.problem.specs.Problem.{Box, low_at, range_at, Holds}
use Rattle.problem.specs.declared.Primitive.TheVariants.{Sum}
use Rattle.narrow.specs.Narrowing.{sum_step, sum_steps}
use Rattle.narrow.proofs.Boxes.{Single, single_range}
use Rattle.narrow.proofs.Cuts.{Quiet, quiet_value}
use Rattle.narrow.specs.Named.{SitedIn}
use Rattle.narrow.proofs.Steps.{LosesNone}

pub sum_sound : (n : ℕ) (p : Point) (z x y : ℕ) → SitedIn n (Sum z x y) → Holds p (Sum z x y) → AllOf (LosesNone n p) (sum_steps z x y)
sum_sound n p z x y h e =
    let ex : p z -ℤ p y ≡ p x = omega (ints, plus (p x) (p y), minus (p z) (p y)) in
    let ey : p z -ℤ p x ≡ p y = omega (ints, plus (p x) (p y), minus (p z) (p x)) in (
      λ b i. (h.0, subst (In (sum_span (range_at b x) (range_at b y))) (sym e) (sum_in (range_at b x) (range_at b y) (p x) (p y) (i.each x h.1.0) (i.each y h.1.1))),
      (
        λ b i. (h.1.0, subst (In (difference_span (range_at b z) (range_at b y))) ex (difference_in (range_at b z) (range_at b y) (p z) (p y) (i.each z h.0) (i.each y h.1.1))),
        (
          λ b i. (h.1.1, subst (In (difference_span (range_at b z) (range_at b x))) ey (difference_in (range_at b z) (range_at b x) (p z) (p x) (i.each z h.0) (i.each x h.1.0))),
          tt,
        ),
      ),
    )

pub sum_point : (b : Box) (z x y : ℕ) → Single b → Quiet b (sum_step z x y b) → Holds (low_at b) (Sum z x y)
sum_point b z x y o h = quiet_value b z (sum_span (range_at b x) (range_at b y)) (low_at b x +ℤ low_at b y) (o z) (ap₂ sum_span (single_range b o x) (single_range b o y) ∙ sum_one (low_at b x) (low_at b y)) h
