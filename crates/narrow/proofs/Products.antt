-- A product's cuts: the end products are the extremes of the product, and a factor whose other factor is not 0 is a quotient.
use mathlib.Core.Path.{◌≡◌, refl, sym, ap₂, subst, ◌∙◌}
use mathlib.Core.Bool.{Bool, true, false, cond}
use Prim.Native.Nat.{ℕ, ◌<◌}
use lib.IntN.{ℤ, ◌*ℤ◌}
use Rattle.whole.proofs.Kit.{*ℤ_comm'}
use Rattle.whole.proofs.Spans.{product_in, product_one}
use Rattle.whole.specs.Lists.{AllOf}
use Rattle.whole.specs.Ranges.{Point, In, holds_zero, product_span}
use Rattle.whole.specs.declared.Range.{Range}
use Rattle.problem.specs.Problem.{Box, low_at, range_at, Holds}
use Rattle.problem.specs.declared.Primitive.TheVariants.{Product}
use Rattle.narrow.specs.Cuts.{stay, to}
use Rattle.narrow.specs.Narrowing.{quotient_span, quotient_cut, product_step, product_steps}
use Rattle.narrow.proofs.Boxes.{Single, single_range}
use Rattle.narrow.proofs.Cuts.{Quiet, quiet_value, Allows}
use Rattle.narrow.proofs.Quotients.{quotient_in}
use Rattle.narrow.proofs.Beside.{trim_allows}
use Rattle.narrow.specs.Named.{SitedIn}
use Rattle.narrow.proofs.Steps.{LosesNone}

quotient_allows : (n : ℕ) (p : Point) (x : ℕ) (z y : Range) (w v : ℤ) → x < n → In z w → In y v → w ≡ p x *ℤ v → Allows n p (quotient_cut x z y)
quotient_allows n p x z y w v h i j e = go (holds_zero y) refl
  where
    go : (t : Bool) → holds_zero y ≡ t → Allows n p (cond t stay (to x (quotient_span z y)))
    go true f = tt
    go false f = (h, quotient_in z y w (p x) v f i j e)

pub product_sound : (n : ℕ) (p : Point) (z x y : ℕ) → SitedIn n (Product z x y) → Holds p (Product z x y) → AllOf (LosesNone n p) (product_steps z x y)
product_sound n p z x y h e = (
  λ b i. (h.0, subst (In (product_span (range_at b x) (range_at b y))) (sym e) (product_in (range_at b x) (range_at b y) (p x) (p y) (i.each x h.1.0) (i.each y h.1.1))),
  (
    λ b i. trim_allows n p y (range_at b y) h.1.1 (i.each y h.1.1) (range_at b z) (p z) (p x) (i.each z h.0) e,
    (
      λ b i. quotient_allows n p x (range_at b z) (range_at b y) (p z) (p y) h.1.0 (i.each z h.0) (i.each y h.1.1) e,
      (
        λ b i. trim_allows n p x (range_at b x) h.1.0 (i.each x h.1.0) (range_at b z) (p z) (p y) (i.each z h.0) turned,
        (λ b i. quotient_allows n p y (range_at b z) (range_at b x) (p z) (p x) h.1.1 (i.each z h.0) (i.each x h.1.0) turned, tt),
      ),
    ),
  ),
)
  where
    turned : p z ≡ p y *ℤ p x
    turned = e ∙ *ℤ_comm' (p x) (p y)

pub product_point : (b : Box) (z x y : ℕ) → Single b → Quiet b (product_step z x y b) → Holds (low_at b) (Product z x y)
product_point b z x y o h =
    quiet_value b z (product_span (range_at b x) (range_at b y)) (low_at b x *ℤ low_at b y) (o z)
    (ap₂ product_span (single_range b o x) (single_range b o y) ∙ product_one (low_at b x) (low_at b y)) h
