-- A quiet result of ranges of one value is one value: the span that it is cut to has one value, and the range lies in it.
use mathlib.Core.Path.{◌≡◌, refl, sym, ap, ap₂, ◌∙◌}
use mathlib.Core.Logic.{⊎_elim}
use mathlib.Core.Bool.{true, true≢false}
use mathlib.Core.List.{List, [], ◌∷◌, map}
use Prim.Native.Nat.{ℕ, ◌<◌}
use lib.IntN.{ℤ, ◌+ℤ◌, ◌-ℤ◌, ◌*ℤ◌}
use lib.Signed.{◌≤ℤ◌}
use Rattle.whole.specs.Ranges.{range, sum_span, difference_span, product_span, square_span}
use Rattle.whole.specs.declared.Range.{Range}
use Rattle.whole.proofs.Kit.{ints}
use Rattle.whole.proofs.Spans.{sum_one, product_one, square_one}
use Rattle.problem.specs.Problem.{Box, low_at, high_at, range_at}
use Rattle.problem.specs.Leading.{makes, made}
use Rattle.problem.specs.declared.Primitive.{Primitive}
use Rattle.problem.specs.declared.Literal.{Literal}
use Rattle.problem.proofs.Tests.{or_either}
use Rattle.problem.proofs.Defined.{Result, sum_of, first_of, second_of_lem, product_of, square_of, result}
use Rattle.narrow.specs.Cuts.{to, unchanged}
use Rattle.narrow.specs.Narrowing.{primitive_steps, clause_step}
use Rattle.narrow.specs.Sweep.{all_steps, sweep_of}
use Rattle.narrow.proofs.Cuts.{Quiet}
use Rattle.narrow.proofs.Lists.{left, right}
use Rattle.narrow.proofs.Steps.{QuietAt, AllQuiet}
use Rattle.narrow.proofs.SweepLaws.{sweep_quiet}

-- a range in a span of one value
quiet_one : (b : Box) (q : ℕ) (s : Range) (v : ℤ) → s ≡ range v v → low_at b q ≤ℤ high_at b q → Quiet b (to q s) → low_at b q ≡ high_at b q
quiet_one b q s v e f h = omega (ints, ap (λ (r : Range). r.low) e, ap (λ (r : Range). r.high) e)

difference_one : (u v : ℤ) → difference_span (range u u) (range v v) ≡ range (u -ℤ v) (u -ℤ v)
difference_one u v = refl

-- every quantity before q has one value
abbrev Lower : Box → ℕ → Type 0
Lower b q = (r : ℕ) → r < q → low_at b r ≡ high_at b r

one_range : (b : Box) {q : ℕ} → Lower b q → (r : ℕ) → r < q → range_at b r ≡ range (low_at b r) (low_at b r)
one_range b l r h = ap (range (low_at b r)) (sym (l r h))

-- ---- by the steps of one primitive, by those of a list, and by a sweep
primitive_one : (b : Box) {p : Primitive} {q : ℕ} → Result p q → Lower b q → low_at b q ≤ℤ high_at b q → AllQuiet b (primitive_steps p) → low_at b q ≡ high_at b q
primitive_one b (sum_of {z} {x} {y} hx hy) l f h =
    quiet_one b z (sum_span (range_at b x) (range_at b y)) (low_at b x +ℤ low_at b y) (ap₂ sum_span (one_range b l x hx) (one_range b l y hy) ∙ sum_one (low_at b x) (low_at b y)) f h.0
primitive_one b (first_of {z} {x} {y} hz hy) l f h =
    quiet_one b x (difference_span (range_at b z) (range_at b y)) (low_at b z -ℤ low_at b y) (ap₂ difference_span (one_range b l z hz) (one_range b l y hy) ∙ difference_one (low_at b z) (low_at b y)) f h.1.0
primitive_one b (second_of_lem {z} {x} {y} hz hx) l f h =
    quiet_one b y (difference_span (range_at b z) (range_at b x)) (low_at b z -ℤ low_at b x) (ap₂ difference_span (one_range b l z hz) (one_range b l x hx) ∙ difference_one (low_at b z) (low_at b x)) f h.1.1.0
primitive_one b (product_of {z} {x} {y} hx hy) l f h =
    quiet_one b z (product_span (range_at b x) (range_at b y)) (low_at b x *ℤ low_at b y) (ap₂ product_span (one_range b l x hx) (one_range b l y hy) ∙ product_one (low_at b x) (low_at b y)) f h.0
primitive_one b (square_of {z} {x} hx) l f h =
    quiet_one b z (square_span (range_at b x)) (low_at b x *ℤ low_at b x) (ap square_span (one_range b l x hx) ∙ square_one (low_at b x)) f h.0

primitives_one : (b : Box) (ps : List Primitive) (q : ℕ) → made ps q ≡ true → Lower b q → low_at b q ≤ℤ high_at b q → AllQuiet b (all_steps ps) → low_at b q ≡ high_at b q
unfolding made all_steps
primitives_one b [] q e l f h = absurd (true≢false (sym e))
primitives_one b (p ∷ ps) q e l f h =
    ⊎_elim
    (λ t. primitive_one b (result p q t) l f (left (QuietAt b) (primitive_steps p) (all_steps ps) h))
    (λ t. primitives_one b ps q t l f (right (QuietAt b) (primitive_steps p) (all_steps ps) h))
    (or_either (makes p q) (made ps q) e)

pub made_one : (ps : List Primitive) (cs : List (List Literal)) (b b' : Box) (q : ℕ) → made ps q ≡ true → ((r : ℕ) → r < q → low_at b r ≡ high_at b r) → low_at b q ≤ℤ high_at b q
    → sweep_of ps cs b ≡ unchanged b' → low_at b q ≡ high_at b q
made_one ps cs b b' q e l f s = primitives_one b ps q e l f (left (QuietAt b) (all_steps ps) (map clause_step cs) (sweep_quiet ps cs b b' s))
