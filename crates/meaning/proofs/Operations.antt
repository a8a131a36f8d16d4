-- What one operation's range and its primitive say: the range holds the operation's value, and the primitive its equation.
use mathlib.Core.Path.{◌≡◌}
use Prim.Native.Nat.{ℕ}
use lib.IntN.{ℤ}
use Rattle.whole.specs.Ranges.{Point, In}
use Rattle.whole.specs.declared.Range.{Range}
use Rattle.whole.proofs.Kit.{ints, plus, minus}
use Rattle.whole.proofs.Spans.{sum_in, difference_in, product_in}
use Rattle.problem.specs.Problem.{Holds}
use Rattle.meaning.specs.Plain.{Operation, sum, difference, product}
use Rattle.meaning.specs.Translation.{span_for, equation}
use Rattle.meaning.proofs.Definitions.{opened}
use Rattle.meaning.proofs.PlainValues.{result}

-- ---- the range of an operation holds its value
pub operation_in : (o : Operation) (x y : Range) (u v : ℤ) → In x u → In y v → In (span_for o x y) (result o u v)
unfolding span_for
operation_in sum x y u v h k = sum_in x y u v h k
operation_in difference x y u v h k = difference_in x y u v h k
operation_in product x y u v h k = product_in x y u v h k

-- ---- an operation's primitive says what it should
pub says : (p : Point) (o : Operation) (h x y : ℕ) → Holds p (equation o h x y) → p h ≡ result o (p x) (p y)
unfolding opened
says p sum h x y e = e
says p difference h x y e = omega (ints, plus (p h) (p y), minus (p x) (p y))
says p product h x y e = e

pub said : (p : Point) (o : Operation) (h x y : ℕ) → p h ≡ result o (p x) (p y) → Holds p (equation o h x y)
unfolding opened
said p sum h x y e = e
said p difference h x y e = omega (ints, plus (p h) (p y), minus (p x) (p y))
said p product h x y e = e
