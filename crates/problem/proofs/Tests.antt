-- Tests joined by `or` and by `and`, taken in order: of an `or` the first that is true decides, and where all are false each of them is.
use mathlib.Core.Path.{◌≡◌, refl, sym}
use mathlib.Core.Logic.{◌⊎◌, inl, inr}
use mathlib.Core.Bool.{Bool, true, false, not, ◌&&◌, ◌||◌, true≢false}
use Prim.Native.Nat.{ℕ, ◌<◌}
use native.Mathlib.Omega.{arith}
use borrow.Author.Tests.{eqb-true, eqb-false, lt-ltb, le-ltb, ltb-false}
use lib.Dec.{eqb, ltb}
use lib.IntN.{pos}
use Rattle.problem.specs.Grounds.{differ}

pub or_yes : (a b : Bool) → a ≡ true → true ≡ (a || b)
or_yes a b e = rw e

pub or_no : (a b : Bool) {r : Bool} → a ≡ false → r ≡ b → r ≡ (a || b)
or_no a b e f = rw (e, f)

pub or_first : (a b : Bool) → (a || b) ≡ false → a ≡ false
or_first true b e = absurd (true≢false e)
or_first false b e = refl

pub or_second : (a b : Bool) → (a || b) ≡ false → b ≡ false
or_second true b e = absurd (true≢false e)
or_second false b e = e

pub or_either : (a b : Bool) → (a || b) ≡ true → (a ≡ true) ⊎ (b ≡ true)
or_either true b e = inl refl
or_either false b e = inr e

pub and_both : (a b : Bool) → (a && b) ≡ true → (a ≡ true) × (b ≡ true)
and_both true b e = (refl, e)
and_both false b e = absurd (true≢false (sym e))

pub by_bool {ℓ} : {A : Type ℓ} (t : Bool) → (t ≡ true → A) → (t ≡ false → A) → A
by_bool true f g = f refl
by_bool false f g = g refl

-- whether two sizes differ, by the sizes and by the numbers
pub differ_is : (a b : ℕ) → not (eqb a b) ≡ differ (pos b) (pos a)
differ_is a b =
    by_bool (eqb a b)
    (λ e. let s = eqb-true a b e in rw (e, le-ltb b a (omega arith), le-ltb a b (omega arith)))
    (λ e. by_bool (ltb b a) (λ f. rw (e, f)) (λ f. rw (e, f, lt-ltb a b (more e f))))
  where
    more : eqb a b ≡ false → ltb b a ≡ false → a < b
    more e f = omega (arith, eqb-false a b e, ltb-false b a f)
