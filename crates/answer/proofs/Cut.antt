-- A text of more than 4,096 bytes is refused whatever follows, so its first 4,097 bytes have the answer of the whole.
use mathlib.Core.Path.{◌≡◌, refl, sym, ap, ◌∙◌}
use mathlib.Core.Bool.{Bool, true, false}
use mathlib.Core.List.{List}
use Prim.Native.Nat.{ℕ, ◌<◌}
use native.Mathlib.Omega.{arith}
use lib.Dec.{leb}
use lib.ListN.{length, take}
use lib.Seq.{length-take-le, take_all}
use borrow.Author.Tests.{ne_eqb, lt-ltb, leb-true, leb-false}
use Rattle.meaning.specs.Grounds.{outcome_of}
use Rattle.answer.specs.Output.{refused_line, output_of}

pub long_refused : (t : List ℕ) → 4096 < length t → output_of t ≡ refused_line 20 0
unfolding output_of outcome_of
long_refused t h = rw (ne_eqb (length t) 0 (λ e. omega arith), lt-ltb 4096 (length t) h)

pub cut_same : (t : List ℕ) → output_of (take 4097 t) ≡ output_of t
cut_same t = go (leb (length t) 4097) refl
  where
    go : (b : Bool) → leb (length t) 4097 ≡ b → output_of (take 4097 t) ≡ output_of t
    go true e = ap output_of (take_all 4097 t (leb-true (length t) 4097 e))
    go false e =
        let h = leb-false (length t) 4097 e in
        long_refused (take 4097 t) (omega (arith, length-take-le 4097 t (omega arith))) ∙ sym (long_refused t (omega arith))
