-- A list written over another number by number: after i turns the first i numbers are the new ones, and one turn more sets the next.
use mathlib.Core.Path.{◌≡◌, ap, ◌∙◌}
use mathlib.Core.List.{List, ◌++◌, append-nil}
use Prim.Native.Nat.{ℕ, ◌+◌, ◌≤◌, ◌<◌}
use native.Mathlib.Omega.{arith}
use native.Mathlib.Numerals.{add-one}
use lib.ListN.{length, take, get_or, set, drop_of_length-le}
use lib.Seq.{paste, paste-suc, take_all}
use lib.IntN.{ℤ, pos}

pub paste_turn : (d s l : List ℤ) (i : ℕ) (v : ℤ) → l ≡ paste d 0 s i → i < length s → i < length d → v ≡ get_or s i (pos 0) → set l i v ≡ paste d 0 s (i + 1)
paste_turn d s l i v e h k f =
    let z : i ≡ 0 + i = omega arith in
    rw (e, f, add-one i) (ap (λ (j : ℕ). set (paste d 0 s i) j (get_or s i (pos 0))) z ∙ paste-suc d 0 s i (pos 0) (omega arith) h)

pub paste_done : (d s l : List ℤ) (i : ℕ) → length s ≡ length d → l ≡ paste d 0 s i → length s ≤ i → l ≡ s
paste_done d s l i long e k =
    e ∙ ap (λ (r : List ℤ). take i s ++ r) (drop_of_length-le d {i = 0 + i} (omega arith)) ∙ append-nil (take i s) ∙ take_all i s k
