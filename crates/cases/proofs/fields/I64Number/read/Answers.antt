-- A number below 0 is one less than the opposite of a count that is one less, so that the least of them fits.
use Rattle.std.specs.Prelude.{◌≡◌, ℕ, zero, suc, pos, negsuc, ◌-◌, ◌%◌, ◌^◌, ◌<◌, ◌≤◌, List, [], ◌∷◌, Bool, true, false, ◌&&◌, cond, eqb, take, drop}
use Rattle.std.proofs.Common.{arith, refl, ap, nat_eq, ◌-ℤ◌, to_z, of_z, w64, get_or}
use mathlib.Core.Path.{◌∙◌, sym}
use Rattle.std.proofs.lemmas.Bool.{true≢false}
use Rattle.std.specs.Cmp.Lexicographic.{pointwise, same_text}
use Rattle.std.proofs.lemmas.Nat.{mod_below}
use Rattle.std.proofs.lemmas.Int.{to_z_pos, to_z-of_z}
use Rattle.cases.specs.Counts.{count_on, number_of, above, below}
use Rattle.cases.proofs.fields.I64Number.read.Goals as goal

minus : (bs : List ℕ) → pointwise nat_eq (take 1 bs) (45 ∷ []) ≡ true → number_of bs ≡ below (count_on 0 (drop 1 bs))
unfolding number_of
minus [] e = absurd (true≢false (sym e))
minus (b ∷ bs) e = let q : b ≡ 45 = ap (λ xs. get_or xs 0 0) (same_text (b ∷ []) (45 ∷ []) (sym e)) in rw q refl

plus : (bs : List ℕ) → pointwise nat_eq (take 1 bs) (45 ∷ []) ≡ false → number_of bs ≡ above (count_on 0 bs)
unfolding number_of above count_on
plus [] e = refl
plus (b ∷ bs) e = by (eqb b 45) e
  where
    by : (t : Bool) → (t && true) ≡ false → cond t (below (count_on 0 bs)) (above (count_on 0 (b ∷ bs))) ≡ above (count_on 0 (b ∷ bs))
    by true h = absurd (true≢false h)
    by false h = refl

less_one : (m : ℕ) → negsuc 0 -ℤ pos m ≡ negsuc m
less_one zero = refl
less_one (suc m) = ap negsuc (omega arith)

one_less : (n : ℕ) → to_z w64 (of_z w64 (negsuc 0 -ℤ to_z w64 (n % 2 ^ 63))) ≡ negsuc (n % 2 ^ 63)
one_less n =
    let h : n % 2 ^ 63 < 2 ^ 63 = mod_below n (2 ^ 63) (omega arith) in
    ap (λ z. to_z w64 (of_z w64 (negsuc 0 -ℤ z))) (to_z_pos w64 (n % 2 ^ 63) h) ∙ ap (λ z. to_z w64 (of_z w64 z)) (less_one (n % 2 ^ 63)) ∙ to_z-of_z w64 (negsuc (n % 2 ^ 63)) (record { sfits = h })

above_is : (n : ℕ) → to_z w64 (n % 2 ^ 63) ≡ above n
unfolding above
above_is n = to_z_pos w64 (n % 2 ^ 63) (mod_below n (2 ^ 63) (omega arith))

below_zero : (n : ℕ) → (1 ≤ n → ⊥) → below n ≡ pos 0
unfolding below
below_zero zero h = refl
below_zero (suc n) h = absurd (h (omega arith))

below_suc : (n m : ℕ) → 1 ≤ n → m ≡ n - 1 → below n ≡ negsuc (m % 2 ^ 63)
unfolding below
below_suc zero m h e = absurd (omega (arith, h))
below_suc (suc n) m h e = let q : m ≡ n = omega (arith, e) in rw q refl

pub returns-in-Some-checked_sub : goal.returns-in-Some-checked_sub
returns-in-Some-checked_sub c =
    let s = c.in-Some.ensures.cases in
    let n = c.in-Some-checked_sub.ensures in
    one_less c.in-Some-checked_sub.count ∙ sym (minus c.args.bytes.now s.0 ∙ ap (λ ds. below (count_on 0 ds)) (sym s.1) ∙ ap below (sym c.read.ensures) ∙ below_suc c.read.result c.in-Some-checked_sub.count n.0 n.1)

pub returns-in-None-checked_sub : goal.returns-in-None-checked_sub
returns-in-None-checked_sub c =
    let s = c.in-Some.ensures.cases in
    sym (minus c.args.bytes.now s.0 ∙ ap (λ ds. below (count_on 0 ds)) (sym s.1) ∙ ap below (sym c.read.ensures) ∙ below_zero c.read.result c.in-None-checked_sub.ensures)

pub returns-in-None : goal.returns-in-None
returns-in-None c = rw (c.read-in-None.ensures, plus c.args.bytes.now c.in-None.ensures.cases) (above_is (count_on 0 c.args.bytes.now))
