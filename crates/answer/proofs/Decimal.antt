-- A number below 10^20 has at most twenty digits: those of its tenth, and one more.
use mathlib.Core.Path.{◌≡◌, refl, sym, ap, ◌∙◌}
use mathlib.Core.Bool.{Bool, true, false, cond}
use mathlib.Core.List.{List, [], ◌∷◌, ◌++◌}
use Prim.Native.Nat.{ℕ, zero, suc, ◌+◌, ◌/◌, ◌%◌, ◌^◌, ◌≤◌, ◌<◌}
use native.Mathlib.Omega.{arith}
use native.Mathlib.Nat.{pow-suc}
use lib.Dec.{ltb}
use lib.ListN.{length, length-append}
use lib.IntN.{ℤ, pos, negsuc, ◌+ℤ◌, ◌-ℤ◌}
use lib.Signed.{◌≤ℤ◌, ◌<ℤ◌}
use borrow.Author.Tests.{lt-ltb, le-ltb, ltb-true, ltb-false}
use Rattle.whole.specs.Numbers.{positive_part}
use Rattle.whole.proofs.Kit.{ints, plus, minus, apart}
use Rattle.answer.specs.Output.{digits, decimal, signed_decimal}

digits_short : (f n : ℕ) → n < 10 → digits f n ≡ (48 + n) ∷ []
unfolding digits
digits_short zero n h = let e : n % 10 ≡ n = omega arith in rw e
digits_short (suc f) n h = rw (lt-ltb n 10 h)

digits_long : (f n : ℕ) → 10 ≤ n → digits (suc f) n ≡ digits f (n / 10) ++ ((48 + n % 10) ∷ [])
unfolding digits
digits_long f n h = rw (le-ltb n 10 h)

-- enough digits are as good as more
digits_enough : (f n : ℕ) → n < 10 ^ suc f → digits (suc f) n ≡ digits f n
digits_enough zero n h = let i : n < 10 = omega arith in digits_short 1 n i ∙ sym (digits_short 0 n i)
digits_enough (suc f) n h = go (ltb n 10) refl (digits_enough f (n / 10) (omega (arith, pow-suc 10 (suc f))))
  where
    go : (t : Bool) → ltb n 10 ≡ t → digits (suc f) (n / 10) ≡ digits f (n / 10) → digits (suc (suc f)) n ≡ digits (suc f) n
    go true e r = let i = ltb-true n 10 e in digits_short (suc (suc f)) n i ∙ sym (digits_short (suc f) n i)
    go false e r = let i = ltb-false n 10 e in digits_long (suc f) n i ∙ ap (λ (ds : List ℕ). ds ++ ((48 + n % 10) ∷ [])) r ∙ sym (digits_long f n i)

-- a number of one digit d
pub decimal_short : (n d : ℕ) → n < 10 → d ≡ 48 + n → d ∷ [] ≡ decimal n
decimal_short n d h e = ap (λ (x : ℕ). x ∷ []) e ∙ sym (digits_short 19 n h)

-- a number of more digits, the last of them d
pub decimal_long : (n d : ℕ) → 10 ≤ n → n < 2 ^ 64 → d ≡ 48 + n % 10 → decimal (n / 10) ++ (d ∷ []) ≡ decimal n
decimal_long n d h k e =
    ap (λ (x : ℕ). decimal (n / 10) ++ (x ∷ [])) e
    ∙ ap (λ (ds : List ℕ). ds ++ ((48 + n % 10) ∷ [])) (digits_enough 18 (n / 10) (omega arith))
    ∙ sym (digits_long 18 n h)

-- at most f + 1 digits
pub digits_few : (f n : ℕ) → length (digits f n) ≤ suc f
unfolding digits
digits_few zero n = omega arith
digits_few (suc f) n = go (ltb n 10) (digits_few f (n / 10))
  where
    go : (t : Bool) → length (digits f (n / 10)) ≤ suc f → length (cond t ((48 + n) ∷ []) (digits f (n / 10) ++ ((48 + n % 10) ∷ []))) ≤ suc (suc f)
    go true r = omega arith
    go false r = simp length-append (omega arith)

pub value_few : (z : ℤ) → length (signed_decimal z) ≤ 21
value_few (pos n) = omega (arith, digits_few 19 n)
value_few (negsuc n) = omega (arith, digits_few 19 (suc n))

-- ---- a value: from 0 on it is its size; below 0, `-` and the size, had from one nearer to 0
pub value_down : (z : ℤ) (n : ℕ) → z <ℤ pos 0 → n ≡ positive_part (pos 0 -ℤ (z +ℤ pos 1)) → 45 ∷ decimal (n + 1) ≡ signed_decimal z
value_down (pos m) n h e = absurd (omega ints)
value_down (negsuc m) n h e =
    ap (λ (k : ℕ). 45 ∷ decimal k) (omega (ints, plus (negsuc m) (pos 1), minus (pos 0) (negsuc m +ℤ pos 1), apart (pos 0 -ℤ (negsuc m +ℤ pos 1))))
