-- Each step of `count_on` is a turn of the loop.
use Rattle.std.proofs.Common.{◌≡◌, ℕ, ◌+◌, ◌-◌, ◌*◌, ◌%◌, ◌^◌, List, [], ◌∷◌, true, false, length, refl, arith}
use Rattle.std.proofs.lemmas.Grind.{common_steps}
use Rattle.std.specs.Char.{is_ascii_digit}
use Rattle.cases.specs.Counts.{count_on}
use Rattle.cases.proofs.fields.UsizeNumber.read.Goals as goal

ends : (n : ℕ) (bs : List ℕ) → length bs ≡ 0 → count_on n bs ≡ n
unfolding count_on
ends n [] e = refl
ends n (b ∷ bs) e = absurd (omega (arith, e))

stops : (n b : ℕ) (bs : List ℕ) → is_ascii_digit b ≡ false → count_on n (b ∷ bs) ≡ n
unfolding count_on
stops n b bs e = rw e refl

goes : (n b : ℕ) (bs : List ℕ) → is_ascii_digit b ≡ true → count_on n (b ∷ bs) ≡ count_on ((n * 10 % 2 ^ 64 + (b - 48)) % 2 ^ 64) bs
unfolding count_on
goes n b bs e = rw e refl

pub returns-then-not-is_ascii_digit : goal.returns-then-not-is_ascii_digit
returns-then-not-is_ascii_digit c = grind (arith, common_steps, stops)

pub loop-byte-preserved : goal.loop-byte-preserved
loop-byte-preserved c = grind (arith, common_steps, goes)

pub returns : goal.returns
returns c = grind (arith, common_steps, ends)
