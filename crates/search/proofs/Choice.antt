-- The lowest-numbered quantity with more than one value, and the low ends as a list: both go through the box once, quantity by quantity.
use mathlib.Core.Path.{◌≡◌, refl, sym, ap, ◌∙◌, fun_ext}
use mathlib.Core.List.{List, [], ◌∷◌}
use mathlib.Core.Bool.{Bool, true, false}
use Prim.Native.Nat.{ℕ, zero, suc, ◌+◌, ◌-◌, ◌*◌, ◌≤◌, ◌<◌}
use native.Mathlib.Omega.{arith}
use native.Mathlib.Decide.{ℕ_discrete, dec_lt}
use lib.ListN.{length, set}
use lib.Seq.{paste}
use lib.IntN.{ℤ, pos}
use lib.Signed.{◌≤ℤ◌, ◌<ℤ◌, lt_z}
use Rattle.std.specs.Prelude.{Option, Some, None}
use Rattle.whole.proofs.Kit.{ints}
use Rattle.problem.specs.Problem.{Box, low_at, high_at}
use Rattle.narrow.specs.Parts.{Part}
use Rattle.search.specs.Search.{open_from, lowest}
use Rattle.search.specs.Solve.{lows}
use Rattle.search.specs.Demand2.{point_at}
use Rattle.search.proofs.Copies.{paste_turn, paste_done}

-- what a choice among k quantities from r on says
abbrev Chosen : Box → ℕ → ℕ → Option ℕ → Type 0
Chosen b k r (Some q) = (q < r + k) × (low_at b q <ℤ high_at b q) × ((s : ℕ) → r ≤ s → s < q → high_at b s ≤ℤ low_at b s)
Chosen b k r None = (s : ℕ) → r ≤ s → s < r + k → high_at b s ≤ℤ low_at b s

chosen : (b : Box) (k r : ℕ) → Chosen b k r (open_from b k r)
unfolding open_from
chosen b zero r = λ s h g. absurd (omega arith)
chosen b (suc k) r = by (lt_z (low_at b r) (high_at b r)) refl (open_from b k (suc r)) (chosen b k (suc r))
  where
    -- quantity r has one value, and so have those after it
    also : high_at b r ≤ℤ low_at b r → (m : ℕ) → ((s : ℕ) → suc r ≤ s → s < m → high_at b s ≤ℤ low_at b s) → (s : ℕ) → r ≤ s → s < m → high_at b s ≤ℤ low_at b s
    also one m on s h g = pick (ℕ_discrete s r)
      where
        pick : Dec (s ≡ r) → high_at b s ≤ℤ low_at b s
        pick (yes e) = rw e one
        pick (no e) = on s (omega arith) g

    by : (t : Bool) → lt_z (low_at b r) (high_at b r) ≡ t → (x : Option ℕ) → Chosen b k (suc r) x → Chosen b (suc k) r (elim t [ true ↦ Some r | false ↦ x ])
    by true e x on = (omega arith, omega ints, λ s h g. absurd (omega arith))
    by false e (Some q) on = (omega arith, on.1, also (omega ints) q on.2)
    by false e None on = also (omega ints) (r + suc k) (λ s h g. on s h (omega arith))

lowest_below : (n : ℕ) (b : Box) (q : ℕ) → lowest n b ≡ Some q → q < n
lowest_below n b q e = let h = rw e at (chosen b n 0) in omega (arith, h.0)

-- ---- the laws of the choice, whatever the sweep
module _ {n : ℕ} {b : Box} (f : Part n b b) where
  pub lowest_leads : (q : ℕ) → lowest n b ≡ Some q → q < n
  lowest_leads = lowest_below n b

  pub lowest_wide : (q : ℕ) → lowest n b ≡ Some q → low_at b q <ℤ high_at b q
  lowest_wide q e = let h = rw e at (chosen b n 0) in h.1

  pub lowest_first : (q : ℕ) → lowest n b ≡ Some q → (r : ℕ) → r < q → low_at b r ≡ high_at b r
  lowest_first q e r g = let h = rw e at (chosen b n 0) in omega (ints, h.2 r (omega arith) g, f.filled r (omega (arith, h.0)))

  pub lowest_closed : lowest n b ≡ None → (q : ℕ) → q < n → low_at b q ≡ high_at b q
  lowest_closed e q g = let h = rw e at (chosen b n 0) in omega (ints, h q (omega arith) (omega arith), f.filled q g)

-- choices among the first m and among all n, this one of the first m, are the same
same_choice : (m n : ℕ) (b : Box) → m ≤ n → (x : Option ℕ) → Chosen b m 0 x → (y : Option ℕ) → Chosen b n 0 y → ((q : ℕ) → y ≡ Some q → q < m) → x ≡ y
same_choice m n b le (Some q) h (Some r) k f = pick (dec_lt q r) (dec_lt r q)
  where
    pick : Dec (q < r) → Dec (r < q) → Some q ≡ Some r
    pick (yes l) d = absurd (omega (ints, h.1, k.2 q (omega arith) l))
    pick (no l) (yes g) = absurd (omega (ints, k.1, h.2 r (omega arith) g))
    pick (no l) (no g) = ap Some (omega arith)
same_choice m n b le (Some q) h None k f = absurd (omega (ints, h.1, k q (omega arith) (omega (arith, h.0))))
same_choice m n b le None h (Some r) k f = absurd (omega (ints, k.1, h r (omega arith) (omega (arith, f r refl))))
same_choice m n b le None h None k f = refl

pub lowest_same : (m n : ℕ) (b : Box) → m ≤ n → ((q : ℕ) → lowest n b ≡ Some q → q < m) → lowest m b ≡ lowest n b
lowest_same m n b le = same_choice m n b le (lowest m b) (chosen b m 0) (lowest n b) (chosen b n 0)

-- ---- the loop that looks for it among the first n: each quantity before q has one value
pub lowest_some : (n : ℕ) (b : Box) (q : ℕ) → q < n → low_at b q <ℤ high_at b q → ((r : ℕ) → r < q → high_at b r ≤ℤ low_at b r) → Some q ≡ lowest n b
lowest_some n b q h wide one = same_choice n n b (omega arith) (Some q) (omega arith, wide, λ r l g. one r g) (lowest n b) (chosen b n 0) (lowest_below n b)

pub lowest_none : (n : ℕ) (b : Box) (q : ℕ) → n ≤ q → ((r : ℕ) → r < q → high_at b r ≤ℤ low_at b r) → None ≡ lowest n b
lowest_none n b q h one = same_choice n n b (omega arith) None (λ r l g. one r (omega arith)) (lowest n b) (chosen b n 0) (lowest_below n b)

pub one_more : (b : Box) (q : ℕ) → ((r : ℕ) → r < q → high_at b r ≤ℤ low_at b r) → high_at b q ≤ℤ low_at b q → (r : ℕ) → r < q + 1 → high_at b r ≤ℤ low_at b r
one_more b q one here r h = pick (ℕ_discrete r q)
  where
    pick : Dec (r ≡ q) → high_at b r ≤ℤ low_at b r
    pick (yes e) = rw e here
    pick (no e) = one r (omega arith)

-- ---- the low ends as a list
pub lows_at : (b : Box) (n : ℕ) → length b ≡ 2 * n → (q : ℕ) → point_at (lows b) q ≡ low_at b q
unfolding lows
lows_at [] n e q = refl
lows_at (l ∷ []) n e q = absurd (omega arith)
lows_at (l ∷ (h ∷ b)) n e zero = refl
lows_at (l ∷ (h ∷ b)) n e (suc q) = let z : 2 * suc q ≡ suc (suc (2 * q)) = omega arith in rw z (lows_at b (n - 1) (omega arith) q)

pub lows_point : (b : Box) (n : ℕ) → length b ≡ 2 * n → point_at (lows b) ≡ low_at b
lows_point b n e = fun_ext (lows_at b n e)

pub lows_length : (b : Box) (n : ℕ) → length b ≡ 2 * n → length (lows b) ≡ n
unfolding lows
lows_length [] n e = omega arith
lows_length (l ∷ []) n e = absurd (omega arith)
lows_length (l ∷ (x ∷ b)) n e = omega (arith, lows_length b (n - 1) (omega arith))

-- ---- the loop that writes them over d: after q turns the first q numbers are low ends
pub lows_turn : (b : Box) (d l : List ℤ) (q : ℕ) (v : ℤ) → length b ≡ 2 * length d → l ≡ paste d 0 (lows b) q → q < length d → v ≡ low_at b q → set l q v ≡ paste d 0 (lows b) (q + 1)
lows_turn b d l q v long e h f = paste_turn d (lows b) l q v e (omega (arith, lows_length b (length d) long)) h (f ∙ sym (lows_at b (length d) long q))

pub lows_done : (b : Box) (d l : List ℤ) (q : ℕ) → length b ≡ 2 * length d → l ≡ paste d 0 (lows b) q → length d ≤ q → l ≡ lows b
lows_done b d l q long e k =
    let n : length (lows b) ≡ length d = lows_length b (length d) long in
    paste_done d (lows b) l q n e (omega arith)
