-- The search ends, for every sweep and choice under the laws: a changed box is smaller, and so is each part of a split one, so after some sweeps
-- the box in hand is used up, or the search has decided.
use mathlib.Core.Path.{◌≡◌, refl, ◌∙◌}
use mathlib.Core.Logic.{◌⊎◌, inl, inr, ⊎_elim}
use mathlib.Core.List.{List, [], ◌∷◌}
use Prim.Native.Nat.{ℕ, zero, suc, ◌+◌, ◌≤◌, ◌<◌}
use native.Mathlib.Decide.{ℕ_discrete}
use native.Mathlib.Omega.{arith}
use lib.IntN.{pos, ◌-ℤ◌}
use Rattle.std.specs.Prelude.{Option, Some, None}
use Rattle.whole.specs.Numbers.{positive_part}
use Rattle.whole.proofs.Kit.{ints, plus, minus, apart}
use Rattle.problem.specs.Problem.{Box, low_at, high_at}
use Rattle.narrow.specs.Cuts.{Swept, empty, changed, unchanged}
use Rattle.narrow.specs.Parts.{Part, Smaller}
use Rattle.search.specs.Search.{middle_at, lower_part, upper_part, Outcome, stopped, run}
use Rattle.search.specs.Demand2.{Decides}
use Rattle.search.specs.inner.Laws.{Lawful, Ending}
use Rattle.search.proofs.Splits.{Splits, part_trans, lower_part_lem, upper_part_lem, lower_at, upper_at, halved}
use Rattle.search.proofs.Run.{run_go, run_out, run_end, step_out, step_taken, step_cut, step_split, step_end, resume}
use Rattle.search.proofs.Demand2.{cuts, splits}

-- ---- how large a box is: the widths of its ranges, together
abbrev width : Box → ℕ → ℕ
width b q = positive_part (high_at b q -ℤ low_at b q)

unfoldable size : ℕ → Box → ℕ
size zero b = 0
size (suc q) b = size q b + width b q

module _ {n : ℕ} {a b : Box} (f : Part n a b) where
  width_le : (q : ℕ) → q < n → width b q ≤ width a q
  width_le q h =
      omega (ints, minus (high_at b q) (low_at b q), minus (high_at a q) (low_at a q), apart (high_at b q -ℤ low_at b q), apart (high_at a q -ℤ low_at a q), f.low q h, f.filled q h, f.high q h)

  width_lt : (s : Smaller n a b) → width b s.place < width a s.place
  width_lt s =
      let q = s.place in
      let h = s.counted in
      ⊎_elim
      (λ l. omega (ints, minus (high_at b q) (low_at b q), minus (high_at a q) (low_at a q), apart (high_at b q -ℤ low_at b q), apart (high_at a q -ℤ low_at a q), f.filled q h, f.high q h))
      (λ l. omega (ints, minus (high_at b q) (low_at b q), minus (high_at a q) (low_at a q), apart (high_at b q -ℤ low_at b q), apart (high_at a q -ℤ low_at a q), f.low q h, f.filled q h))
      s.less

  size_le : (k : ℕ) → k ≤ n → size k b ≤ size k a
  unfolding size
  size_le zero h = omega arith
  size_le (suc k) h = omega (arith, size_le k (omega arith), width_le k h)

  size_at : (q : ℕ) → width b q < width a q → (k : ℕ) → k ≤ n → q < k → size k b < size k a
  unfolding size
  size_at q lt zero h g = absurd (omega arith)
  size_at q lt (suc k) h g = by (ℕ_discrete q k) (size_le k (omega arith)) (size_at q lt k (omega arith))
    where
      by : Dec (q ≡ k) → size k b ≤ size k a → (q < k → size k b < size k a) → size (suc k) b < size (suc k) a
      by (yes e) le on = let new = rw e at lt in omega arith
      by (no ne) le on = let new = on (omega arith) in omega (arith, width_le k h)

  size_lt : Smaller n a b → size n b < size n a
  size_lt s = size_at s.place (width_lt s) n (omega arith) s.counted

module _ {n : ℕ} {b : Box} {q : ℕ} (z : Splits n b q) where
  lower_smaller : Smaller n b (lower_part b q)
  lower_smaller = record { place = q; counted = z.less; less = inr (omega (ints, z.wide, halved z, lower_at z)) }

  upper_smaller : Smaller n b (upper_part b q)
  upper_smaller = record { place = q; counted = z.less; less = inl (omega (ints, z.wide, halved z, upper_at z, plus (middle_at b q) (pos 1))) }

-- ---- the box in hand is used up: the search has decided, or the boxes that waited are left
abbrev Reached : List Box → Outcome → Type 0
Reached [] o = Decides o
Reached (w ∷ ws) o = Decides o ⊎ (o ≡ stopped w ws)

decides : (ws : List Box) (o : Outcome) → Decides o → Reached ws o
decides [] o d = d
decides (w ∷ ws) o d = inl d

module _ {sweep : Box → Swept} {choose : Box → Option ℕ} {n lead : ℕ} {start : Box} (law : Lawful sweep choose n lead start) (ending : Ending sweep n start) where
  used_up : (s : ℕ) (c : Box) → size n c < s → Part n start c → (ws : List Box) → (k : ℕ) × Reached ws (run sweep choose k c ws)
  unfolding run
  used_up zero c lt f ws = absurd (omega arith)
  used_up (suc s) c lt f ws = by ws (sweep c) refl (choose c) refl (used_up s)
    where
      by : (ws : List Box) (x : Swept) → sweep c ≡ x → (y : Option ℕ) → choose c ≡ y
          → ((b : Box) → size n b < s → Part n start b → (ws : List Box) → (k : ℕ) × Reached ws (run sweep choose k b ws)) → (k : ℕ) × Reached ws (run sweep choose k c ws)
      by [] empty e y g on = (1, rw (run_out sweep choose 0 c [] (step_out sweep choose e)) tt)
      by (w ∷ ws) empty e y g on = (1, inr (run_go sweep choose 0 c (w ∷ ws) (step_taken sweep choose e)))
      by ws (changed b) e y g on =
          let p = cuts law f e in
          let r = on b (omega (arith, size_lt p (ending.smaller c b f e))) (part_trans f p) ws in
          (suc r.0, rw (run_go sweep choose r.0 c ws (step_cut sweep choose e)) r.1)
      by ws (unchanged b) e (Some q) g on =
          let z = splits law q f e g in
          let r = on (lower_part c q) (omega (arith, size_lt (lower_part_lem z) (lower_smaller z))) (part_trans f (lower_part_lem z)) (upper_part c q ∷ ws) in
          let t = on (upper_part c q) (omega (arith, size_lt (upper_part_lem z) (upper_smaller z))) (part_trans f (upper_part_lem z)) ws in
          ⊎_elim
          (λ d. (suc r.0, rw (run_go sweep choose r.0 c ws (step_split sweep choose e g)) (decides ws _ d)))
          (λ h.
          let w : run sweep choose (suc (r.0 + t.0)) c ws ≡ run sweep choose t.0 (upper_part c q) ws =
          run_go sweep choose (r.0 + t.0) c ws (step_split sweep choose e g) ∙ resume sweep choose (lower_part c q) (upper_part c q ∷ ws) r.0 t.0 h
          in (suc (r.0 + t.0), rw w t.1))
          r.1
      by ws (unchanged b) e None g on = (1, rw (run_end sweep choose 0 c ws (step_end sweep choose ws e g)) (decides ws _ tt))

  -- some budget decides
  pub decided_run : Part n start start → (k : ℕ) × Decides (run sweep choose k start [])
  decided_run fine = used_up (suc (size n start)) start (omega arith) fine []
