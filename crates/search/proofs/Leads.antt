-- Only leading quantities are split: the lowest open quantity of an unchanged box is none that is one value from the start, and none that a primitive
-- makes from lower ones, since these have one value each. So the search among leading quantities takes the same steps.
use mathlib.Core.Path.{◌≡◌, refl, sym, ◌∙◌}
use mathlib.Core.Logic.{⊎_elim}
use mathlib.Core.Bool.{false}
use mathlib.Core.List.{List, [], ◌∷◌}
use Prim.Native.Nat.{ℕ, zero, suc, ◌≤◌, ◌<◌}
use native.Mathlib.Decide.{dec_lt}
use native.Mathlib.Omega.{arith}
use lib.IntN.{ℤ}
use Rattle.std.specs.Prelude.{Option, Some, None}
use Rattle.whole.specs.Numbers.{positive_part}
use Rattle.whole.proofs.Kit.{ints}
use Rattle.problem.specs.Problem.{Box, low_at, high_at, quantities}
use Rattle.problem.specs.Lists.{primitives_of, literals_of, clauses_of, problem_of}
use Rattle.problem.specs.Leading.{bad_leading}
use Rattle.problem.proofs.Defined.{leading_most, later_defined}
use Rattle.narrow.specs.Cuts.{Swept, empty, changed, unchanged}
use Rattle.narrow.specs.Sweep.{sweep_of}
use Rattle.narrow.specs.Parts.{Part}
use Rattle.narrow.proofs.Results.{made_one}
use Rattle.search.specs.Search.{run, lowest, search_of, leading_search_of}
use Rattle.search.specs.inner.Laws.{Lawful}
use Rattle.search.proofs.Splits.{part_self}
use Rattle.search.proofs.Choice.{lowest_leads, lowest_wide, lowest_first, lowest_closed, lowest_same}
use Rattle.search.proofs.Run.{run_go, run_out, run_end, step_out, step_taken, step_cut, step_split, step_end}
use Rattle.search.proofs.Demand2.{Stack, begin, stack_kept}
use Rattle.search.proofs.Judged.{Judges}
use Rattle.search.proofs.Instance.{start_part, sweep_lawful}

-- ---- a choice that agrees on the unchanged parts of the starting box makes the same run
module _ {sweep : Box → Swept} {choose : Box → Option ℕ} {n lead : ℕ} {start : Box} (law : Lawful sweep choose n lead start) (other : Box → Option ℕ)
    (same : (b b' : Box) → Part n start b → sweep b ≡ unchanged b' → other b ≡ choose b) where
  run_same : (k : ℕ) (c : Box) (ws : List Box) → Stack n lead start (c ∷ ws) → run sweep other k c ws ≡ run sweep choose k c ws
  unfolding run
  run_same zero c ws s = refl
  run_same (suc k) c ws s = by (run_same k) ws s (sweep c) refl (choose c) refl
    where
      by : ((b : Box) (bs : List Box) → Stack n lead start (b ∷ bs) → run sweep other k b bs ≡ run sweep choose k b bs) → (ws : List Box) → Stack n lead start (c ∷ ws)
          → (x : Swept) → sweep c ≡ x → (y : Option ℕ) → choose c ≡ y → run sweep other (suc k) c ws ≡ run sweep choose (suc k) c ws
      by on [] s empty e y f = run_out sweep other k c [] (step_out sweep other e) ∙ sym (run_out sweep choose k c [] (step_out sweep choose e))
      by on (w ∷ ws) s empty e y f =
          run_go sweep other k c (w ∷ ws) (step_taken sweep other e) ∙ on w ws ((stack_kept law).taken c (w ∷ ws) s e)
          ∙ sym (run_go sweep choose k c (w ∷ ws) (step_taken sweep choose e))
      by on ws s (changed b) e y f =
          run_go sweep other k c ws (step_cut sweep other e) ∙ on b ws ((stack_kept law).cut c b ws s e)
          ∙ sym (run_go sweep choose k c ws (step_cut sweep choose e))
      by on ws s (unchanged b) e (Some q) f =
          run_go sweep other k c ws (step_split sweep other e (same c b s.0 e ∙ f)) ∙ on _ _ ((stack_kept law).split c b q ws s e f)
          ∙ sym (run_go sweep choose k c ws (step_split sweep choose e f))
      by on ws s (unchanged b) e None f =
          run_end sweep other k c ws (step_end sweep other ws e (same c b s.0 e ∙ f)) ∙ sym (run_end sweep choose k c ws (step_end sweep choose ws e f))

-- ---- the lowest open quantity is a leading one
module _ (rs ps ns ls : List ℤ) (j : Judges rs ps ns ls) (lead : ℤ) (g : bad_leading rs ps lead ≡ false) where
  abbrev n : ℕ
  n = quantities rs

  module _ (b b' : Box) (f : Part n rs b) (e : sweep_of (primitives_of ps) (clauses_of ns (literals_of ls)) b ≡ unchanged b') where
    -- a later quantity has one value where all lower ones have
    later_one : (q : ℕ) → positive_part lead ≤ q → q < n → ((r : ℕ) → r < q → low_at b r ≡ high_at b r) → low_at b q ≡ high_at b q
    later_one q h q< lower =
        ⊎_elim
        (λ o. omega (ints, f.low q q<, f.filled q q<, f.high q q<))
        (λ m. made_one (primitives_of ps) (clauses_of ns (literals_of ls)) b b' q m lower (f.filled q q<) e)
        (later_defined rs ps lead g q h q<)

    pub only_leading : (q : ℕ) → lowest (quantities rs) b ≡ Some q → q < positive_part lead
    only_leading q o = by (dec_lt q (positive_part lead))
      where
        by : Dec (q < positive_part lead) → q < positive_part lead
        by (yes h) = h
        by (no h) = absurd (omega (ints, lowest_wide (part_self f) q o, later_one q (omega arith) (lowest_leads (part_self f) q o) (lowest_first (part_self f) q o)))

    -- where the leading ranges are one value each, so are all
    pub all_single : ((q : ℕ) → q < positive_part lead → low_at b q ≡ high_at b q) → (q : ℕ) → q < quantities rs → low_at b q ≡ high_at b q
    all_single one = by (lowest n b) refl
      where
        by : (x : Option ℕ) → lowest n b ≡ x → (q : ℕ) → q < n → low_at b q ≡ high_at b q
        by (Some r) o q h = absurd (omega (ints, lowest_wide (part_self f) r o, one r (only_leading r o)))
        by None o q h = lowest_closed (part_self f) o q h

    choice_same : lowest (positive_part lead) b ≡ lowest n b
    choice_same = lowest_same (positive_part lead) n b (leading_most rs ps lead g) only_leading

  pub sweep_leads : Lawful (sweep_of (primitives_of ps) (clauses_of ns (literals_of ls))) (lowest (quantities rs)) (quantities rs) (positive_part lead) rs
  sweep_leads =
      let law = sweep_lawful rs ps ns ls j in
      record { shrinks = law.shrinks; leads = λ b b' q f e. only_leading b b' f e q; wide = law.wide; leading = leading_most rs ps lead g }

  pub search_same : (k : ℕ) → leading_search_of (positive_part lead) (problem_of rs ps ns ls) k ≡ search_of (problem_of rs ps ns ls) k
  search_same k =
      run_same sweep_leads (lowest (positive_part lead)) (λ b b' f e. choice_same b b' f e) k rs [] (begin sweep_leads (start_part j.started))
