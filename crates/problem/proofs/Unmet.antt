-- Lists are sound exactly if each of the five tests is false; then the quantities are 1 to 128, and every range is good.
use mathlib.Core.Path.{◌≡◌, sym, ◌∙◌}
use mathlib.Core.Bool.{Bool, true, false, ◌||◌}
use mathlib.Core.List.{List}
use Prim.Native.Nat.{ℕ, zero, suc, ◌+◌, ◌*◌, ◌%◌, ◌≤◌, ◌<◌}
use native.Mathlib.Omega.{arith}
use native.Mathlib.Numerals.{add-one}
use borrow.Author.Tests.{ltb-true, ltb-false, eqb-false}
use lib.Dec.{eqb, ltb}
use lib.ListN.{length, get_or, drop}
use lib.IntN.{ℤ, pos}
use lib.Signed.{lt_z}
use Rattle.whole.specs.Ranges.{range}
use Rattle.whole.specs.inner.Held.{Good}
use Rattle.whole.proofs.Kit.{ints}
use Rattle.problem.specs.Problem.{quantities, range_at}
use Rattle.problem.specs.Grounds.{beyond, bad_quantities, bad_lists, bad_range, bad_ranges, bad_primitives, bad_literals, judge_of}
use Rattle.problem.specs.inner.Placed.{Placed}
use Rattle.problem.specs.declared.Refusal.{Refusal}
use Rattle.problem.specs.declared.Refusal.TheVariants.{Quantities, Lists, Ranges, Primitives, Literals}
use Rattle.std.specs.Prelude.{Ok, Err}
use Rattle.problem.proofs.Tests.{or_first, or_second, by_bool}
use Rattle.problem.proofs.Lists.{ranges_at, ranges_end}
use Rattle.problem.proofs.Placing.{within}

pub record Unmet (rs ps ns ls : List ℤ) : Type 0 where
  pub counted : bad_quantities rs ≡ false
  pub lists : bad_lists ps ns ls ≡ false
  pub ranges : bad_ranges rs ≡ false
  pub primitives : bad_primitives (quantities rs) ps ≡ false
  pub literals : bad_literals (quantities rs) ls ≡ false

-- ---- the first ground met
module _ (rs ps ns ls : List ℤ) where
  met_1 : bad_quantities rs ≡ true → Err Quantities ≡ judge_of rs ps ns ls
  unfolding judge_of
  met_1 a = rw a

  module _ (a : bad_quantities rs ≡ false) where
    met_2 : bad_lists ps ns ls ≡ true → Err Lists ≡ judge_of rs ps ns ls
    unfolding judge_of
    met_2 b = rw (a, b)

    module _ (b : bad_lists ps ns ls ≡ false) where
      pub met_3 : bad_ranges rs ≡ true → Err Ranges ≡ judge_of rs ps ns ls
      unfolding judge_of
      met_3 c = rw (a, b, c)

      module _ (c : bad_ranges rs ≡ false) where
        met_4 : bad_primitives (quantities rs) ps ≡ true → Err Primitives ≡ judge_of rs ps ns ls
        unfolding judge_of
        met_4 d = rw (a, b, c, d)

        module _ (d : bad_primitives (quantities rs) ps ≡ false) where
          met_5 : bad_literals (quantities rs) ls ≡ true → Err Literals ≡ judge_of rs ps ns ls
          unfolding judge_of
          met_5 e = rw (a, b, c, d, e)

-- ---- none is met
module _ (rs ps ns ls : List ℤ) where
  pub sound_unmet : judge_of rs ps ns ls ≡ Ok tt → Unmet rs ps ns ls
  sound_unmet s =
      by_bool (bad_quantities rs) (λ t. no (met_1 rs ps ns ls t))
      (λ a. by_bool (bad_lists ps ns ls) (λ t. no (met_2 rs ps ns ls a t))
      (λ b. by_bool (bad_ranges rs) (λ t. no (met_3 rs ps ns ls a b t))
      (λ c. by_bool (bad_primitives (quantities rs) ps) (λ t. no (met_4 rs ps ns ls a b c t))
      (λ d. by_bool (bad_literals (quantities rs) ls) (λ t. no (met_5 rs ps ns ls a b c d t))
      (λ e. record { counted = a; lists = b; ranges = c; primitives = d; literals = e })))))
    where
      no : {g : Refusal} → Err g ≡ judge_of rs ps ns ls → Unmet rs ps ns ls
      no e = absurd (let z : ◌≡◌ {A = ℕ} 0 1 = cc in omega arith)

  pub unmet_placed : Unmet rs ps ns ls → Placed (quantities rs) ps ns ls
  unmet_placed u = record { lists = u.lists; primitives = u.primitives; literals = u.literals }

-- ---- ground 1
pub record Counted (rs : List ℤ) : Type 0 where
  pub some : 1 ≤ quantities rs
  pub few : quantities rs ≤ 128
  pub long : length rs ≡ 2 * quantities rs

pub counted : (rs : List ℤ) → bad_quantities rs ≡ false → Counted rs
counted rs e =
    let f = or_second (eqb (length rs % 2) 1) _ e in
    let o = eqb-false (length rs % 2) 1 (or_first (eqb (length rs % 2) 1) _ e) in
    record {
      some = ltb-false _ _ (or_first (ltb (quantities rs) 1) _ f);
      few = ltb-false _ _ (or_second (ltb (quantities rs) 1) _ f);
      long = omega (arith, o);
    }

-- ---- ground 3
good : (l h : ℤ) → bad_range l h ≡ false → Good (range l h)
good l h e =
    let f = or_second (lt_z h l) (beyond l || beyond h) e in
    let g = or_first (lt_z h l) (beyond l || beyond h) e in
    record { low = within l (or_first (beyond l) (beyond h) f); high = within h (or_second (beyond l) (beyond h) f); ordered = omega ints }

abbrev bad_at : List ℤ → ℕ → Bool
bad_at rs q = bad_range (get_or rs (2 * q) (pos 0)) (get_or rs (2 * q + 1) (pos 0))

ranges_clear : (rs : List ℤ) → bad_ranges rs ≡ false → (q : ℕ) → bad_ranges (drop (2 * q) rs) ≡ false
ranges_clear rs e zero = e
ranges_clear rs e (suc q) =
    by_bool (ltb (2 * q + 1) (length rs))
    (λ t. let g : bad_ranges (drop (2 * (q + 1)) rs) ≡ false = or_second (bad_at rs q) _ (sym (ranges_at rs q (ltb-true _ _ t)) ∙ ranges_clear rs e q) in rw add-one at g)
    (λ f. let h = ltb-false (2 * q + 1) (length rs) f in ranges_end rs (suc q) (omega arith))

pub range_good : (rs : List ℤ) → bad_ranges rs ≡ false → (q : ℕ) → 2 * q + 1 < length rs → Good (range_at rs q)
range_good rs e q h = good _ _ (or_first (bad_at rs q) _ (sym (ranges_at rs q h) ∙ ranges_clear rs e q))
