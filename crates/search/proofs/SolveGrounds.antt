-- The judgement of a solve by the numbers of its grounds: it is a chain of the eight tests, in their order, 8 before 7.
use mathlib.Core.Path.{◌≡◌, refl, sym, ◌∙◌, subst}
use mathlib.Core.Logic.{inl, inr}
use mathlib.Core.Bool.{Bool, true, false, cond}
use mathlib.Core.List.{List, [], ◌∷◌}
use Prim.Native.Nat.{ℕ}
use native.Mathlib.Omega.{arith}
use lib.IntN.{ℤ}
use Rattle.std.specs.Prelude.{Ok, Err}
use Rattle.problem.specs.Problem.{quantities}
use Rattle.problem.specs.Grounds.{bad_quantities, bad_lists, bad_ranges, bad_primitives, bad_literals, judge_of, refusal_number, FirstOf}
use Rattle.problem.specs.Leading.{bad_leading}
use Rattle.problem.specs.declared.Refusal.{Refusal}
use Rattle.problem.specs.declared.Refusal.TheVariants.{Quantities, Lists, Ranges, Primitives, Literals, Budget, Room, Leading}
use Rattle.search.specs.Solve.{Judged, bad_budget, bad_room, or_else, judged, solve_order, SolveGround, by_quantities, by_lists, by_ranges, by_primitives, by_literals, by_budget, by_leading, by_room}

-- ---- the first of an order
-- it is met, and there is one only
module _ (Met : ℕ → Type 0) where
  pub first_met : (hs : List ℕ) (g : ℕ) → FirstOf hs Met g → Met g
  first_met [] g f = absurd f
  first_met (h ∷ hs) g (inl a) = subst Met (sym a.0) a.1
  first_met (h ∷ hs) g (inr a) = first_met hs g a.1

  pub first_once : (hs : List ℕ) (g g' : ℕ) → FirstOf hs Met g → FirstOf hs Met g' → g ≡ g'
  first_once [] g g' f k = absurd f
  first_once (h ∷ hs) g g' (inl a) (inl b) = a.0 ∙ sym b.0
  first_once (h ∷ hs) g g' (inl a) (inr b) = absurd (b.0 a.1)
  first_once (h ∷ hs) g g' (inr a) (inl b) = absurd (a.0 b.1)
  first_once (h ∷ hs) g g' (inr a) (inr b) = first_once hs g g' a.1 b.1

-- a test that came out both ways
clash : {b : Bool} → b ≡ false → b ≡ true → ⊥
clash {b} f t = let z : ◌≡◌ {A = ℕ} 0 1 = cc in omega arith

module _ (rs ps ns ls : List ℤ) (lead budget : ℤ) (point work : List ℤ) where
  abbrev Met : ℕ → Type 0
  Met = SolveGround rs ps ns ls lead budget point work

  -- a refusal by the first ground met, or none is
  pub data Judgement : Judged → Type 0 where
    refused : {g : Refusal} → FirstOf solve_order (SolveGround rs ps ns ls lead budget point work) (refusal_number g) → Judgement (Err g)
    sound : ((g : ℕ) → SolveGround rs ps ns ls lead budget point work g → ⊥) → Judgement (Ok tt)

  -- ---- a ground is not met where its test is false
  not_1 : bad_quantities rs ≡ false → Met 1 → ⊥
  not_1 e (by_quantities t) = clash e t

  not_2 : bad_lists ps ns ls ≡ false → Met 2 → ⊥
  not_2 e (by_lists t) = clash e t

  not_3 : bad_ranges rs ≡ false → Met 3 → ⊥
  not_3 e (by_ranges t) = clash e t

  not_4 : bad_primitives (quantities rs) ps ≡ false → Met 4 → ⊥
  not_4 e (by_primitives t) = clash e t

  not_5 : bad_literals (quantities rs) ls ≡ false → Met 5 → ⊥
  not_5 e (by_literals t) = clash e t

  not_6 : bad_budget budget ≡ false → Met 6 → ⊥
  not_6 e (by_budget t) = clash e t

  not_8 : bad_leading rs ps lead ≡ false → Met 8 → ⊥
  not_8 e (by_leading t) = clash e t

  none_met : bad_quantities rs ≡ false → bad_lists ps ns ls ≡ false → bad_ranges rs ≡ false → bad_primitives (quantities rs) ps ≡ false → bad_literals (quantities rs) ls ≡ false → bad_budget budget ≡ false → bad_leading rs ps lead ≡ false → bad_room lead rs point work ≡ false
      → (g : ℕ) → Met g → ⊥
  none_met e₁ e₂ e₃ e₄ e₅ e₆ e₈ e₇ g (by_quantities t) = clash e₁ t
  none_met e₁ e₂ e₃ e₄ e₅ e₆ e₈ e₇ g (by_lists t) = clash e₂ t
  none_met e₁ e₂ e₃ e₄ e₅ e₆ e₈ e₇ g (by_ranges t) = clash e₃ t
  none_met e₁ e₂ e₃ e₄ e₅ e₆ e₈ e₇ g (by_primitives t) = clash e₄ t
  none_met e₁ e₂ e₃ e₄ e₅ e₆ e₈ e₇ g (by_literals t) = clash e₅ t
  none_met e₁ e₂ e₃ e₄ e₅ e₆ e₈ e₇ g (by_budget t) = clash e₆ t
  none_met e₁ e₂ e₃ e₄ e₅ e₆ e₈ e₇ g (by_leading t) = clash e₈ t
  none_met e₁ e₂ e₃ e₄ e₅ e₆ e₈ e₇ g (by_room t) = clash e₇ t

  -- ---- the chain of tests: each that is passed leaves the first of the rest of the order
  by_tests : (a₁ : Bool) → bad_quantities rs ≡ a₁ → (a₂ : Bool) → bad_lists ps ns ls ≡ a₂ → (a₃ : Bool) → bad_ranges rs ≡ a₃ → (a₄ : Bool) → bad_primitives (quantities rs) ps ≡ a₄ → (a₅ : Bool) → bad_literals (quantities rs) ls ≡ a₅ → (a₆ : Bool) → bad_budget budget ≡ a₆ → (a₈ : Bool) → bad_leading rs ps lead ≡ a₈ → (a₇ : Bool) → bad_room lead rs point work ≡ a₇
      → Judgement (or_else (cond a₁ (Err Quantities) (cond a₂ (Err Lists) (cond a₃ (Err Ranges) (cond a₄ (Err Primitives) (cond a₅ (Err Literals) (Ok tt)))))) (cond a₆ (Err Budget) (cond a₈ (Err Leading) (cond a₇ (Err Room) (Ok tt)))))
  by_tests true e₁ a₂ e₂ a₃ e₃ a₄ e₄ a₅ e₅ a₆ e₆ a₈ e₈ a₇ e₇ = refused (inl (refl, by_quantities e₁))
  by_tests false e₁ true e₂ a₃ e₃ a₄ e₄ a₅ e₅ a₆ e₆ a₈ e₈ a₇ e₇ = refused (inr (not_1 e₁, inl (refl, by_lists e₂)))
  by_tests false e₁ false e₂ true e₃ a₄ e₄ a₅ e₅ a₆ e₆ a₈ e₈ a₇ e₇ = refused (inr (not_1 e₁, inr (not_2 e₂, inl (refl, by_ranges e₃))))
  by_tests false e₁ false e₂ false e₃ true e₄ a₅ e₅ a₆ e₆ a₈ e₈ a₇ e₇ = refused (inr (not_1 e₁, inr (not_2 e₂, inr (not_3 e₃, inl (refl, by_primitives e₄)))))
  by_tests false e₁ false e₂ false e₃ false e₄ true e₅ a₆ e₆ a₈ e₈ a₇ e₇ = refused (inr (not_1 e₁, inr (not_2 e₂, inr (not_3 e₃, inr (not_4 e₄, inl (refl, by_literals e₅))))))
  by_tests false e₁ false e₂ false e₃ false e₄ false e₅ true e₆ a₈ e₈ a₇ e₇ = refused (inr (not_1 e₁, inr (not_2 e₂, inr (not_3 e₃, inr (not_4 e₄, inr (not_5 e₅, inl (refl, by_budget e₆)))))))
  by_tests false e₁ false e₂ false e₃ false e₄ false e₅ false e₆ true e₈ a₇ e₇ =
      refused (inr (not_1 e₁, inr (not_2 e₂, inr (not_3 e₃, inr (not_4 e₄, inr (not_5 e₅, inr (not_6 e₆, inl (refl, by_leading e₈))))))))
  by_tests false e₁ false e₂ false e₃ false e₄ false e₅ false e₆ false e₈ true e₇ =
      refused (inr (not_1 e₁, inr (not_2 e₂, inr (not_3 e₃, inr (not_4 e₄, inr (not_5 e₅, inr (not_6 e₆, inr (not_8 e₈, inl (refl, by_room e₇)))))))))
  by_tests false e₁ false e₂ false e₃ false e₄ false e₅ false e₆ false e₈ false e₇ = sound (none_met e₁ e₂ e₃ e₄ e₅ e₆ e₈ e₇)

  pub judgement : Judgement (judged rs ps ns ls lead budget point work)
  unfolding judged judge_of
  judgement =
      by_tests (bad_quantities rs) refl (bad_lists ps ns ls) refl (bad_ranges rs) refl (bad_primitives (quantities rs) ps) refl (bad_literals (quantities rs) ls) refl (bad_budget budget) refl (bad_leading rs ps lead) refl
      (bad_room lead rs point work) refl

  pub unmet_sound : ((g : ℕ) → SolveGround rs ps ns ls lead budget point work g → ⊥) → judged rs ps ns ls lead budget point work ≡ Ok tt
  unmet_sound n = by (judged rs ps ns ls lead budget point work) judgement
    where
      by : (j : Judged) → Judgement j → j ≡ Ok tt
      by j (refused {g = r} f) = absurd (n (refusal_number r) (first_met Met solve_order (refusal_number r) f))
      by j (sound m) = refl

  -- the first ground met is the one that is given
  pub first_given : {g : ℕ} → FirstOf solve_order (SolveGround rs ps ns ls lead budget point work) g
      → (r : Refusal) × (judged rs ps ns ls lead budget point work ≡ Err r) × (refusal_number r ≡ g)
  first_given {g} f = by (judged rs ps ns ls lead budget point work) judgement
    where
      by : (j : Judged) → Judgement j → (r : Refusal) × (j ≡ Err r) × (refusal_number r ≡ g)
      by j (refused {g = r} k) = (r, refl, first_once Met solve_order (refusal_number r) g k f)
      by j (sound m) = absurd (m g (first_met Met solve_order g f))
