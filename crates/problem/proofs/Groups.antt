-- A flat list in groups of the same length: the tests of grounds 3 to 5 and 8 are a test of each group.
use mathlib.Core.Path.{◌≡◌, refl, sym, ap, ◌∙◌}
use mathlib.Core.Bool.{Bool, ◌||◌}
use mathlib.Core.List.{List, [], ◌∷◌}
use Prim.Native.Nat.{ℕ, zero, suc, ◌+◌, ◌*◌, ◌/◌}
use native.Mathlib.Omega.{arith}
use lib.ListN.{length, get_or, drop}
use lib.IntN.{ℤ, pos}
use Rattle.std.specs.List.{list_any, range_with_len}
use Rattle.std.specs.Simd.{first_chunks}
use Rattle.problem.specs.Grounds.{bad_range, bad_ranges, bad_primitive, bad_primitives, bad_literal, bad_literals}
use Rattle.problem.specs.Lists.{primitives_of}
use Rattle.problem.specs.Leading.{makes, made}
use Rattle.problem.specs.inner.Placed.{primitive_at}
use Rattle.problem.specs.declared.Primitive.{Primitive}
use Rattle.problem.proofs.Lists.{primitives_at, primitives_end}

-- ---- ranges, by twos
abbrev pub bad_two : List ℤ → Bool
bad_two c = bad_range (get_or c 0 (pos 0)) (get_or c 1 (pos 0))

pub by_twos : (rs : List ℤ) → list_any bad_two (first_chunks 2 (length rs / 2) rs) ≡ bad_ranges rs
unfolding bad_ranges
by_twos [] = refl
by_twos (l ∷ []) = refl
by_twos (l ∷ (h ∷ rs)) =
    let e : length (l ∷ h ∷ rs) / 2 ≡ suc (length rs / 2) = omega arith in
    ap (λ (m : ℕ). list_any bad_two (first_chunks 2 m (l ∷ h ∷ rs))) e ∙ ap (λ (t : Bool). bad_range l h || t) (by_twos rs)

-- ---- literals, by threes
abbrev pub bad_three : ℕ → List ℤ → Bool
bad_three n c = bad_literal n (get_or c 0 (pos 0)) (get_or c 1 (pos 0)) (get_or c 2 (pos 0))

pub by_threes : (n : ℕ) (ls : List ℤ) → list_any (bad_three n) (first_chunks 3 (length ls / 3) ls) ≡ bad_literals n ls
unfolding bad_literals
by_threes n [] = refl
by_threes n (q ∷ []) = refl
by_threes n (q ∷ (s ∷ [])) = refl
by_threes n (q ∷ (s ∷ (c ∷ ls))) =
    let e : length (q ∷ s ∷ c ∷ ls) / 3 ≡ suc (length ls / 3) = omega arith in
    ap (λ (m : ℕ). list_any (bad_three n) (first_chunks 3 m (q ∷ s ∷ c ∷ ls))) e ∙ ap (λ (t : Bool). bad_literal n q s c || t) (by_threes n ls)

-- ---- primitives, by fours
abbrev pub bad_four : ℕ → List ℤ → Bool
bad_four n c = bad_primitive n (get_or c 0 (pos 0)) (get_or c 1 (pos 0)) (get_or c 2 (pos 0)) (get_or c 3 (pos 0))

pub by_fours : (n : ℕ) (ps : List ℤ) → list_any (bad_four n) (first_chunks 4 (length ps / 4) ps) ≡ bad_primitives n ps
unfolding bad_primitives
by_fours n [] = refl
by_fours n (k ∷ []) = refl
by_fours n (k ∷ (z ∷ [])) = refl
by_fours n (k ∷ (z ∷ (x ∷ []))) = refl
by_fours n (k ∷ (z ∷ (x ∷ (y ∷ ps)))) =
    let e : length (k ∷ z ∷ x ∷ y ∷ ps) / 4 ≡ suc (length ps / 4) = omega arith in
    ap (λ (m : ℕ). list_any (bad_four n) (first_chunks 4 m (k ∷ z ∷ x ∷ y ∷ ps))) e ∙ ap (λ (t : Bool). bad_primitive n k z x y || t) (by_fours n ps)

-- ---- primitives, by place
module _ (ps : List ℤ) (q : ℕ) where
  from_place : (m i : ℕ) → i + m ≡ length ps / 4 → list_any (λ j. makes (primitive_at ps j) q) (range_with_len i m) ≡ made (primitives_of (drop (4 * i) ps)) q
  unfolding made
  from_place zero i e = sym (ap (λ (l : List Primitive). made l q) (primitives_end ps i (omega arith)))
  from_place (suc m) i e =
      ap (λ (t : Bool). makes (primitive_at ps i) q || t) (from_place m (i + 1) (omega arith))
      ∙ sym (ap (λ (l : List Primitive). made l q) (primitives_at ps i (omega arith)))

  pub by_places : list_any (λ j. makes (primitive_at ps j) q) (range_with_len 0 (length ps / 4)) ≡ made (primitives_of ps) q
  by_places = from_place (length ps / 4) 0 (omega arith)
