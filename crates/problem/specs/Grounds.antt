-- Grounds 1 to 5 of document 01's "What a solve gives back", over lists of any numbers.
use Rattle.std.specs.Prelude.{◌≡◌, Bool, false, not, cond, ◌||◌, List, [], ◌∷◌, ◌⊎◌, Result, Ok, Err, ℕ, ◌%◌, ◌<◌, eqb, ltb, length, ℤ, pos, ◌+ℤ◌, ◌*ℤ◌}
use Rattle.std.specs.Int.Signed.{lt_z, le_z}
use Rattle.whole.specs.Numbers.{M, minus_m}
use Rattle.problem.specs.Problem.{quantities}
use Rattle.problem.specs.declared.Refusal.{Refusal}
use Rattle.problem.specs.declared.Refusal.TheVariants.{Quantities, Lists, Ranges, Primitives, Literals, Budget, Room, Leading}

-- two numbers are not the same
abbrev pub differ : ℤ → ℤ → Bool
differ a b = lt_z a b || lt_z b a

-- beyond plus or minus M
abbrev pub beyond : ℤ → Bool
beyond z = lt_z z minus_m || lt_z M z

-- a missing quantity: none of 0 to n-1
abbrev pub missing : ℕ → ℤ → Bool
missing n q = lt_z q (pos 0) || le_z (pos n) q

-- 1: range list odd, or n not 1 to 128
abbrev pub bad_quantities : List ℤ → Bool
bad_quantities rs = eqb (length rs % 2) 1 || (ltb (quantities rs) 1 || ltb 128 (quantities rs))

-- a clause length below 0
unfoldable pub any_negative : List ℤ → Bool
any_negative [] = false
any_negative (n ∷ ns) = lt_z n (pos 0) || any_negative ns

-- the sum of lengths
unfoldable pub total : List ℤ → ℤ
total [] = pos 0
total (n ∷ ns) = n +ℤ total ns

-- 2: a list too long, primitive list not in fours, a clause length below 0, or literal list not three times the sum of lengths
abbrev pub bad_lists : List ℤ → List ℤ → List ℤ → Bool
bad_lists ps ns ls =
    ltb 1024 (length ps)
    || (ltb 256 (length ns)
    || (ltb 3072 (length ls)
    || (not (eqb (length ps % 4) 0)
    || (any_negative ns
    || differ (pos (length ls)) (pos 3 *ℤ total ns)))))

-- a range with low above high, or an end beyond plus or minus M
abbrev pub bad_range : ℤ → ℤ → Bool
bad_range l h = lt_z h l || (beyond l || beyond h)

-- 3: such a range
unfoldable pub bad_ranges : List ℤ → Bool
bad_ranges [] = false
bad_ranges (l ∷ []) = false
bad_ranges (l ∷ (h ∷ rs)) = bad_range l h || bad_ranges rs

-- unknown kind, missing quantity, or y not 0 in kind 3
abbrev pub bad_primitive : ℕ → ℤ → ℤ → ℤ → ℤ → Bool
bad_primitive n k z x y =
    (lt_z k (pos 1) || lt_z (pos 3) k)
    || (missing n z
    || (missing n x
    || cond (le_z k (pos 2)) (missing n y) (differ y (pos 0))))

-- 4: such a primitive
unfoldable pub bad_primitives : ℕ → List ℤ → Bool
bad_primitives n [] = false
bad_primitives n (k ∷ []) = false
bad_primitives n (k ∷ (z ∷ [])) = false
bad_primitives n (k ∷ (z ∷ (x ∷ []))) = false
bad_primitives n (k ∷ (z ∷ (x ∷ (y ∷ ps)))) = bad_primitive n k z x y || bad_primitives n ps

-- literal with missing quantity, unknown sense, or bound beyond plus or minus M
abbrev pub bad_literal : ℕ → ℤ → ℤ → ℤ → Bool
bad_literal n q s c = missing n q || ((lt_z s (pos 0) || lt_z (pos 1) s) || beyond c)

-- 5: such a literal
unfoldable pub bad_literals : ℕ → List ℤ → Bool
bad_literals n [] = false
bad_literals n (q ∷ []) = false
bad_literals n (q ∷ (s ∷ [])) = false
bad_literals n (q ∷ (s ∷ (c ∷ ls))) = bad_literal n q s c || bad_literals n ls

-- the first ground met
unfoldable pub judge_of : List ℤ → List ℤ → List ℤ → List ℤ → Result (Unit {0}) Refusal
judge_of rs ps ns ls =
    cond (bad_quantities rs) (Err Quantities)
    (cond (bad_lists ps ns ls) (Err Lists)
    (cond (bad_ranges rs) (Err Ranges)
    (cond (bad_primitives (quantities rs) ps) (Err Primitives)
    (cond (bad_literals (quantities rs) ls) (Err Literals) (Ok tt)))))

-- document 01's number of each refusal of a solve
abbrev pub refusal_number : Refusal → ℕ
refusal_number Quantities = 1
refusal_number Lists = 2
refusal_number Ranges = 3
refusal_number Primitives = 4
refusal_number Literals = 5
refusal_number Budget = 6
refusal_number Room = 7
refusal_number Leading = 8

-- a ground is met, and none with a lower number
pub record FirstMet (Met : ℕ → Type 0) (g : ℕ) : Type 0 where
  pub met : Met g
  pub none_lower : (h : ℕ) → h < g → Met h → ⊥

-- g is the first in this order that is met
abbrev pub FirstOf : List ℕ → (ℕ → Type 0) → ℕ → Type 0
FirstOf [] Met g = ⊥
FirstOf (h ∷ hs) Met g = ((g ≡ h) × Met h) ⊎ ((Met h → ⊥) × FirstOf hs Met g)
