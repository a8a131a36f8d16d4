-- Flat lists read from a place on: what stands there, and then what is read from the next place.
use mathlib.Core.Path.{◌≡◌, refl, ap, ◌∙◌}
use mathlib.Core.Bool.{false, ◌||◌}
use mathlib.Core.List.{List, [], ◌∷◌}
use Prim.Native.Nat.{ℕ, zero, suc, ◌+◌, ◌*◌, ◌≤◌, ◌<◌}
use native.Mathlib.Omega.{arith}
use lib.ListN.{length, get_or, drop, take, length-drop}
use lib.Seq.{drop-cons}
use lib.IntN.{ℤ, pos}
use Rattle.problem.specs.Grounds.{bad_range, bad_ranges, bad_primitive, bad_primitives, bad_literal, bad_literals}
use Rattle.problem.specs.Lists.{primitives_of, literals_of}
use Rattle.problem.specs.inner.Placed.{primitive_at, literal_at}

abbrev num : List ℤ → ℕ → ℤ
num l k = get_or l k (pos 0)

pub drop1 : (l : List ℤ) (k : ℕ) → k < length l → drop k l ≡ get_or l k (pos 0) ∷ drop (k + 1) l
drop1 l k h = drop-cons l k (pos 0) h ∙ ap (λ (j : ℕ). num l k ∷ drop j l) (let e : suc k ≡ k + 1 = omega arith in e)

pub drop2 : (l : List ℤ) (k : ℕ) → k + 1 < length l → drop k l ≡ get_or l k (pos 0) ∷ get_or l (k + 1) (pos 0) ∷ drop (k + 2) l
drop2 l k h =
    drop1 l k (omega arith)
    ∙ ap (λ (r : List ℤ). num l k ∷ r) (drop1 l (k + 1) h)
    ∙ ap (λ (j : ℕ). num l k ∷ num l (k + 1) ∷ drop j l) (let e : k + 1 + 1 ≡ k + 2 = omega arith in e)

pub drop3 : (l : List ℤ) (k : ℕ) → k + 2 < length l → drop k l ≡ get_or l k (pos 0) ∷ get_or l (k + 1) (pos 0) ∷ get_or l (k + 2) (pos 0) ∷ drop (k + 3) l
drop3 l k h =
    drop2 l k (omega arith)
    ∙ ap (λ (r : List ℤ). num l k ∷ num l (k + 1) ∷ r) (drop1 l (k + 2) h)
    ∙ ap (λ (j : ℕ). num l k ∷ num l (k + 1) ∷ num l (k + 2) ∷ drop j l) (let e : k + 2 + 1 ≡ k + 3 = omega arith in e)

pub drop4 : (l : List ℤ) (k : ℕ) → k + 3 < length l → drop k l ≡ get_or l k (pos 0) ∷ get_or l (k + 1) (pos 0) ∷ get_or l (k + 2) (pos 0) ∷ get_or l (k + 3) (pos 0) ∷ drop (k + 4) l
drop4 l k h =
    drop3 l k (omega arith)
    ∙ ap (λ (r : List ℤ). num l k ∷ num l (k + 1) ∷ num l (k + 2) ∷ r) (drop1 l (k + 3) h)
    ∙ ap (λ (j : ℕ). num l k ∷ num l (k + 1) ∷ num l (k + 2) ∷ num l (k + 3) ∷ drop j l) (let e : k + 3 + 1 ≡ k + 4 = omega arith in e)

-- ---- ranges, by twos
pub ranges_at : (rs : List ℤ) (q : ℕ) → 2 * q + 1 < length rs → bad_ranges (drop (2 * q) rs) ≡ (bad_range (get_or rs (2 * q) (pos 0)) (get_or rs (2 * q + 1) (pos 0)) || bad_ranges (drop (2 * (q + 1)) rs))
unfolding bad_ranges
ranges_at rs q h =
    ap bad_ranges (drop2 rs (2 * q) h)
    ∙ ap (λ (k : ℕ). bad_range (num rs (2 * q)) (num rs (2 * q + 1)) || bad_ranges (drop k rs)) (let e : 2 * q + 2 ≡ 2 * (q + 1) = omega arith in e)

few_ranges : (l : List ℤ) → length l ≤ 1 → bad_ranges l ≡ false
unfolding bad_ranges
few_ranges [] h = refl
few_ranges (a ∷ []) h = refl
few_ranges (a ∷ (b ∷ l)) h = absurd (omega arith)

pub ranges_end : (rs : List ℤ) (q : ℕ) → length rs ≤ 2 * q + 1 → bad_ranges (drop (2 * q) rs) ≡ false
ranges_end rs q h = few_ranges (drop (2 * q) rs) (omega (arith, length-drop (2 * q) rs))

-- ---- primitives, by fours
pub bad_primitives_at : (n : ℕ) (ps : List ℤ) (i : ℕ) → 4 * i + 3 < length ps → bad_primitives n (drop (4 * i) ps) ≡ (bad_primitive n (get_or ps (4 * i) (pos 0)) (get_or ps (4 * i + 1) (pos 0)) (get_or ps (4 * i + 2) (pos 0)) (get_or ps (4 * i + 3) (pos 0)) || bad_primitives n (drop (4 * (i + 1)) ps))
unfolding bad_primitives
bad_primitives_at n ps i h =
    ap (bad_primitives n) (drop4 ps (4 * i) h)
    ∙ ap (λ (k : ℕ). bad_primitive n (num ps (4 * i)) (num ps (4 * i + 1)) (num ps (4 * i + 2)) (num ps (4 * i + 3)) || bad_primitives n (drop k ps)) (let e : 4 * i + 4 ≡ 4 * (i + 1) = omega arith in e)

few_primitives : (n : ℕ) (l : List ℤ) → length l ≤ 3 → bad_primitives n l ≡ false
unfolding bad_primitives
few_primitives n [] h = refl
few_primitives n (a ∷ []) h = refl
few_primitives n (a ∷ (b ∷ [])) h = refl
few_primitives n (a ∷ (b ∷ (c ∷ []))) h = refl
few_primitives n (a ∷ (b ∷ (c ∷ (d ∷ l)))) h = absurd (omega arith)

pub bad_primitives_end : (n : ℕ) (ps : List ℤ) (i : ℕ) → length ps ≤ 4 * i + 3 → bad_primitives n (drop (4 * i) ps) ≡ false
bad_primitives_end n ps i h = few_primitives n (drop (4 * i) ps) (omega (arith, length-drop (4 * i) ps))

pub primitives_at : (ps : List ℤ) (i : ℕ) → 4 * i + 3 < length ps → primitives_of (drop (4 * i) ps) ≡ primitive_at ps i ∷ primitives_of (drop (4 * (i + 1)) ps)
unfolding primitives_of
primitives_at ps i h =
    ap primitives_of (drop4 ps (4 * i) h)
    ∙ ap (λ (k : ℕ). primitive_at ps i ∷ primitives_of (drop k ps)) (let e : 4 * i + 4 ≡ 4 * (i + 1) = omega arith in e)

no_primitives : (l : List ℤ) → length l ≤ 3 → primitives_of l ≡ []
unfolding primitives_of
no_primitives [] h = refl
no_primitives (a ∷ []) h = refl
no_primitives (a ∷ (b ∷ [])) h = refl
no_primitives (a ∷ (b ∷ (c ∷ []))) h = refl
no_primitives (a ∷ (b ∷ (c ∷ (d ∷ l)))) h = absurd (omega arith)

pub primitives_end : (ps : List ℤ) (i : ℕ) → length ps ≤ 4 * i + 3 → primitives_of (drop (4 * i) ps) ≡ []
primitives_end ps i h = no_primitives (drop (4 * i) ps) (omega (arith, length-drop (4 * i) ps))

-- ---- literals, by threes
pub bad_literals_at : (n : ℕ) (ls : List ℤ) (i : ℕ) → 3 * i + 2 < length ls → bad_literals n (drop (3 * i) ls) ≡ (bad_literal n (get_or ls (3 * i) (pos 0)) (get_or ls (3 * i + 1) (pos 0)) (get_or ls (3 * i + 2) (pos 0)) || bad_literals n (drop (3 * (i + 1)) ls))
unfolding bad_literals
bad_literals_at n ls i h =
    ap (bad_literals n) (drop3 ls (3 * i) h)
    ∙ ap (λ (k : ℕ). bad_literal n (num ls (3 * i)) (num ls (3 * i + 1)) (num ls (3 * i + 2)) || bad_literals n (drop k ls)) (let e : 3 * i + 3 ≡ 3 * (i + 1) = omega arith in e)

few_literals : (n : ℕ) (l : List ℤ) → length l ≤ 2 → bad_literals n l ≡ false
unfolding bad_literals
few_literals n [] h = refl
few_literals n (a ∷ []) h = refl
few_literals n (a ∷ (b ∷ [])) h = refl
few_literals n (a ∷ (b ∷ (c ∷ l))) h = absurd (omega arith)

pub bad_literals_end : (n : ℕ) (ls : List ℤ) (i : ℕ) → length ls ≤ 3 * i + 2 → bad_literals n (drop (3 * i) ls) ≡ false
bad_literals_end n ls i h = few_literals n (drop (3 * i) ls) (omega (arith, length-drop (3 * i) ls))

pub literals_at : (ls : List ℤ) (i : ℕ) → 3 * i + 2 < length ls → literals_of (drop (3 * i) ls) ≡ literal_at ls i ∷ literals_of (drop (3 * (i + 1)) ls)
unfolding literals_of
literals_at ls i h =
    ap literals_of (drop3 ls (3 * i) h)
    ∙ ap (λ (k : ℕ). literal_at ls i ∷ literals_of (drop k ls)) (let e : 3 * i + 3 ≡ 3 * (i + 1) = omega arith in e)

no_literals : (l : List ℤ) → length l ≤ 2 → literals_of l ≡ []
unfolding literals_of
no_literals [] h = refl
no_literals (a ∷ []) h = refl
no_literals (a ∷ (b ∷ [])) h = refl
no_literals (a ∷ (b ∷ (c ∷ l))) h = absurd (omega arith)

pub literals_end : (ls : List ℤ) (i : ℕ) → length ls ≤ 3 * i + 2 → literals_of (drop (3 * i) ls) ≡ []
literals_end ls i h = no_literals (drop (3 * i) ls) (omega (arith, length-drop (3 * i) ls))

-- the literals of a stretch are a stretch of the literals
pub threes : (k : ℕ) → 3 * suc k ≡ suc (suc (suc (3 * k)))
threes k = omega arith

pub literals_take : (k : ℕ) (l : List ℤ) → literals_of (take (3 * k) l) ≡ take k (literals_of l)
unfolding literals_of
literals_take zero l = refl
literals_take (suc k) [] = rw (threes k)
literals_take (suc k) (a ∷ []) = rw (threes k)
literals_take (suc k) (a ∷ (b ∷ [])) = rw (threes k)
literals_take (suc k) (a ∷ (b ∷ (c ∷ l))) = rw (threes k, literals_take k l)

pub literals_drop : (k : ℕ) (l : List ℤ) → literals_of (drop (3 * k) l) ≡ drop k (literals_of l)
unfolding literals_of
literals_drop zero l = refl
literals_drop (suc k) [] = rw (threes k)
literals_drop (suc k) (a ∷ []) = rw (threes k)
literals_drop (suc k) (a ∷ (b ∷ [])) = rw (threes k)
literals_drop (suc k) (a ∷ (b ∷ (c ∷ l))) = rw (threes k, literals_drop k l)
