-- A name's quantity is its place among the names: it is found where it stands, and, as no name is declared twice, each place is found by its name.
use mathlib.Core.Path.{◌≡◌, refl, ap, ◌∙◌}
use mathlib.Core.Bool.{Bool, true, false, cond, ◌||◌}
use mathlib.Core.List.{List, [], ◌∷◌, ◌++◌}
use Prim.Native.Nat.{ℕ, zero, suc, ◌+◌, ◌<◌}
use native.Mathlib.Omega.{arith}
use lib.Dec.{eqb, ltb}
use lib.ListN.{length, get_or, length-append, get_or-append}
use lib.Seq.{get_or_at}
use borrow.Author.Tests.{eqb-true, eq-eqb, ltb-true, ltb-false}
use Rattle.meaning.specs.Plain.{place_of, is_in}

-- a declared name is found, and its place has it
pub placed : (ns : List ℕ) (n : ℕ) → is_in ns n ≡ true → (place_of ns n < length ns) × (get_or ns (place_of ns n) 0 ≡ n)
unfolding place_of is_in
placed [] n e = absurd (let z : ◌≡◌ {A = ℕ} 0 1 = cc in omega arith)
placed (m ∷ ms) n e = go (eqb m n) refl e (placed ms n)
  where
    go : (x : Bool) → eqb m n ≡ x → (x || is_in ms n) ≡ true → (is_in ms n ≡ true → (place_of ms n < length ms) × (get_or ms (place_of ms n) 0 ≡ n)) → (cond x 0 (suc (place_of ms n)) < suc (length ms)) × (get_or (m ∷ ms) (cond x 0 (suc (place_of ms n))) 0 ≡ n)
    go true f g h = (omega arith, eqb-true m n f)
    go false f g h = (omega (arith, h g), (h g).1)

-- each place is found by its name
pub record Distinct (ns : List ℕ) : Type 0 where
  pub found : (q : ℕ) → q < length ns → place_of ns (get_or ns q 0) ≡ q

pub distinct_none : Distinct []
distinct_none = record { found = λ q l. absurd (omega arith) }

is_in_lem : (ns : List ℕ) (q : ℕ) → q < length ns → is_in ns (get_or ns q 0) ≡ true
unfolding is_in
is_in_lem [] q l = absurd (omega arith)
is_in_lem (m ∷ ms) zero l = rw (eq-eqb m m refl)
is_in_lem (m ∷ ms) (suc q) l = go (eqb m (get_or ms q 0)) (is_in_lem ms q (omega arith))
  where
    go : (x : Bool) → is_in ms (get_or ms q 0) ≡ true → (x || is_in ms (get_or ms q 0)) ≡ true
    go true e = refl
    go false e = e

-- one more name behind: the others keep their places, and a new one is found last
place_kept : (ns : List ℕ) (n m : ℕ) → is_in ns m ≡ true → place_of (ns ++ (n ∷ [])) m ≡ place_of ns m
unfolding place_of is_in
place_kept [] n m e = absurd (let z : ◌≡◌ {A = ℕ} 0 1 = cc in omega arith)
place_kept (a ∷ ns) n m e = go (eqb a m) e (place_kept ns n m)
  where
    go : (x : Bool) → (x || is_in ns m) ≡ true → (is_in ns m ≡ true → place_of (ns ++ (n ∷ [])) m ≡ place_of ns m) → cond x 0 (suc (place_of (ns ++ (n ∷ [])) m)) ≡ cond x 0 (suc (place_of ns m))
    go true f h = refl
    go false f h = ap suc (h f)

place_new : (ns : List ℕ) (n : ℕ) → is_in ns n ≡ false → place_of (ns ++ (n ∷ [])) n ≡ length ns
unfolding place_of is_in
place_new [] n e = rw (eq-eqb n n refl)
place_new (a ∷ ns) n e = go (eqb a n) e (place_new ns n)
  where
    go : (x : Bool) → (x || is_in ns n) ≡ false → (is_in ns n ≡ false → place_of (ns ++ (n ∷ [])) n ≡ length ns) → cond x 0 (suc (place_of (ns ++ (n ∷ [])) n)) ≡ suc (length ns)
    go true f h = absurd (let z : ◌≡◌ {A = ℕ} 0 1 = cc in omega arith)
    go false f h = ap suc (h f)

pub distinct_more : (ns : List ℕ) (n : ℕ) → is_in ns n ≡ false → Distinct ns → Distinct (ns ++ (n ∷ []))
distinct_more ns n new d = record { found = λ q l. go (ltb q (length ns)) q refl (omega (arith, l, length-append ns (n ∷ []))) }
  where
    go : (x : Bool) (q : ℕ) → ltb q (length ns) ≡ x → q < length ns + 1 → place_of (ns ++ (n ∷ [])) (get_or (ns ++ (n ∷ [])) q 0) ≡ q
    go true q e l =
        let i : q < length ns = ltb-true q (length ns) e in
        rw (get_or-append ns (n ∷ []) 0 q i) (place_kept ns n (get_or ns q 0) (is_in_lem ns q i) ∙ d.found q i)
    go false q e l =
        let i : length ns ≡ q = omega (arith, ltb-false q (length ns) e) in
        rw (get_or_at ns n [] 0 q i) (place_new ns n new ∙ i)
