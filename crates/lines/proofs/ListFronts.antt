-- Lists that are written from the front: a write behind a front keeps it, a write at its end makes it one longer.
use mathlib.Core.Path.{◌≡◌, refl, sym, ap, ◌∙◌}
use mathlib.Core.Bool.{Bool, true, false, cond}
use mathlib.Core.List.{List, [], ◌∷◌, ◌++◌, append_assoc}
use Prim.Native.Nat.{ℕ, zero, suc, ◌+◌, ◌*◌, ◌≤◌, ◌<◌}
use native.Mathlib.Numerals.{add-one}
use native.Mathlib.Omega.{arith}
use lib.Dec.{ltb}
use lib.IntN.{ℤ, pos}
use lib.ListN.{length, get_or, take, set, length-set}
use lib.Seq.{take-set-le, take-suc-set, get_or-take}
use borrow.Author.Tests.{lt-ltb}
use Rattle.whole.specs.Ranges.{range}
use Rattle.whole.specs.declared.Range.{Range}
use Rattle.problem.specs.Problem.{range_at}
use Rattle.meaning.specs.Lists.{range_list}
use Rattle.lines.specs.inner.Emission.{put_range, put_four, put_three}

-- ---- ranges by their number
range_in : (xs : List Range) (q : ℕ) → range_at (range_list xs) q ≡ get_or xs q (range (pos 0) (pos 0))
unfolding range_list
range_in [] q = refl
range_in (x ∷ xs) zero = refl
range_in (x ∷ xs) (suc q) =
    let l : 2 * suc q ≡ suc (suc (2 * q)) = omega arith in
    let h : 2 * suc q + 1 ≡ suc (suc (2 * q + 1)) = omega arith in
    rw (h, l) (range_in xs q)

-- a quantity of the front has the range that stands there
pub front_range : (l : List ℤ) (xs : List Range) (q : ℕ) → take (2 * length xs) l ≡ range_list xs → q < length xs → range_at l q ≡ get_or xs q (range (pos 0) (pos 0))
front_range l xs q e h =
    let n = 2 * length xs in
    let i : range_at (take n l) q ≡ range_at l q =
    λ j. range (get_or-take n l (2 * q) (pos 0) (omega arith) j) (get_or-take n l (2 * q + 1) (pos 0) (omega arith) j) in
    sym i ∙ ap (λ (m : List ℤ). range_at m q) e ∙ range_in xs q

-- ---- a write behind a front keeps it
pub put_range_keeps : (l : List ℤ) (i n : ℕ) (r : Range) → n ≤ 2 * i → take n (put_range l i r) ≡ take n l
unfolding put_range
put_range_keeps l i n r h = go (ltb i 128)
  where
    go : (x : Bool) → take n (cond x (set (set l (2 * i) r.low) (2 * i + 1) r.high) l) ≡ take n l
    go true = take-set-le n (set l (2 * i) r.low) (2 * i + 1) r.high (omega arith) ∙ take-set-le n l (2 * i) r.low h
    go false = refl

-- ---- no write changes the length
pub put_range_length : (l : List ℤ) (i : ℕ) (r : Range) → length (put_range l i r) ≡ length l
unfolding put_range
put_range_length l i r = go (ltb i 128)
  where
    go : (x : Bool) → length (cond x (set (set l (2 * i) r.low) (2 * i + 1) r.high) l) ≡ length l
    go true = simp length-set
    go false = refl

pub put_four_length : (l : List ℤ) (i : ℕ) (k z x y : ℤ) → length (put_four l i k z x y) ≡ length l
unfolding put_four
put_four_length l i k z x y = go (ltb i 256)
  where
    go : (b : Bool) → length (cond b (set (set (set (set l (4 * i) k) (4 * i + 1) z) (4 * i + 2) x) (4 * i + 3) y) l) ≡ length l
    go true = simp length-set
    go false = refl

pub put_three_length : (l : List ℤ) (i : ℕ) (q s c : ℤ) → length (put_three l i q s c) ≡ length l
unfolding put_three
put_three_length l i q s c = go (ltb i 1024)
  where
    go : (b : Bool) → length (cond b (set (set (set l (3 * i) q) (3 * i + 1) s) (3 * i + 2) c) l) ≡ length l
    go true = simp length-set
    go false = refl

-- ---- a write at the end of a front makes it longer
next : (l : List ℤ) (i : ℕ) {front : List ℤ} (a : ℤ) → i < length l → take i l ≡ front → take (i + 1) (set l i a) ≡ front ++ (a ∷ [])
next l i a h e = rw add-one (take-suc-set l i a h ∙ ap (λ (m : List ℤ). m ++ (a ∷ [])) e)

pub take_two : (l : List ℤ) (n : ℕ) (a b : ℤ) → n + 2 ≤ length l → take (n + 2) (set (set l n a) (n + 1) b) ≡ take n l ++ (a ∷ (b ∷ []))
take_two l n a b h =
    let s : n + 2 ≡ n + 1 + 1 = omega arith in
    let m = set l n a in
    rw s (next m (n + 1) b (omega (arith, length-set l n a)) (next l n a (omega arith) refl) ∙ append_assoc (take n l) (a ∷ []) (b ∷ []))

pub take_three : (l : List ℤ) (n : ℕ) (a b c : ℤ) → n + 3 ≤ length l → take (n + 3) (set (set (set l n a) (n + 1) b) (n + 2) c) ≡ take n l ++ (a ∷ (b ∷ (c ∷ [])))
take_three l n a b c h =
    let s : n + 3 ≡ n + 2 + 1 = omega arith in
    let m = set (set l n a) (n + 1) b in
    let k : length m ≡ length l = simp length-set in
    rw s (next m (n + 2) c (omega arith) (take_two l n a b (omega arith)) ∙ append_assoc (take n l) (a ∷ (b ∷ [])) (c ∷ []))

pub take_four : (l : List ℤ) (n : ℕ) (a b c d : ℤ) → n + 4 ≤ length l → take (n + 4) (set (set (set (set l n a) (n + 1) b) (n + 2) c) (n + 3) d) ≡ take n l ++ (a ∷ (b ∷ (c ∷ (d ∷ []))))
take_four l n a b c d h =
    let s : n + 4 ≡ n + 3 + 1 = omega arith in
    let m = set (set (set l n a) (n + 1) b) (n + 2) c in
    let k : length m ≡ length l = simp length-set in
    rw s (next m (n + 3) d (omega arith) (take_three l n a b c (omega arith)) ∙ append_assoc (take n l) (a ∷ (b ∷ (c ∷ []))) (d ∷ []))

pub put_range_next : (l : List ℤ) (i : ℕ) (r : Range) → i < 128 → 2 * (i + 1) ≤ length l → take (2 * (i + 1)) (put_range l i r) ≡ take (2 * i) l ++ (r.low ∷ (r.high ∷ []))
unfolding put_range
put_range_next l i r h k =
    let e : 2 * (i + 1) ≡ 2 * i + 2 = omega arith in
    rw (lt-ltb i 128 h, e) (take_two l (2 * i) r.low r.high (omega arith))

pub put_four_next : (l : List ℤ) (i : ℕ) (k z x y : ℤ) → i < 256 → 4 * (i + 1) ≤ length l → take (4 * (i + 1)) (put_four l i k z x y) ≡ take (4 * i) l ++ (k ∷ (z ∷ (x ∷ (y ∷ []))))
unfolding put_four
put_four_next l i k z x y h j =
    let e : 4 * (i + 1) ≡ 4 * i + 4 = omega arith in
    rw (lt-ltb i 256 h, e) (take_four l (4 * i) k z x y (omega arith))

pub put_three_next : (l : List ℤ) (i : ℕ) (q s c : ℤ) → i < 1024 → 3 * (i + 1) ≤ length l → take (3 * (i + 1)) (put_three l i q s c) ≡ take (3 * i) l ++ (q ∷ (s ∷ (c ∷ [])))
unfolding put_three
put_three_next l i q s c h j =
    let e : 3 * (i + 1) ≡ 3 * i + 3 = omega arith in
    rw (lt-ltb i 1024 h, e) (take_three l (3 * i) q s c (omega arith))
