-- What grounds 2, 4 and 5 leave: each primitive, clause length and literal can be read, and names quantities that there are.
use mathlib.Core.Path.{◌≡◌, refl, sym, ap, ◌∙◌}
use mathlib.Core.Bool.{Bool, true, false, not, cond, ◌||◌}
use mathlib.Core.List.{List, [], ◌∷◌}
use Prim.Native.Nat.{ℕ, zero, suc, ◌+◌, ◌*◌, ◌/◌, ◌%◌, ◌≤◌, ◌<◌}
use native.Mathlib.Omega.{arith}
use native.Mathlib.Numerals.{add-one}
use borrow.Author.Tests.{ltb-true, ltb-false, eqb-true, not-false}
use lib.Dec.{eqb, ltb}
use lib.ListN.{length, get_or, take, drop}
use lib.IntN.{ℤ, pos, nat_abs, ◌+ℤ◌, ◌*ℤ◌}
use lib.Signed.{lt_z, le_z, ◌≤ℤ◌}
use Rattle.whole.specs.Numbers.{M, minus_m, Near}
use Rattle.whole.proofs.Kit.{ints, plus, times, nat_abs_is, apart}
use Rattle.problem.specs.Grounds.{differ, beyond, missing, bad_lists, bad_primitive, bad_primitives, bad_literal, bad_literals, any_negative, total}
use Rattle.problem.specs.Lists.{clauses_of}
use Rattle.problem.specs.inner.Placed.{Readable, ReadableLiteral}
use Rattle.problem.specs.declared.Literal.{Literal}
use Rattle.problem.proofs.Tests.{or_first, or_second, by_bool}
use Rattle.problem.proofs.Lists.{drop1, bad_primitives_at, bad_primitives_end, bad_literals_at, bad_literals_end, threes}
use Rattle.problem.proofs.Scanning.{negative_at, total_at, total_from_0}

-- a quantity that is not missing
pub present : (n : ℕ) (q : ℤ) → missing n q ≡ false → (pos 0 ≤ℤ q) × (nat_abs q < n)
present n q e =
    let f = or_first (lt_z q (pos 0)) (le_z (pos n) q) e in
    let g = or_second (lt_z q (pos 0)) (le_z (pos n) q) e in
    (omega ints, omega (ints, nat_abs_is q, apart q))

-- a number that is not beyond plus or minus M
pub within : (z : ℤ) → beyond z ≡ false → Near z
within z e =
    let f = or_first (lt_z z minus_m) (lt_z M z) e in
    let g = or_second (lt_z z minus_m) (lt_z M z) e in
    record { low = omega ints; high = omega ints }

-- two numbers that do not differ
pub same_number : (a b : ℤ) → differ a b ≡ false → a ≡ b
same_number a b e =
    let f = or_first (lt_z a b) (lt_z b a) e in
    let g = or_second (lt_z a b) (lt_z b a) e in
    omega ints

-- ---- primitives
pub record PrimitivePlaced (n : ℕ) (ps : List ℤ) (i : ℕ) : Type 0 where
  pub readable : Readable ps i
  pub kind_low : pos 1 ≤ℤ get_or ps (4 * i) (pos 0)
  pub kind_high : get_or ps (4 * i) (pos 0) ≤ℤ pos 3
  pub z : nat_abs (get_or ps (4 * i + 1) (pos 0)) < n
  pub x : nat_abs (get_or ps (4 * i + 2) (pos 0)) < n
  pub y : get_or ps (4 * i) (pos 0) ≤ℤ pos 2 → nat_abs (get_or ps (4 * i + 3) (pos 0)) < n

record Fours (n : ℕ) (k z x y : ℤ) : Type 0 where
  low : pos 1 ≤ℤ k
  high : k ≤ℤ pos 3
  z_is : (pos 0 ≤ℤ z) × (nat_abs z < n)
  x_is : (pos 0 ≤ℤ x) × (nat_abs x < n)
  y_is : pos 0 ≤ℤ y
  y_in : k ≤ℤ pos 2 → nat_abs y < n

fours : (n : ℕ) (k z x y : ℤ) → bad_primitive n k z x y ≡ false → Fours n k z x y
fours n k z x y e =
    let last = cond (le_z k (pos 2)) (missing n y) (differ y (pos 0)) in
    let a = or_first (lt_z k (pos 1) || lt_z (pos 3) k) (missing n z || (missing n x || last)) e in
    let b = or_second (lt_z k (pos 1) || lt_z (pos 3) k) (missing n z || (missing n x || last)) e in
    let c = or_second (missing n z) (missing n x || last) b in
    let low = or_first (lt_z k (pos 1)) (lt_z (pos 3) k) a in
    let high = or_second (lt_z k (pos 1)) (lt_z (pos 3) k) a in
    let d = or_second (missing n x) last c in
    record {
      low = omega ints;
      high = omega ints;
      z_is = present n z (or_first (missing n z) (missing n x || last) b);
      x_is = present n x (or_first (missing n x) last c);
      y_is = by_bool (le_z k (pos 2)) (λ f. (present n y (two f d)).0) (λ f. let g = same_number y (pos 0) (one f d) in omega ints);
      y_in = λ h. (present n y (two (omega ints) d)).1;
    }
  where
    two : le_z k (pos 2) ≡ true → cond (le_z k (pos 2)) (missing n y) (differ y (pos 0)) ≡ false → missing n y ≡ false
    two f g = rw f at g

    one : le_z k (pos 2) ≡ false → cond (le_z k (pos 2)) (missing n y) (differ y (pos 0)) ≡ false → differ y (pos 0) ≡ false
    one f g = rw f at g

abbrev bad_at : ℕ → List ℤ → ℕ → Bool
bad_at n ps i = bad_primitive n (get_or ps (4 * i) (pos 0)) (get_or ps (4 * i + 1) (pos 0)) (get_or ps (4 * i + 2) (pos 0)) (get_or ps (4 * i + 3) (pos 0))

pub primitives_clear : (n : ℕ) (ps : List ℤ) → bad_primitives n ps ≡ false → (i : ℕ) → bad_primitives n (drop (4 * i) ps) ≡ false
primitives_clear n ps e zero = e
primitives_clear n ps e (suc i) =
    by_bool (ltb (4 * i + 3) (length ps))
    (λ t. let g : bad_primitives n (drop (4 * (i + 1)) ps) ≡ false = or_second (bad_at n ps i) _ (sym (bad_primitives_at n ps i (ltb-true _ _ t)) ∙ primitives_clear n ps e i) in rw add-one at g)
    (λ f. let h = ltb-false (4 * i + 3) (length ps) f in bad_primitives_end n ps (suc i) (omega arith))

pub primitive_placed : (n : ℕ) (ps : List ℤ) → bad_primitives n ps ≡ false → (i : ℕ) → 4 * i + 3 < length ps → PrimitivePlaced n ps i
primitive_placed n ps e i h =
    let f = fours n (get_or ps (4 * i) (pos 0)) (get_or ps (4 * i + 1) (pos 0)) (get_or ps (4 * i + 2) (pos 0)) (get_or ps (4 * i + 3) (pos 0)) (or_first (bad_at n ps i) _ (sym (bad_primitives_at n ps i h) ∙ primitives_clear n ps e i)) in
    record {
      readable = record { inside = h; z = f.z_is.0; x = f.x_is.0; y = f.y_is };
      kind_low = f.low;
      kind_high = f.high;
      z = f.z_is.1;
      x = f.x_is.1;
      y = f.y_in;
    }

-- ---- literals
pub record LiteralPlaced (n : ℕ) (ls : List ℤ) (i : ℕ) : Type 0 where
  pub readable : ReadableLiteral ls i
  pub quantity : nat_abs (get_or ls (3 * i) (pos 0)) < n
  pub sense_low : pos 0 ≤ℤ get_or ls (3 * i + 1) (pos 0)
  pub sense_high : get_or ls (3 * i + 1) (pos 0) ≤ℤ pos 1
  pub bound : Near (get_or ls (3 * i + 2) (pos 0))

abbrev bad_literal_at : ℕ → List ℤ → ℕ → Bool
bad_literal_at n ls i = bad_literal n (get_or ls (3 * i) (pos 0)) (get_or ls (3 * i + 1) (pos 0)) (get_or ls (3 * i + 2) (pos 0))

pub literals_clear : (n : ℕ) (ls : List ℤ) → bad_literals n ls ≡ false → (i : ℕ) → bad_literals n (drop (3 * i) ls) ≡ false
literals_clear n ls e zero = e
literals_clear n ls e (suc i) =
    by_bool (ltb (3 * i + 2) (length ls))
    (λ t. let g : bad_literals n (drop (3 * (i + 1)) ls) ≡ false = or_second (bad_literal_at n ls i) _ (sym (bad_literals_at n ls i (ltb-true _ _ t)) ∙ literals_clear n ls e i) in rw add-one at g)
    (λ f. let h = ltb-false (3 * i + 2) (length ls) f in bad_literals_end n ls (suc i) (omega arith))

pub literals_clear_to : (n k : ℕ) (l : List ℤ) → bad_literals n l ≡ false → bad_literals n (take (3 * k) l) ≡ false
unfolding bad_literals
literals_clear_to n zero l e = refl
literals_clear_to n (suc k) [] e = rw (threes k)
literals_clear_to n (suc k) (a ∷ []) e = rw (threes k)
literals_clear_to n (suc k) (a ∷ (b ∷ [])) e = rw (threes k)
literals_clear_to n (suc k) (a ∷ (b ∷ (c ∷ l))) e = rw (threes k, or_first (bad_literal n a b c) (bad_literals n l) e, literals_clear_to n k l (or_second (bad_literal n a b c) (bad_literals n l) e))

pub literal_placed : (n : ℕ) (ls : List ℤ) → bad_literals n ls ≡ false → (i : ℕ) → 3 * i + 2 < length ls → LiteralPlaced n ls i
literal_placed n ls e i h = put (get_or ls (3 * i) (pos 0)) (get_or ls (3 * i + 1) (pos 0)) (get_or ls (3 * i + 2) (pos 0)) refl refl refl (or_first (bad_literal_at n ls i) _ (sym (bad_literals_at n ls i h) ∙ literals_clear n ls e i))
  where
    put : (q s c : ℤ) → q ≡ get_or ls (3 * i) (pos 0) → s ≡ get_or ls (3 * i + 1) (pos 0) → c ≡ get_or ls (3 * i + 2) (pos 0) → bad_literal n q s c ≡ false → LiteralPlaced n ls i
    put q s c eq es ec f =
        let a = present n q (or_first (missing n q) _ f) in
        let b = or_second (missing n q) ((lt_z s (pos 0) || lt_z (pos 1) s) || beyond c) f in
        let d = or_first (lt_z s (pos 0) || lt_z (pos 1) s) (beyond c) b in
        let low = or_first (lt_z s (pos 0)) (lt_z (pos 1) s) d in
        let high = or_second (lt_z s (pos 0)) (lt_z (pos 1) s) d in
        record {
          readable = record { inside = h; quantity = rw eq at a.0 };
          quantity = rw eq at a.1;
          sense_low = omega ints;
          sense_high = omega ints;
          bound = rw ec at (within c (or_second (lt_z s (pos 0) || lt_z (pos 1) s) (beyond c) b));
        }

-- ---- the lists' sizes
pub record Listed (ps ns ls : List ℤ) : Type 0 where
  pub primitives : length ps ≤ 1024
  pub lengths : length ns ≤ 256
  pub literals : length ls ≤ 3072
  pub fours : length ps ≡ 4 * (length ps / 4)
  pub signs : any_negative ns ≡ false
  pub sums : pos (length ls) ≡ pos 3 *ℤ total ns

pub listed : (ps ns ls : List ℤ) → bad_lists ps ns ls ≡ false → Listed ps ns ls
listed ps ns ls e1 =
    let e2 = or_second (ltb 1024 (length ps)) _ e1 in
    let e3 = or_second (ltb 256 (length ns)) _ e2 in
    let e4 = or_second (ltb 3072 (length ls)) _ e3 in
    let e5 = or_second (not (eqb (length ps % 4) 0)) _ e4 in
    let r : length ps % 4 ≡ 0 = eqb-true _ _ (not-false _ (or_first (not (eqb (length ps % 4) 0)) _ e4)) in
    record {
      primitives = ltb-false _ _ (or_first (ltb 1024 (length ps)) _ e1);
      lengths = ltb-false _ _ (or_first (ltb 256 (length ns)) _ e2);
      literals = ltb-false _ _ (or_first (ltb 3072 (length ls)) _ e3);
      fours = omega arith;
      signs = or_first (any_negative ns) _ e5;
      sums = same_number _ _ (or_second (any_negative ns) _ e5);
    }

-- ---- clause lengths: no length from place i on is below 0, and the literals from a place on are as many as these lengths say
pub record Left (ns ls : List ℤ) (i from : ℕ) : Type 0 where
  pub signs : any_negative (drop i ns) ≡ false
  pub sums : pos from +ℤ pos 3 *ℤ total (drop i ns) ≡ pos (length ls)

pub left_start : {ps ns ls : List ℤ} → Listed ps ns ls → Left ns ls 0 0
left_start {ps} {ns} {ls} l = record { signs = l.signs; sums = let e = l.sums in omega (ints, plus (pos 0) (pos 3 *ℤ total ns)) }

module _ {ns ls : List ℤ} {i from : ℕ} (l : Left ns ls i from) (h : i < length ns) where
  split : any_negative (drop (i + 1) ns) ≡ false
  split = or_second (lt_z (get_or ns i (pos 0)) (pos 0)) _ (sym (negative_at ns i h) ∙ l.signs)

  pub left_sign : pos 0 ≤ℤ get_or ns i (pos 0)
  left_sign = let e : lt_z (get_or ns i (pos 0)) (pos 0) ≡ false = or_first _ (any_negative (drop (i + 1) ns)) (sym (negative_at ns i h) ∙ l.signs) in omega ints

  pub left_room : from + 3 * nat_abs (get_or ns i (pos 0)) ≤ length ls
  left_room =
      let s = left_sign in
      let t = total_at ns i h in
      let e = l.sums in
      let r = total_from_0 (drop (i + 1) ns) split in
      omega (ints, plus (pos from) (pos 3 *ℤ total (drop i ns)), times (pos 3) (total (drop i ns)), plus (get_or ns i (pos 0)) (total (drop (i + 1) ns)), nat_abs_is (get_or ns i (pos 0)), apart (get_or ns i (pos 0)))

  pub left_on : Left ns ls (i + 1) (from + 3 * nat_abs (get_or ns i (pos 0)))
  left_on =
      let s = left_sign in
      let t = total_at ns i h in
      let e = l.sums in
      record {
        signs = split;
        sums = omega (
          ints,
          plus (pos from) (pos 3 *ℤ total (drop i ns)),
          times (pos 3) (total (drop i ns)),
          plus (get_or ns i (pos 0)) (total (drop (i + 1) ns)),
          nat_abs_is (get_or ns i (pos 0)),
          apart (get_or ns i (pos 0)),
          plus (pos (from + 3 * nat_abs (get_or ns i (pos 0)))) (pos 3 *ℤ total (drop (i + 1) ns)),
          times (pos 3) (total (drop (i + 1) ns)),
        );
      }

pub clauses_at : (ns : List ℤ) (i : ℕ) (l : List Literal) → i < length ns → clauses_of (drop i ns) l ≡ take (nat_abs (get_or ns i (pos 0))) l ∷ clauses_of (drop (i + 1) ns) (drop (nat_abs (get_or ns i (pos 0))) l)
unfolding clauses_of
clauses_at ns i l h = ap (λ (r : List ℤ). clauses_of r l) (drop1 ns i h)
