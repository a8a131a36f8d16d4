-- The root of M tells a product's size: a factor within it leaves the product within 64 bits, and two factors past it make a product past M, on the side of their signs.
use mathlib.Core.Path.{◌≡◌, refl, sym, subst}
use mathlib.Core.Bool.{Bool, true, false, ◌&&◌, ◌||◌, beq, true≢false}
use Prim.Native.Nat.{◌≤◌, ◌<◌}
use lib.Dec.{T}
use lib.IntN.{ℤ, pos, negsuc, nat_abs, ◌*ℤ◌}
use lib.Signed.{lt_z, le_z, ◌≤ℤ◌, ◌<ℤ◌}
use mir.Syntax.{w64}
use mir.Val.{SFits}
use Rattle.whole.specs.Numbers.{Near}
use Rattle.whole.specs.inner.Held.{held}
use Rattle.whole.proofs.Kit.{ints, times, cross, apart, nat_abs_is, near_abs, abs_prod, fits_abs}
use Rattle.whole.proofs.Meaning.{held_is}

abbrev pub Small : ℤ → Bool
Small a = le_z (negsuc 999_999) a && le_z a (pos 1_000_000)

pub small_abs : (a : ℤ) → Small a ≡ true → nat_abs a ≤ 1_000_000
small_abs a s = go (le_z (negsuc 999_999) a) refl s
  where
    go : (t : Bool) → le_z (negsuc 999_999) a ≡ t → (t && le_z a (pos 1_000_000)) ≡ true → nat_abs a ≤ 1_000_000
    go true e f = omega (ints, nat_abs_is a, apart a)
    go false e f = absurd (subst T (sym f) tt)

pub first_small : (a b : ℤ) → Small a ≡ true → Near b → SFits w64 (a *ℤ b)
first_small a b h k = fits_abs (a *ℤ b) 1_000_000_000_000_000_000 tt (abs_prod a b (small_abs a h) (near_abs b k))

pub second_small : (a b : ℤ) → Near a → Small b ≡ true → SFits w64 (a *ℤ b)
second_small a b h k = fits_abs (a *ℤ b) 1_000_000_000_000_000_000 tt (abs_prod a b (near_abs a h) (small_abs b k))

pub one_small : (a b : ℤ) → Near a → Near b → (Small a || Small b) ≡ true → SFits w64 (a *ℤ b)
one_small a b h k e = go (Small a) refl e
  where
    go : (t : Bool) → Small a ≡ t → (t || Small b) ≡ true → SFits w64 (a *ℤ b)
    go true f g = first_small a b f k
    go false f g = second_small a b h g

pub large_abs : (a : ℤ) → Small a ≡ false → 1_000_000 < nat_abs a
large_abs a s = go (le_z (negsuc 999_999) a) refl s
  where
    go : (t : Bool) → le_z (negsuc 999_999) a ≡ t → (t && le_z a (pos 1_000_000)) ≡ false → 1_000_000 < nat_abs a
    go true e f = omega (ints, nat_abs_is a)
    go false e f = omega (ints, nat_abs_is a)

module _ (a b : ℤ) (h : 1_000_000 < nat_abs a) (k : 1_000_000 < nat_abs b) where
  both_below : a <ℤ pos 0 → b <ℤ pos 0 → pos 1_000_000_000_001 ≡ held (a *ℤ b)
  both_below i j =
      let x : a ≤ℤ negsuc 1_000_000 = omega (ints, nat_abs_is a, apart a) in
      let y : b ≤ℤ negsuc 1_000_000 = omega (ints, nat_abs_is b, apart b) in
      sym ((held_is (a *ℤ b)).over (omega (ints, times a b, cross a (negsuc 1_000_000) b (negsuc 1_000_000) x y)))

  first_below : a <ℤ pos 0 → pos 0 ≤ℤ b → negsuc 1_000_000_000_000 ≡ held (a *ℤ b)
  first_below i j =
      let x : a ≤ℤ negsuc 1_000_000 = omega (ints, nat_abs_is a, apart a) in
      let y : pos 1_000_001 ≤ℤ b = omega (ints, nat_abs_is b, apart b) in
      sym ((held_is (a *ℤ b)).under (omega (ints, times a b, cross a (negsuc 1_000_000) (pos 1_000_001) b x y)))

  second_below : pos 0 ≤ℤ a → b <ℤ pos 0 → negsuc 1_000_000_000_000 ≡ held (a *ℤ b)
  second_below i j =
      let x : pos 1_000_001 ≤ℤ a = omega (ints, nat_abs_is a, apart a) in
      let y : b ≤ℤ negsuc 1_000_000 = omega (ints, nat_abs_is b, apart b) in
      sym ((held_is (a *ℤ b)).under (omega (ints, times a b, cross (pos 1_000_001) a b (negsuc 1_000_000) x y)))

  none_below : pos 0 ≤ℤ a → pos 0 ≤ℤ b → pos 1_000_000_000_001 ≡ held (a *ℤ b)
  none_below i j =
      let x : pos 1_000_001 ≤ℤ a = omega (ints, nat_abs_is a, apart a) in
      let y : pos 1_000_001 ≤ℤ b = omega (ints, nat_abs_is b, apart b) in
      sym ((held_is (a *ℤ b)).over (omega (ints, times a b, cross (pos 1_000_001) a (pos 1_000_001) b x y)))

  pub one_side : beq (lt_z a (pos 0)) (lt_z b (pos 0)) ≡ true → pos 1_000_000_000_001 ≡ held (a *ℤ b)
  one_side e = go (lt_z a (pos 0)) (lt_z b (pos 0)) refl refl e
    where
      go : (s t : Bool) → lt_z a (pos 0) ≡ s → lt_z b (pos 0) ≡ t → beq s t ≡ true → pos 1_000_000_000_001 ≡ held (a *ℤ b)
      go true true i j g = both_below (omega ints) (omega ints)
      go true false i j g = absurd (true≢false (sym g))
      go false true i j g = absurd (true≢false (sym g))
      go false false i j g = none_below (omega ints) (omega ints)

  pub two_sides : beq (lt_z a (pos 0)) (lt_z b (pos 0)) ≡ false → negsuc 1_000_000_000_000 ≡ held (a *ℤ b)
  two_sides e = go (lt_z a (pos 0)) (lt_z b (pos 0)) refl refl e
    where
      go : (s t : Bool) → lt_z a (pos 0) ≡ s → lt_z b (pos 0) ≡ t → beq s t ≡ false → negsuc 1_000_000_000_000 ≡ held (a *ℤ b)
      go true true i j g = absurd (true≢false g)
      go true false i j g = first_below (omega ints) (omega ints)
      go false true i j g = second_below (omega ints) (omega ints)
      go false false i j g = absurd (true≢false g)
