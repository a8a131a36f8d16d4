-- What a tree writes, whatever the flags: helpers are written behind those in use, so what stood there stays; counts grow by the tree's size, up to the limit; a flag that was raised stays raised.
use mathlib.Core.Path.{◌≡◌, refl, ◌∙◌}
use mathlib.Core.Bool.{Bool, true, false, cond}
use mathlib.Core.List.{List}
use Prim.Native.Nat.{ℕ, ◌+◌, ◌*◌, ◌≤◌, min}
use native.Mathlib.Omega.{arith}
use lib.Dec.{ltb}
use lib.IntN.{ℤ}
use lib.ListN.{length, take}
use borrow.Author.Tests.{ltb-true, ltb-false}
use Rattle.problem.specs.declared.Primitive.TheVariants.{Square}
use Rattle.meaning.specs.Plain.{Tree, constant, quantity, binary, square}
use Rattle.meaning.specs.Translation.{equation, size_of}
use Rattle.lines.specs.inner.Emission.{bump, emit}
use Rattle.lines.specs.declared.parts.Making.{Making}
use Rattle.lines.proofs.ListFronts.{put_range_keeps, put_range_length}
use Rattle.lines.proofs.PutBehind.{put_primitive_length}

-- ---- one more, up to the limit
bump_grows : (n : ℕ) → n ≤ bump n
bump_grows n = go (ltb n 10_000)
  where
    go : (x : Bool) → n ≤ cond x (n + 1) n
    go true = omega arith
    go false = omega arith

bump_to : (n : ℕ) → n ≤ 10_000 → bump n ≡ min 10_000 (n + 1)
bump_to n h = go (ltb n 10_000) refl
  where
    go : (x : Bool) → ltb n 10_000 ≡ x → cond x (n + 1) n ≡ min 10_000 (n + 1)
    go true e = omega (arith, ltb-true n 10_000 e)
    go false e = omega (arith, ltb-false n 10_000 e)

module _ (d : ℕ) where
  -- ---- quantities and primitives are counted
  pub used_grows : (t : Tree) (rs ps : List ℤ) (m : Making) → m.used ≤ (emit d t rs ps m).making.used
  unfolding emit
  used_grows (constant n) rs ps m = bump_grows m.used
  used_grows (quantity q) rs ps m = omega arith
  used_grows (binary o a b) rs ps m =
      let x = emit d a rs ps m in
      let y = emit d b x.ranges x.primitives x.making in
      omega (arith, used_grows a rs ps m, used_grows b x.ranges x.primitives x.making, bump_grows y.making.used)
  used_grows (square a) rs ps m = omega (arith, used_grows a rs ps m, bump_grows (emit d a rs ps m).making.used)

  pub used_is : (t : Tree) (rs ps : List ℤ) (m : Making) → m.used ≤ 10_000 → (emit d t rs ps m).making.used ≡ min 10_000 (m.used + size_of t)
  unfolding emit size_of
  used_is (constant n) rs ps m h = bump_to m.used h
  used_is (quantity q) rs ps m h = omega arith
  used_is (binary o a b) rs ps m h =
      let x = emit d a rs ps m in
      let y = emit d b x.ranges x.primitives x.making in
      let i = used_is a rs ps m h in
      let j = used_is b x.ranges x.primitives x.making (omega arith) in
      omega (arith, bump_to y.making.used (omega arith))
  used_is (square a) rs ps m h =
      let x = emit d a rs ps m in
      let i = used_is a rs ps m h in
      omega (arith, bump_to x.making.used (omega arith))

  -- ---- the lists keep their lengths, and their fronts up to what is in use
  pub ranges_long : (t : Tree) (rs ps : List ℤ) (m : Making) → length (emit d t rs ps m).ranges ≡ length rs
  unfolding emit
  ranges_long (constant n) rs ps m = put_range_length rs m.used _
  ranges_long (quantity q) rs ps m = refl
  ranges_long (binary o a b) rs ps m =
      let x = emit d a rs ps m in
      let y = emit d b x.ranges x.primitives x.making in
      put_range_length y.ranges y.making.used _ ∙ ranges_long b x.ranges x.primitives x.making ∙ ranges_long a rs ps m
  ranges_long (square a) rs ps m =
      let x = emit d a rs ps m in
      put_range_length x.ranges x.making.used _ ∙ ranges_long a rs ps m

  pub primitives_long : (t : Tree) (rs ps : List ℤ) (m : Making) → length (emit d t rs ps m).primitives ≡ length ps
  unfolding emit
  primitives_long (constant n) rs ps m = refl
  primitives_long (quantity q) rs ps m = refl
  primitives_long (binary o a b) rs ps m =
      let x = emit d a rs ps m in
      let y = emit d b x.ranges x.primitives x.making in
      put_primitive_length y.primitives y.making.count (equation o y.making.used x.held.place y.held.place)
      ∙ primitives_long b x.ranges x.primitives x.making
      ∙ primitives_long a rs ps m
  primitives_long (square a) rs ps m =
      let x = emit d a rs ps m in
      put_primitive_length x.primitives x.making.count (Square x.making.used x.held.place) ∙ primitives_long a rs ps m

  pub ranges_kept : (t : Tree) (rs ps : List ℤ) (m : Making) (n : ℕ) → n ≤ 2 * m.used → take n (emit d t rs ps m).ranges ≡ take n rs
  unfolding emit
  ranges_kept (constant k) rs ps m n h = put_range_keeps rs m.used n _ h
  ranges_kept (quantity q) rs ps m n h = refl
  ranges_kept (binary o a b) rs ps m n h =
      let x = emit d a rs ps m in
      let y = emit d b x.ranges x.primitives x.making in
      let i = used_grows a rs ps m in
      let j = used_grows b x.ranges x.primitives x.making in
      put_range_keeps y.ranges y.making.used n _ (omega arith)
      ∙ ranges_kept b x.ranges x.primitives x.making n (omega arith)
      ∙ ranges_kept a rs ps m n h
  ranges_kept (square a) rs ps m n h =
      let x = emit d a rs ps m in
      let i = used_grows a rs ps m in
      put_range_keeps x.ranges x.making.used n _ (omega arith) ∙ ranges_kept a rs ps m n h

  -- ---- a flag that was raised stays raised
  pub wide_stays : (t : Tree) (rs ps : List ℤ) (m : Making) → m.wide ≡ true → (emit d t rs ps m).making.wide ≡ true
  unfolding emit
  wide_stays (constant n) rs ps m e = rw e
  wide_stays (quantity q) rs ps m e = e
  wide_stays (binary o a b) rs ps m e =
      let x = emit d a rs ps m in
      rw (wide_stays b x.ranges x.primitives x.making (wide_stays a rs ps m e))
  wide_stays (square a) rs ps m e = rw (wide_stays a rs ps m e)
