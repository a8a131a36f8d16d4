-- As long as no range of a helper left plus or minus M, the range in hand is the tree's own; the first that leaves it raises the flag, which stays.
-- So the flag tells whether some helper's range is beyond.
use mathlib.Core.Path.{◌≡◌, refl, sym, ap, ap₂, subst, ◌∙◌}
use mathlib.Core.Bool.{Bool, true, false, ◌||◌}
use mathlib.Core.List.{List, [], ◌∷◌, ◌++◌}
use Prim.Native.Nat.{ℕ, ◌+◌, ◌*◌, ◌≤◌}
use native.Mathlib.Omega.{arith}
use lib.IntN.{ℤ, pos}
use lib.ListN.{length, get_or, take}
use borrow.Author.Tests.{leb-false}
use Rattle.whole.specs.Lists.{AllOf}
use Rattle.whole.specs.Ranges.{range, square_span}
use Rattle.whole.specs.inner.Held.{Good}
use Rattle.whole.specs.declared.Range.{Range}
use Rattle.problem.specs.Grounds.{beyond}
use Rattle.meaning.specs.Plain.{Operation, Tree, constant, quantity, binary, square}
use Rattle.meaning.specs.Translation.{span_for, range_of, size_of, piece_of}
use Rattle.meaning.specs.Lists.{range_list}
use Rattle.meaning.specs.Grounds.{any_beyond}
use Rattle.lines.specs.inner.Emission.{kept, Emit, another, joined, squared_of, emit}
use Rattle.lines.specs.declared.parts.Making.{Making}
use Rattle.lines.proofs.ListFronts.{front_range}
use Rattle.lines.proofs.Flags.{or_false, strange}
use Rattle.lines.proofs.HelperRanges.{Ordered, or_true, any_append, ordered_good, ordered_bad, good_kept, declared_good, range_ordered}
use Rattle.lines.proofs.TreeWrites.{used_grows, ranges_kept, wide_stays}
use Rattle.meaning.proofs.Tests.{either_off}

-- r is the range in hand, and nothing was beyond; or something was, and the flag is raised
pub data Ranged (r : Range) (any : Bool) (e : Emit) : Type 0 where
  inside : e.making.wide ≡ false → any ≡ false → e.held.span ≡ r → Good r → Ranged r any e
  outside : e.making.wide ≡ true → any ≡ true → Ranged r any e

-- ---- one helper more
-- an end of a range is beyond
abbrev far : Range → Bool
far r = beyond r.low || beyond r.high

any_last : (xs : List Range) (r : Range) → any_beyond xs ≡ false → any_beyond (xs ++ (r ∷ [])) ≡ far r
unfolding any_beyond
any_last xs r e = any_append xs (r ∷ []) ∙ rw e (or_false (far r))

module _ (xs : List Range) (r : Range) (rs ps : List ℤ) (count : ℕ) (m : Making) where
  helper_here : Ordered r → m.wide ≡ false → any_beyond xs ≡ false → Ranged r (any_beyond (xs ++ (r ∷ []))) (another r rs ps count m)
  helper_here o w e = go (far r) refl
    where
      is : (another r rs ps count m).making.wide ≡ far r
      is = rw w (ordered_bad r o)

      go : (x : Bool) → far r ≡ x → Ranged r (any_beyond (xs ++ (r ∷ []))) (another r rs ps count m)
      go true f = outside (is ∙ f) (any_last xs r e ∙ f)
      go false f = let g = ordered_good r o f in inside (is ∙ f) (any_last xs r e ∙ f) (good_kept r g) g

  helper_ranged : (s : Range) → s ≡ r → Ordered r → m.wide ≡ false → any_beyond xs ≡ false → Ranged r (any_beyond (xs ++ (r ∷ []))) (another s rs ps count m)
  helper_ranged s i o w e = subst (λ (z : Range). Ranged r (any_beyond (xs ++ (r ∷ []))) (another z rs ps count m)) (sym i) (helper_here o w e)

-- once beyond, always beyond
any_left : (xs ys : List Range) → any_beyond xs ≡ true → any_beyond (xs ++ ys) ≡ true
any_left xs ys e = any_append xs ys ∙ rw e

any_right : (xs ys : List Range) → any_beyond ys ≡ true → any_beyond (xs ++ ys) ≡ true
any_right xs ys e = any_append xs ys ∙ rw e (or_true (any_beyond xs))

any_none : (xs ys : List Range) → any_beyond xs ≡ false → any_beyond ys ≡ false → any_beyond (xs ++ ys) ≡ false
any_none xs ys e f = any_append xs ys ∙ rw (e, f)

-- ---- one operand, and two
square_ranged : (r : Range) (xs : List Range) (x : Emit) → Ordered (square_span r) → Ranged r (any_beyond xs) x → Ranged (square_span r) (any_beyond (xs ++ (square_span r ∷ []))) (squared_of x)
square_ranged r xs x o (inside w a i g) = helper_ranged xs (square_span r) _ _ _ x.making (square_span x.held.span) (ap square_span i) o w a
square_ranged r xs x o (outside w a) = outside (rw w) (any_left xs (square_span r ∷ []) a)

module _ (o : Operation) (p q : Range) (xs ys : List Range) (x y : Emit) (order : Ordered (span_for o p q)) where
  second_ranged : any_beyond xs ≡ false → x.held.span ≡ p → Ranged q (any_beyond ys) y → Ranged (span_for o p q) (any_beyond (xs ++ ys ++ (span_for o p q ∷ []))) (joined o x.held y)
  second_ranged a i (inside w b j g) =
      helper_ranged (xs ++ ys) (span_for o p q) _ _ _ y.making (span_for o x.held.span y.held.span) (ap₂ (span_for o) i j) order w (any_none xs ys a b)
  second_ranged a i (outside w b) = outside (rw w) (any_left (xs ++ ys) (span_for o p q ∷ []) (any_right xs ys b))

  both_ranged : (x.making.wide ≡ true → y.making.wide ≡ true) → Ranged p (any_beyond xs) x → (x.making.wide ≡ false → Ranged q (any_beyond ys) y) → Ranged (span_for o p q) (any_beyond (xs ++ ys ++ (span_for o p q ∷ []))) (joined o x.held y)
  both_ranged stays (inside w a i g) f = second_ranged a i (f w)
  both_ranged stays (outside w a) f = outside (rw (stays w)) (any_left (xs ++ ys) (span_for o p q ∷ []) (any_left xs ys a))

-- ---- trees
module _ (ds : List Range) (good : AllOf Good ds) where
  pub ranged : (t : Tree) (k : ℕ) (rs ps : List ℤ) (m : Making) → strange (length ds) t ≡ false → take (2 * length ds) rs ≡ range_list ds → length ds ≤ m.used → m.wide ≡ false → Ranged (range_of ds t) (any_beyond (piece_of ds k t).ranges) (emit (length ds) t rs ps m)
  unfolding emit range_of piece_of any_beyond
  ranged (constant n) k rs ps m s f u w =
      let r = range (pos n) (pos n) in
      helper_ranged [] r rs ps m.count m r refl (range_ordered ds good (constant n)) w refl
  ranged (quantity q) k rs ps m s f u w =
      let g = declared_good ds q good in
      inside w refl (ap kept (front_range rs ds q f (leb-false (length ds) q s)) ∙ good_kept (get_or ds q (range (pos 0) (pos 0))) g) g
  ranged (binary o a b) k rs ps m s f u w =
      let x = emit (length ds) a rs ps m in
      let y = emit (length ds) b x.ranges x.primitives x.making in
      let h = either_off (strange (length ds) a) (strange (length ds) b) s in
      let j = used_grows (length ds) a rs ps m in
      let l = ranges_kept (length ds) a rs ps m (2 * length ds) (omega arith) ∙ f in
      both_ranged o (range_of ds a) (range_of ds b) (piece_of ds k a).ranges (piece_of ds (k + size_of a) b).ranges x y
      (range_ordered ds good (binary o a b))
      (wide_stays (length ds) b x.ranges x.primitives x.making)
      (ranged a k rs ps m h.0 f u w)
      (λ v. ranged b (k + size_of a) x.ranges x.primitives x.making h.1 l (omega arith) v)
  ranged (square a) k rs ps m s f u w =
      square_ranged (range_of ds a) (piece_of ds k a).ranges (emit (length ds) a rs ps m) (range_ordered ds good (square a))
      (ranged a k rs ps m s f u w)
