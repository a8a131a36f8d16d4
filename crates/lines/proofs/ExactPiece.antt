-- Where every name is declared, no helper's range is beyond and all quantities have room, a tree writes exactly its piece of the problem:
-- each helper is put at the end of the ranges' front, each primitive at the end of the primitives'.
use mathlib.Core.Path.{◌≡◌, refl, sym, ap, ap₂, subst₂, subst₃, ◌∙◌}
use mathlib.Core.Bool.{Bool, false, ◌||◌}
use mathlib.Core.List.{List, [], ◌∷◌, ◌++◌, append-nil, append_assoc}
use Prim.Native.Nat.{ℕ, ◌+◌, ◌*◌, ◌≤◌, ◌<◌}
use native.Mathlib.Omega.{arith}
use lib.Dec.{leb}
use lib.IntN.{ℤ, pos}
use lib.ListN.{length, get_or, take, length-append}
use borrow.Author.Tests.{leb-false}
use Rattle.whole.specs.Lists.{AllOf}
use Rattle.whole.specs.Ranges.{range, square_span}
use Rattle.whole.specs.inner.Held.{Good}
use Rattle.whole.specs.declared.Range.{Range}
use Rattle.problem.specs.Grounds.{beyond}
use Rattle.problem.specs.declared.Primitive.{Primitive}
use Rattle.problem.specs.declared.Primitive.TheVariants.{Square}
use Rattle.meaning.specs.Plain.{Operation, sum, difference, product, Tree, constant, quantity, binary, square}
use Rattle.meaning.specs.Translation.{span_for, range_of, size_of, place_in, equation, piece_of}
use Rattle.meaning.specs.Lists.{range_list, primitive_list}
use Rattle.meaning.specs.Grounds.{any_beyond}
use Rattle.lines.specs.inner.Emission.{bump, kept, put_primitive, Emit, another, operated, joined, squared_of, emit}
use Rattle.lines.specs.declared.parts.Making.{Making}
use Rattle.lines.proofs.ListFronts.{front_range, put_range_keeps, put_range_length}
use Rattle.meaning.proofs.TreeSizes.{piece_primitives}
use Rattle.lines.proofs.PutBehind.{SmallPrimitive, bump_is, range_next, primitive_next, put_primitive_length}
use Rattle.lines.proofs.Flags.{or_false, strange}
use Rattle.lines.proofs.HelperRanges.{Ordered, any_append, ordered_good, good_bad, good_kept, declared_good, range_ordered}
use Rattle.meaning.proofs.Tests.{either_off}

-- the lists' fronts hold these ranges, the declared ones first, and these primitives; k quantities are in use
pub record Ready (ds ws : List Range) (vs : List Primitive) (k : ℕ) (rs ps : List ℤ) (m : Making) : Type 0 where
  pub used : m.used ≡ k
  pub count : m.count ≡ length vs
  pub wide : m.wide ≡ false
  pub ranges_long : length rs ≡ 256
  pub primitives_long : length ps ≡ 1024
  pub first : length ds ≤ k
  pub declared : take (2 * length ds) rs ≡ range_list ds
  pub ranges : take (2 * k) rs ≡ range_list ws
  pub primitives : take (4 * length vs) ps ≡ primitive_list vs

ready_as : {ds ws ws' : List Range} {vs vs' : List Primitive} {k k' : ℕ} {rs ps : List ℤ} {m : Making} → ws ≡ ws' → vs ≡ vs' → k ≡ k' → Ready ds ws vs k rs ps m → Ready ds ws' vs' k' rs ps m
ready_as {ds} {rs = rs} {ps = ps} {m = m} e f g h = subst₃ (λ (ws : List Range) (vs : List Primitive) (k : ℕ). Ready ds ws vs k rs ps m) e f g h

-- ---- one helper more
module _ {ds ws : List Range} {vs : List Primitive} {k : ℕ} {rs ps : List ℤ} {m : Making} (ready : Ready ds ws vs k rs ps m) (r : Range) (good : Good r) (room : k < 128) where
  helper_ready : Ready ds (ws ++ (r ∷ [])) vs (k + 1) (another r rs ps m.count m).ranges ps (another r rs ps m.count m).making
  helper_ready =
      record {
        used = ap bump ready.used ∙ bump_is k (omega arith);
        count = ready.count;
        wide = rw ready.wide (good_bad r good);
        ranges_long = put_range_length rs m.used (kept r) ∙ ready.ranges_long;
        primitives_long = ready.primitives_long;
        first = omega (arith, ready.first);
        declared = put_range_keeps rs m.used (2 * length ds) (kept r) (omega (arith, ready.first, ready.used)) ∙ ready.declared;
        ranges = rw (ready.used, good_kept r good) (range_next rs k r ws room (omega (arith, ready.ranges_long)) ready.ranges);
        primitives = ready.primitives;
      }

-- one primitive more
abbrev counted : Making → Making
counted m = record { used = m.used; count = bump m.count; unknown = m.unknown; wide = m.wide }

primitive_ready : {ds ws : List Range} {vs : List Primitive} {k : ℕ} {rs ps : List ℤ} {m : Making} → Ready ds ws vs k rs ps m → (p : Primitive) → SmallPrimitive p → length vs < 256 → Ready ds ws (vs ++ (p ∷ [])) k rs (put_primitive ps m.count p) (counted m)
primitive_ready {ds} {ws} {vs} {k} {rs} {ps} {m} ready p small room =
    let l : length (vs ++ (p ∷ [])) ≡ length vs + 1 = length-append vs (p ∷ []) in
    record {
      used = ready.used;
      count = ap bump ready.count ∙ bump_is (length vs) (omega arith) ∙ sym l;
      wide = ready.wide;
      ranges_long = ready.ranges_long;
      primitives_long = put_primitive_length ps m.count p ∙ ready.primitives_long;
      first = ready.first;
      declared = ready.declared;
      ranges = ready.ranges;
      primitives = rw (l, ready.count) (primitive_next ps (length vs) p vs room (omega (arith, ready.primitives_long)) small ready.primitives);
    }

-- a helper with its primitive
module _ {ds ws : List Range} {vs : List Primitive} {k : ℕ} {rs ps : List ℤ} {m : Making} (ready : Ready ds ws vs k rs ps m) (r : Range) (p : Primitive) where
  operated_ready : (s : Range) (q : Primitive) → s ≡ r → q ≡ p → Good r → SmallPrimitive p → k < 128 → length vs < 256 → Ready ds (ws ++ (r ∷ [])) (vs ++ (p ∷ [])) (k + 1) (operated s q rs ps m).ranges (operated s q rs ps m).primitives (operated s q rs ps m).making
  operated_ready s q e f good small room space =
      subst₂ (λ (s : Range) (q : Primitive). Ready ds (ws ++ (r ∷ [])) (vs ++ (p ∷ [])) (k + 1) (operated s q rs ps m).ranges (operated s q rs ps m).primitives (operated s q rs ps m).making)
      (sym e) (sym f)
      (helper_ready (primitive_ready ready p small space) r good room)

-- ---- the numbers in a tree's primitives
equation_small : (o : Operation) (h a b : ℕ) → h < 20_000 → a < 20_000 → b < 20_000 → SmallPrimitive (equation o h a b)
unfolding equation
equation_small sum h a b i j k = (i, j, k)
equation_small difference h a b i j k = (j, i, k)
equation_small product h a b i j k = (i, j, k)

-- ---- the last range, and those before it
record Last (xs : List Range) (r : Range) : Type 0 where
  before : any_beyond xs ≡ false
  good : Good r

last_of : (xs : List Range) (r : Range) → Ordered r → any_beyond (xs ++ (r ∷ [])) ≡ false → Last xs r
unfolding any_beyond
last_of xs r o e =
    let k = either_off (any_beyond xs) (any_beyond (r ∷ [])) (sym (any_append xs (r ∷ [])) ∙ e) in
    record { before = k.0; good = ordered_good r o (sym (or_false (beyond r.low || beyond r.high)) ∙ k.1) }

-- ---- trees
-- after a tree: its piece stands behind what was there, and its place and range are in hand
pub record Wrote (ds ws : List Range) (vs : List Primitive) (k : ℕ) (t : Tree) (e : Emit) : Type 0 where
  pub ready : Ready ds (ws ++ (piece_of ds k t).ranges) (vs ++ (piece_of ds k t).primitives) (k + size_of t) e.ranges e.primitives e.making
  pub place : e.held.place ≡ place_in k t
  pub low : place_in k t < 128
  pub span : e.held.span ≡ range_of ds t

unknown_ready : {ds ws : List Range} {vs : List Primitive} {k : ℕ} {rs ps : List ℤ} {m : Making} → Ready ds ws vs k rs ps m → (b : Bool) → Ready ds ws vs k rs ps (record { used = m.used; count = m.count; unknown = b; wide = m.wide })
unknown_ready ready b =
    record {
      used = ready.used;
      count = ready.count;
      wide = ready.wide;
      ranges_long = ready.ranges_long;
      primitives_long = ready.primitives_long;
      first = ready.first;
      declared = ready.declared;
      ranges = ready.ranges;
      primitives = ready.primitives;
    }

-- one operand, and two, and the helper behind them
square_wrote : {ds ws : List Range} {vs : List Primitive} {k : ℕ} (a : Tree) {x : Emit} → Wrote ds ws vs k a x → Good (square_span (range_of ds a)) → k + (size_of a + 1) ≤ 128 → length vs + (size_of a + 1) ≤ 256 → Wrote ds ws vs k (square a) (squared_of x)
unfolding range_of piece_of size_of place_in
square_wrote {ds} {ws} {vs} {k} a {x} i good u c =
    let A = piece_of ds k a in
    let r = square_span (range_of ds a) in
    let l = length-append vs A.primitives in
    let f = piece_primitives ds k a in
    record {
      ready =
          ready_as (append_assoc ws A.ranges (r ∷ [])) (append_assoc vs A.primitives (Square (k + size_of a) (place_in k a) ∷ [])) (omega arith)
          (operated_ready i.ready r (Square (k + size_of a) (place_in k a)) (square_span x.held.span) (Square x.making.used x.held.place)
          (ap square_span i.span) (ap₂ Square i.ready.used i.place) good (omega arith, omega (arith, i.low)) (omega arith) (omega arith));
      place = i.ready.used;
      low = omega arith;
      span = ap kept (ap square_span i.span) ∙ good_kept r good;
    }

both_wrote : {ds ws : List Range} {vs : List Primitive} {k : ℕ} (o : Operation) (a b : Tree) {x y : Emit} → Wrote ds ws vs k a x → Wrote ds (ws ++ (piece_of ds k a).ranges) (vs ++ (piece_of ds k a).primitives) (k + size_of a) b y → Good (span_for o (range_of ds a) (range_of ds b)) → k + (size_of a + size_of b + 1) ≤ 128 → length vs + (size_of a + size_of b + 1) ≤ 256 → Wrote ds ws vs k (binary o a b) (joined o x.held y)
unfolding range_of piece_of size_of place_in
both_wrote {ds} {ws} {vs} {k} o a b {x} {y} i j good u c =
    let A = piece_of ds k a in
    let B = piece_of ds (k + size_of a) b in
    let r = span_for o (range_of ds a) (range_of ds b) in
    let h = k + (size_of a + size_of b) in
    let p = equation o h (place_in k a) (place_in (k + size_of a) b) in
    let e : y.making.used ≡ h = j.ready.used ∙ omega arith in
    let l = length-append vs A.primitives in
    let n = length-append (vs ++ A.primitives) B.primitives in
    let f = piece_primitives ds k a in
    let g = piece_primitives ds (k + size_of a) b in
    record {
      ready =
          ready_as (simp append_assoc) (simp append_assoc) (omega arith)
          (operated_ready j.ready r p (span_for o x.held.span y.held.span) (equation o y.making.used x.held.place y.held.place)
          (ap₂ (span_for o) i.span j.span) (λ z. equation o (e z) (i.place z) (j.place z))
          good (equation_small o h (place_in k a) (place_in (k + size_of a) b) (omega arith) (omega (arith, i.low)) (omega (arith, j.low))) (omega arith) (omega arith));
      place = e;
      low = omega arith;
      span = ap kept (ap₂ (span_for o) i.span j.span) ∙ good_kept r good;
    }

module _ (ds : List Range) (good : AllOf Good ds) where
  pub wrote : (t : Tree) {ws : List Range} {vs : List Primitive} {k : ℕ} {rs ps : List ℤ} {m : Making} → Ready ds ws vs k rs ps m → strange (length ds) t ≡ false → any_beyond (piece_of ds k t).ranges ≡ false → k + size_of t ≤ 128 → length vs + size_of t ≤ 256 → Wrote ds ws vs k t (emit (length ds) t rs ps m)
  unfolding emit range_of piece_of size_of place_in
  wrote (constant n) {ws} {vs} {k} {rs} {ps} {m} ready s e u c =
      let r = range (pos n) (pos n) in
      let l = last_of [] r (range_ordered ds good (constant n)) e in
      record {
        ready = ready_as refl (sym (append-nil vs)) refl (helper_ready ready r l.good (omega arith));
        place = ready.used;
        low = omega arith;
        span = good_kept r l.good;
      }
  wrote (quantity q) {ws} {vs} {k} {rs} {ps} {m} ready s e u c =
      let h = leb-false (length ds) q s in
      record {
        ready = ready_as (sym (append-nil ws)) (sym (append-nil vs)) (omega arith) (unknown_ready ready (m.unknown || leb (length ds) q));
        place = refl;
        low = omega (arith, ready.first);
        span = ap kept (front_range rs ds q ready.declared h) ∙ good_kept (get_or ds q (range (pos 0) (pos 0))) (declared_good ds q good);
      }
  wrote (binary o a b) {ws} {vs} {k} {rs} {ps} {m} ready s e u c =
      let A = piece_of ds k a in
      let B = piece_of ds (k + size_of a) b in
      let r = span_for o (range_of ds a) (range_of ds b) in
      let h = either_off (strange (length ds) a) (strange (length ds) b) s in
      let l = last_of (A.ranges ++ B.ranges) r (range_ordered ds good (binary o a b)) e in
      let j = either_off (any_beyond A.ranges) (any_beyond B.ranges) (sym (any_append A.ranges B.ranges) ∙ l.before) in
      let i = wrote a ready h.0 j.0 (omega arith) (omega arith) in
      let n = length-append vs A.primitives in
      let f = piece_primitives ds k a in
      both_wrote o a b i (wrote b i.ready h.1 j.1 (omega arith) (omega arith)) l.good u c
  wrote (square a) {ws} {vs} {k} {rs} {ps} {m} ready s e u c =
      let l = last_of (piece_of ds k a).ranges (square_span (range_of ds a)) (range_ordered ds good (square a)) e in
      square_wrote a (wrote a ready s l.before (omega arith) (omega arith)) l.good u c
