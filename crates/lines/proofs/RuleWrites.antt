-- What the comparisons of a rule write: each writes its difference's tree and then its literals, which name the difference's place, so the laws of one tree go through the list.
use mathlib.Core.Path.{◌≡◌, refl, sym, ◌∙◌}
use mathlib.Core.Bool.{true, false}
use mathlib.Core.List.{List, [], ◌∷◌, ◌++◌, append-nil, append_assoc}
use Prim.Native.Nat.{ℕ, ◌+◌, ◌*◌, ◌≤◌, ◌<◌, min}
use native.Mathlib.Omega.{arith}
use lib.ListN.{length, take, length-append}
use Rattle.whole.specs.Lists.{AllOf}
use Rattle.whole.specs.inner.Held.{Good}
use Rattle.whole.specs.declared.Range.{Range}
use Rattle.problem.specs.declared.Primitive.{Primitive}
use Rattle.problem.specs.declared.Literal.{Literal}
use Rattle.sheet.specs.declared.Sign.{Sign}
use Rattle.sheet.specs.declared.Sign.TheVariants.{AtMost, Below, AtLeast, Above, Equal, Differ}
use Rattle.meaning.specs.Plain.{Asked}
use Rattle.meaning.specs.Translation.{gap_of, Turn, first, second, half_of, literals_for, size_of, place_in, piece_of, gaps, clause_of}
use Rattle.meaning.specs.Lists.{range_list, literal_list}
use Rattle.meaning.specs.Grounds.{any_beyond}
use Rattle.lines.specs.inner.Emission.{emit, Emit, Listing, listed, list_all}
use Rattle.meaning.proofs.Definitions.{sizes}
use Rattle.meaning.proofs.TreeSizes.{piece_primitives, literals_alike}
use Rattle.lines.proofs.PutBehind.{SmallLiteral, put_literals_length, count_literals_lem, literals_next}
use Rattle.lines.proofs.Flags.{strange, strange_all, one_listed}
use Rattle.lines.proofs.HelperRanges.{any_append}
use Rattle.lines.proofs.TreeWrites.{used_grows, used_is, ranges_long, primitives_long, ranges_kept, wide_stays}
use Rattle.lines.proofs.WideFlag.{Ranged, inside, outside, ranged}
use Rattle.lines.proofs.ExactPiece.{Ready, Wrote, wrote}
use Rattle.meaning.proofs.Tests.{either_off}

-- ---- whatever the flags
-- no list is longer or shorter than it was
pub record Long (a b : Listing) : Type 0 where
  pub ranges : length b.ranges ≡ length a.ranges
  pub primitives : length b.primitives ≡ length a.primitives
  pub firsts : length b.firsts ≡ length a.firsts
  pub seconds : length b.seconds ≡ length a.seconds

module _ (d : ℕ) where
  pub used_all : (xs : List Asked) (a : Listing) → a.making.used ≤ 10_000 → (list_all d xs a).making.used ≡ min 10_000 (a.making.used + sizes xs)
  unfolding list_all sizes
  used_all [] a h = omega arith
  used_all (x ∷ xs) a h =
      let i = used_is d (gap_of x) a.ranges a.primitives a.making h in
      omega (arith, used_all xs (one_listed d x a) (omega arith))

  pub long_all : (xs : List Asked) (a : Listing) → Long a (list_all d xs a)
  unfolding list_all
  long_all [] a = record { ranges = refl; primitives = refl; firsts = refl; seconds = refl }
  long_all (x ∷ xs) a =
      let l = long_all xs (one_listed d x a) in
      let p = (emit d (gap_of x) a.ranges a.primitives a.making).held.place in
      record {
        ranges = l.ranges ∙ ranges_long d (gap_of x) a.ranges a.primitives a.making;
        primitives = l.primitives ∙ primitives_long d (gap_of x) a.ranges a.primitives a.making;
        firsts = l.firsts ∙ put_literals_length (literals_for first x.sign p) a.firsts a.count;
        seconds = l.seconds ∙ put_literals_length (literals_for second x.sign p) a.seconds a.count;
      }

  wide_stays_all : (xs : List Asked) (a : Listing) → a.making.wide ≡ true → (list_all d xs a).making.wide ≡ true
  unfolding list_all
  wide_stays_all [] a e = e
  wide_stays_all (x ∷ xs) a e = wide_stays_all xs (one_listed d x a) (wide_stays d (gap_of x) a.ranges a.primitives a.making e)

-- ---- 28: some helper's range is beyond
module _ (ds : List Range) (good : AllOf Good ds) where
  pub wide_all : (xs : List Asked) (k : ℕ) (a : Listing) → strange_all (length ds) xs ≡ false → take (2 * length ds) a.ranges ≡ range_list ds → length ds ≤ a.making.used → a.making.wide ≡ false → (list_all (length ds) xs a).making.wide ≡ any_beyond (gaps ds k xs).ranges
  unfolding list_all gaps any_beyond
  wide_all [] k a s f u w = w
  wide_all (x ∷ xs) k a s f u w =
      let h = either_off (strange (length ds) (gap_of x)) (strange_all (length ds) xs) s in
      let i = used_grows (length ds) (gap_of x) a.ranges a.primitives a.making in
      let e = ranges_kept (length ds) (gap_of x) a.ranges a.primitives a.making (2 * length ds) (omega arith) in
      go (ranged ds good (gap_of x) k a.ranges a.primitives a.making h.0 f u w)
      (λ v. wide_all xs (k + size_of (gap_of x)) (one_listed (length ds) x a) h.1 (e ∙ f) (omega arith) v)
    where
      b : Listing
      b = one_listed (length ds) x a

      A : List Range
      A = (piece_of ds k (gap_of x)).ranges

      B : List Range
      B = (gaps ds (k + size_of (gap_of x)) xs).ranges

      go : {r : Range} → Ranged r (any_beyond A) (emit (length ds) (gap_of x) a.ranges a.primitives a.making) → (b.making.wide ≡ false → (list_all (length ds) xs b).making.wide ≡ any_beyond B) → (list_all (length ds) xs b).making.wide ≡ any_beyond (A ++ B)
      go (inside v e i g) f = f v ∙ sym (any_append A B ∙ rw e)
      go (outside v e) f = wide_stays_all (length ds) xs b v ∙ sym (any_append A B ∙ rw e)

-- ---- fronts
literals_small : (t : Turn) (s : Sign) (q : ℕ) → q < 20_000 → AllOf SmallLiteral (literals_for t s q)
unfolding literals_for half_of
literals_small t AtMost q h = (h, tt)
literals_small t Below q h = (h, tt)
literals_small t AtLeast q h = (h, tt)
literals_small t Above q h = (h, tt)
literals_small first Equal q h = (h, tt)
literals_small second Equal q h = (h, tt)
literals_small t Differ q h = (h, (h, tt))

-- the literals so far are the fronts of the two clauses, as many in the one as in the other
pub record Noted (ds ws : List Range) (vs : List Primitive) (k : ℕ) (fs ss : List Literal) (a : Listing) : Type 0 where
  pub ready : Ready ds ws vs k a.ranges a.primitives a.making
  pub count : a.count ≡ length fs
  pub alike : length fs ≡ length ss
  pub firsts : take (3 * length fs) a.firsts ≡ literal_list fs
  pub seconds : take (3 * length ss) a.seconds ≡ literal_list ss

-- one comparison more
module _ {ds ws : List Range} {vs : List Primitive} {k : ℕ} {fs ss : List Literal} {a : Listing} (noted : Noted ds ws vs k fs ss a) (x : Asked) where
  one_noted : {e : Emit} → Wrote ds ws vs k (gap_of x) e → length fs + length (literals_for first x.sign (place_in k (gap_of x))) ≤ 1024 → 3 * (length fs + length (literals_for first x.sign (place_in k (gap_of x)))) ≤ length a.firsts → 3 * (length fs + length (literals_for first x.sign (place_in k (gap_of x)))) ≤ length a.seconds → Noted ds (ws ++ (piece_of ds k (gap_of x)).ranges) (vs ++ (piece_of ds k (gap_of x)).primitives) (k + size_of (gap_of x)) (fs ++ literals_for first x.sign (place_in k (gap_of x))) (ss ++ literals_for second x.sign (place_in k (gap_of x))) (listed x.sign e a)
  one_noted {e} w small long longer =
      let q = place_in k (gap_of x) in
      let f = literals_for first x.sign q in
      let s = literals_for second x.sign q in
      let i = literals_alike x.sign q q in
      let l = length-append fs f in
      let m = length-append ss s in
      record {
        ready = w.ready;
        count = rw (w.place, noted.count) (count_literals_lem f (length fs) (omega arith) ∙ sym l);
        alike = omega (arith, noted.alike);
        firsts = rw (l, w.place, noted.count) (literals_next f a.firsts (length fs) fs small long (literals_small first x.sign q (omega (arith, w.low))) noted.firsts);
        seconds = rw (m, w.place, noted.count, noted.alike) (literals_next s a.seconds (length ss) ss (omega (arith, noted.alike)) (omega (arith, noted.alike)) (literals_small second x.sign q (omega (arith, w.low))) noted.seconds);
      }

noted_as : {ds ws ws' : List Range} {vs vs' : List Primitive} {k k' : ℕ} {fs fs' ss ss' : List Literal} {a : Listing} → ws ≡ ws' → vs ≡ vs' → k ≡ k' → fs ≡ fs' → ss ≡ ss' → Noted ds ws vs k fs ss a → Noted ds ws' vs' k' fs' ss' a
noted_as {ds} {a = a} p q r s t n = coe 0 1 (i. Noted ds (p i) (q i) (r i) (s i) (t i) a) n

-- all of them, where the clauses have room
module _ (ds : List Range) (good : AllOf Good ds) where
  pub noted_all : (xs : List Asked) {ws : List Range} {vs : List Primitive} {k : ℕ} {fs ss : List Literal} {a : Listing} → Noted ds ws vs k fs ss a → strange_all (length ds) xs ≡ false → any_beyond (gaps ds k xs).ranges ≡ false → k + sizes xs ≤ 128 → length vs + sizes xs ≤ 256 → length fs + length (clause_of first k xs) ≤ 1024 → 3 * (length fs + length (clause_of first k xs)) ≤ length a.firsts → 3 * (length fs + length (clause_of first k xs)) ≤ length a.seconds → Noted ds (ws ++ (gaps ds k xs).ranges) (vs ++ (gaps ds k xs).primitives) (k + sizes xs) (fs ++ clause_of first k xs) (ss ++ clause_of second k xs) (list_all (length ds) xs a)
  unfolding list_all gaps sizes clause_of
  noted_all [] {ws} {vs} {k} {fs} {ss} {a} n s b u c h i j =
      noted_as (sym (append-nil ws)) (sym (append-nil vs)) (omega arith) (sym (append-nil fs)) (sym (append-nil ss)) n
  noted_all (x ∷ xs) {ws} {vs} {k} {fs} {ss} {a} n s b u c h i j =
      let t = gap_of x in
      let e = emit (length ds) t a.ranges a.primitives a.making in
      let q = place_in k t in
      let A = piece_of ds k t in
      let B = gaps ds (k + size_of t) xs in
      let f = literals_for first x.sign q in
      let g = literals_for second x.sign q in
      let cf = clause_of first (k + size_of t) xs in
      let cg = clause_of second (k + size_of t) xs in
      let names = either_off (strange (length ds) t) (strange_all (length ds) xs) s in
      let far = either_off (any_beyond A.ranges) (any_beyond B.ranges) (sym (any_append A.ranges B.ranges) ∙ b) in
      let w = wrote ds good t n.ready names.0 far.0 (omega arith) (omega arith) in
      let l1 = length-append f cf in
      let l2 = length-append fs f in
      let l3 = length-append vs A.primitives in
      let p = piece_primitives ds k t in
      let one = one_noted n x w (omega arith) (omega arith) (omega arith) in
      let lf = put_literals_length (literals_for first x.sign e.held.place) a.firsts a.count in
      let ls = put_literals_length (literals_for second x.sign e.held.place) a.seconds a.count in
      noted_as (append_assoc ws A.ranges B.ranges) (append_assoc vs A.primitives B.primitives) (omega arith) (append_assoc fs f cf) (append_assoc ss g cg)
      (noted_all xs one names.1 far.1 (omega arith) (omega arith) (omega arith) (omega arith) (omega arith))
