-- Lists that are made of ranges, primitives and literals which name what there is pass grounds 1 to 5, and 8 where each helper is defined: test by test.
use mathlib.Core.Path.{◌≡◌, refl, sym, ap, subst, ◌∙◌}
use mathlib.Core.Bool.{true, false, not, ◌||◌, or-true}
use mathlib.Core.Logic.{inl, inr}
use mathlib.Core.List.{List, [], ◌∷◌, ◌++◌}
use Prim.Native.Nat.{ℕ, zero, suc, ◌+◌, ◌-◌, ◌*◌, ◌%◌, ◌<◌, ◌≤◌}
use native.Mathlib.Omega.{arith}
use lib.Dec.{eqb, ltb}
use lib.ListN.{length, length-append}
use lib.Seq.{get_or-append-add}
use lib.IntN.{ℤ, pos}
use lib.Signed.{lt_z, le_z, ◌≤ℤ◌}
use borrow.Author.Tests.{le-ltb, eq-eqb, ne_eqb}
use Rattle.whole.specs.Lists.{AllOf, OneOf}
use Rattle.whole.specs.Numbers.{M, minus_m, Near}
use Rattle.whole.specs.Ranges.{range}
use Rattle.whole.specs.declared.Range.{Range}
use Rattle.whole.proofs.Kit.{ints}
use Rattle.problem.specs.Problem.{Box, low_at, high_at, range_at, quantities}
use Rattle.problem.specs.Grounds.{beyond, missing, bad_quantities, any_negative, total, bad_lists, bad_range, bad_ranges, bad_primitive, bad_primitives, bad_literal, bad_literals, judge_of}
use Rattle.problem.specs.Leading.{makes, made, defined, defined_from, bad_leading}
use Rattle.problem.specs.declared.Primitive.{Primitive}
use Rattle.problem.specs.declared.Primitive.TheVariants.{Sum, Product, Square}
use Rattle.problem.specs.declared.Literal.{Literal}
use Rattle.problem.specs.declared.Literal.TheVariants.{AtMost, AtLeast}
use Rattle.std.specs.Prelude.{Ok}
use Rattle.meaning.specs.Lists.{range_list, primitive_list, length_list, literal_list, literals_in}
use Rattle.meaning.proofs.Elements.{Each, each_at}
use Rattle.meaning.proofs.Tests.{both_off}
use Rattle.meaning.proofs.FlatLists.{ranges_length, primitives_length, lengths_length, literals_length, quantities_is, range_at_lem, primitives_round}
use Rattle.meaning.proofs.NamedQuantities.{Known, Good}
use Rattle.meaning.proofs.HelpersDefined.{Defined}
use Rattle.meaning.proofs.LinesFit.{Ordered, NearEnds}

near_fine : (z : ℤ) → Near z → beyond z ≡ false
near_fine z h = both_off (lt_z z minus_m) (lt_z M z) (omega ints) (omega ints)

there : (n q : ℕ) → q < n → missing n (pos q) ≡ false
there n q h = both_off (lt_z (pos q) (pos 0)) (le_z (pos n) (pos q)) (omega ints) (omega ints)

-- ---- 1
quantities_fine : (rs : List Range) → 0 < length rs → length rs ≤ 128 → bad_quantities (range_list rs) ≡ false
quantities_fine rs h k =
    let e = quantities_is rs in
    both_off (eqb (length (range_list rs) % 2) 1) _ (ne_eqb (length (range_list rs) % 2) 1 (λ f. omega (arith, ranges_length rs)))
    (both_off (ltb (quantities (range_list rs)) 1) (ltb 128 (quantities (range_list rs))) (le-ltb (quantities (range_list rs)) 1 (omega arith)) (le-ltb 128 (quantities (range_list rs)) (omega arith)))

-- ---- 2
none_negative : (cs : List (List Literal)) → any_negative (length_list cs) ≡ false
unfolding any_negative length_list
none_negative [] = refl
none_negative (c ∷ cs) = both_off (lt_z (pos (length c)) (pos 0)) (any_negative (length_list cs)) (omega ints) (none_negative cs)

total_is : (cs : List (List Literal)) → total (length_list cs) ≡ pos (length (literals_in cs))
unfolding total length_list literals_in
total_is [] = refl
total_is (c ∷ cs) = rw (total_is cs, length-append c (literals_in cs))

lists_fine : (ps : List Primitive) (cs : List (List Literal)) → length ps ≤ 256 → length cs ≤ 256 → length (literals_in cs) ≤ 1024 → bad_lists (primitive_list ps) (length_list cs) (literal_list (literals_in cs)) ≡ false
lists_fine ps cs h i j =
    let a = primitives_length ps in
    let b = lengths_length cs in
    let c = literals_length (literals_in cs) in
    both_off (ltb 1024 (length (primitive_list ps))) _ (le-ltb 1024 (length (primitive_list ps)) (omega arith))
    (both_off (ltb 256 (length (length_list cs))) _ (le-ltb 256 (length (length_list cs)) (omega arith))
    (both_off (ltb 3072 (length (literal_list (literals_in cs)))) _ (le-ltb 3072 (length (literal_list (literals_in cs))) (omega arith))
    (both_off (not (eqb (length (primitive_list ps) % 4) 0)) _ (ap not (eq-eqb (length (primitive_list ps) % 4) 0 (omega arith)))
    (both_off (any_negative (length_list cs)) _ (none_negative cs)
    (rw (total_is cs) (both_off (lt_z (pos (length (literal_list (literals_in cs)))) (pos (3 * length (literals_in cs)))) _ (omega ints) (omega ints)))))))

-- ---- 3
ranges_fine : (rs : List Range) → AllOf Ordered rs → AllOf NearEnds rs → bad_ranges (range_list rs) ≡ false
unfolding bad_ranges range_list
ranges_fine [] h k = refl
ranges_fine (r ∷ rs) h k =
    let o : r.low ≤ℤ r.high = h.0 in
    both_off (bad_range r.low r.high) (bad_ranges (range_list rs))
    (both_off (lt_z r.high r.low) _ (omega ints) (both_off (beyond r.low) (beyond r.high) (near_fine r.low k.0.0) (near_fine r.high k.0.1)))
    (ranges_fine rs h.1 k.1)

-- ---- 4
primitives_fine : (n : ℕ) (ps : List Primitive) → AllOf (Known n) ps → bad_primitives n (primitive_list ps) ≡ false
unfolding bad_primitives primitive_list
primitives_fine n [] h = refl
primitives_fine n (Sum z x y ∷ ps) h =
    both_off (bad_primitive n (pos 1) (pos z) (pos x) (pos y)) (bad_primitives n (primitive_list ps))
    (both_off (missing n (pos z)) _ (there n z h.0.0) (both_off (missing n (pos x)) _ (there n x h.0.1) (there n y h.0.2)))
    (primitives_fine n ps h.1)
primitives_fine n (Product z x y ∷ ps) h =
    both_off (bad_primitive n (pos 2) (pos z) (pos x) (pos y)) (bad_primitives n (primitive_list ps))
    (both_off (missing n (pos z)) _ (there n z h.0.0) (both_off (missing n (pos x)) _ (there n x h.0.1) (there n y h.0.2)))
    (primitives_fine n ps h.1)
primitives_fine n (Square z x ∷ ps) h =
    both_off (bad_primitive n (pos 3) (pos z) (pos x) (pos 0)) (bad_primitives n (primitive_list ps))
    (both_off (missing n (pos z)) _ (there n z h.0.0) (both_off (missing n (pos x)) _ (there n x h.0.1) refl))
    (primitives_fine n ps h.1)

-- ---- 5
literals_fine : (n : ℕ) (ls : List Literal) → AllOf (Good n) ls → bad_literals n (literal_list ls) ≡ false
unfolding bad_literals literal_list
literals_fine n [] h = refl
literals_fine n (AtMost q c ∷ ls) h =
    both_off (bad_literal n (pos q) (pos 0) c) (bad_literals n (literal_list ls)) (both_off (missing n (pos q)) _ (there n q h.0.0) (near_fine c h.0.1)) (literals_fine n ls h.1)
literals_fine n (AtLeast q c ∷ ls) h =
    both_off (bad_literal n (pos q) (pos 1) c) (bad_literals n (literal_list ls)) (both_off (missing n (pos q)) _ (there n q h.0.0) (near_fine c h.0.1)) (literals_fine n ls h.1)

-- ---- 8
made_one : (ps : List Primitive) (q : ℕ) → OneOf (λ e. makes e q ≡ true) ps → made ps q ≡ true
unfolding made
made_one [] q i = elim i [ ]
made_one (p ∷ ps) q (inl h) = rw h
made_one (p ∷ ps) q (inr h) = rw (made_one ps q h, or-true (makes p q))

module _ (b : Box) (ps : List Primitive) where
  defined_is : (q : ℕ) → Defined ps q (range_at b q) → defined b ps q ≡ true
  defined_is q (inl h) = let f : lt_z (low_at b q) (high_at b q) ≡ false = omega ints in rw f
  defined_is q (inr h) = rw (made_one ps q h, or-true (not (lt_z (low_at b q) (high_at b q))))

  all_defined : (k q : ℕ) → ((i : ℕ) → i < k → Defined ps (q + i) (range_at b (q + i))) → defined_from b ps k q ≡ true
  unfolding defined_from
  all_defined zero q h = refl
  all_defined (suc k) q h =
      rw (defined_is q (subst (λ (j : ℕ). Defined ps j (range_at b j)) (omega arith) (h 0 (omega arith))))
      (all_defined k (suc q) (λ i l. subst (λ (j : ℕ). Defined ps j (range_at b j)) (omega arith) (h (suc i) (omega arith))))

-- ranges d first, then those of helpers, each of them defined
module _ (d rs : List Range) (ps : List Primitive) (h : Each (Defined ps) (length d) rs) where
  helper_at : (i : ℕ) → i < length rs → Defined ps (length d + i) (range_at (range_list (d ++ rs)) (length d + i))
  helper_at i l =
      subst (Defined ps (length d + i)) (sym (range_at_lem (d ++ rs) (length d + i) ∙ get_or-append-add d rs i (range (pos 0) (pos 0))))
      (each_at (Defined ps) rs (range (pos 0) (pos 0)) (length d) i l h)

  pub leads : 0 < length d → bad_leading (range_list (d ++ rs)) (primitive_list ps) (pos (length d)) ≡ false
  leads some =
      let b = range_list (d ++ rs) in
      let many : quantities b ≡ length d + length rs = quantities_is (d ++ rs) ∙ length-append d rs in
      let later : quantities b - length d ≡ length rs = omega arith in
      both_off (lt_z (pos (length d)) (pos 1) || lt_z (pos (quantities b)) (pos (length d))) _
      (both_off (lt_z (pos (length d)) (pos 1)) (lt_z (pos (quantities b)) (pos (length d))) (omega ints) (omega ints))
      (rw (primitives_round ps, later, all_defined b ps (length rs) (length d) helper_at))

pub record Sane (rs : List Range) (ps : List Primitive) (cs : List (List Literal)) : Type 0 where
  pub some : 0 < length rs
  pub few : length rs ≤ 128
  pub primitives : length ps ≤ 256
  pub clauses : length cs ≤ 256
  pub literals : length (literals_in cs) ≤ 1024
  pub ordered : AllOf Ordered rs
  pub near : AllOf NearEnds rs
  pub known : AllOf (Known (length rs)) ps
  pub good : AllOf (Good (length rs)) (literals_in cs)

pub sound : (rs : List Range) (ps : List Primitive) (cs : List (List Literal)) → Sane rs ps cs → judge_of (range_list rs) (primitive_list ps) (length_list cs) (literal_list (literals_in cs)) ≡ Ok tt
unfolding judge_of
sound rs ps cs h =
    rw (
      quantities_fine rs h.some h.few,
      lists_fine ps cs h.primitives h.clauses h.literals,
      ranges_fine rs h.ordered h.near,
      quantities_is rs,
      primitives_fine (length rs) ps h.known,
      literals_fine (length rs) (literals_in cs) h.good,
    )
