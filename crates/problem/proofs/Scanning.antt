-- The loop of ground 2: what the clause lengths are judged is what the rest from a place on is judged, until a length decides or none is left.
use mathlib.Core.Path.{◌≡◌, refl, sym, ap, ◌∙◌}
use mathlib.Core.Bool.{Bool, true, false, not, ◌||◌}
use mathlib.Core.List.{List, [], ◌∷◌}
use Prim.Native.Nat.{ℕ, ◌+◌, ◌*◌, ◌≤◌, ◌<◌}
use lib.Dec.{eqb}
use lib.ListN.{length, get_or, drop, drop_of_length-le}
use lib.IntN.{ℤ, pos, nat_abs, ◌+ℤ◌, ◌*ℤ◌}
use lib.Signed.{lt_z, ◌≤ℤ◌}
use Rattle.whole.proofs.Kit.{ints, plus, times, nat_abs_is, apart}
use Rattle.problem.specs.Grounds.{differ, any_negative, total}
use Rattle.problem.proofs.Tests.{or_yes, or_no, or_first, or_second, by_bool, differ_is}
use Rattle.problem.proofs.Lists.{drop1}

scan_hit : {w r : Bool} (t u : Bool) → w ≡ (t || u) → r ≡ t → r ≡ true → true ≡ w
scan_hit t u e f g = or_yes t u (sym f ∙ g) ∙ sym e

scan_turn : {w r : Bool} (t u : Bool) → w ≡ (t || u) → r ≡ t → r ≡ false → w ≡ u
scan_turn t u e f g = e ∙ sym (or_no t u (sym f ∙ g) refl)

-- ---- clause lengths: none so far is below 0, and what was summed and what is left make up the total
pub negative_at : (ns : List ℤ) (i : ℕ) → i < length ns → any_negative (drop i ns) ≡ (lt_z (get_or ns i (pos 0)) (pos 0) || any_negative (drop (i + 1) ns))
unfolding any_negative
negative_at ns i h = ap any_negative (drop1 ns i h)

pub total_at : (ns : List ℤ) (i : ℕ) → i < length ns → total (drop i ns) ≡ get_or ns i (pos 0) +ℤ total (drop (i + 1) ns)
unfolding total
total_at ns i h = ap total (drop1 ns i h)

pub total_from_0 : (ns : List ℤ) → any_negative ns ≡ false → pos 0 ≤ℤ total ns
unfolding any_negative total
total_from_0 [] e = omega ints
total_from_0 (n ∷ ns) e =
    let h = total_from_0 ns (or_second (lt_z n (pos 0)) (any_negative ns) e) in
    let k = or_first (lt_z n (pos 0)) (any_negative ns) e in
    omega (ints, plus n (total ns))

module _ (ns : List ℤ) (size sum i : ℕ) (signs : any_negative ns ≡ any_negative (drop i ns)) (sums : total ns ≡ pos sum +ℤ total (drop i ns)) where
  abbrev judged : Bool
  judged = any_negative ns || differ (pos size) (pos 3 *ℤ total ns)

  module _ (has : i < length ns) {n : ℤ} (en : n ≡ get_or ns i (pos 0)) where
    first : any_negative ns ≡ (lt_z n (pos 0) || any_negative (drop (i + 1) ns))
    first = signs ∙ negative_at ns i has ∙ ap (λ (x : ℤ). lt_z x (pos 0) || any_negative (drop (i + 1) ns)) (sym en)

    pub below_0 : lt_z n (pos 0) ≡ true → true ≡ judged
    below_0 e = or_yes (any_negative ns) (differ (pos size) (pos 3 *ℤ total ns)) (sym (scan_hit _ _ first refl e))

    pub signs_on : lt_z n (pos 0) ≡ false → any_negative ns ≡ any_negative (drop (i + 1) ns)
    signs_on e = scan_turn _ _ first refl e

    pub sums_on : lt_z n (pos 0) ≡ false → total ns ≡ pos (sum + nat_abs n) +ℤ total (drop (i + 1) ns)
    sums_on e = let f = total_at ns i has in omega (ints, plus (pos sum) (total (drop i ns)), plus (get_or ns i (pos 0)) (total (drop (i + 1) ns)), plus (pos (sum + nat_abs n)) (total (drop (i + 1) ns)), nat_abs_is n, apart n)

    pub too_long : lt_z n (pos 0) ≡ false → lt_z (pos 1024) n ≡ true → size ≤ 3072 → true ≡ judged
    too_long e f h =
        by_bool (any_negative ns) (λ g. or_yes (any_negative ns) _ g)
        (λ g. or_no (any_negative ns) _ g (or_yes (lt_z (pos size) (pos 3 *ℤ total ns)) _ (more g)))
      where
        more : any_negative ns ≡ false → lt_z (pos size) (pos 3 *ℤ total ns) ≡ true
        more g =
            let k = total_from_0 (drop (i + 1) ns) (sym (signs_on e) ∙ g) in
            let s = sums_on e in
            omega (ints, plus (pos (sum + nat_abs n)) (total (drop (i + 1) ns)), nat_abs_is n, apart n, times (pos 3) (total ns))

  pub lengths_end : length ns ≤ i → not (eqb (3 * sum) size) ≡ judged
  unfolding any_negative total
  lengths_end h =
      let d = drop_of_length-le ns {i = i} h in
      let f : total ns ≡ pos sum +ℤ pos 0 = sums ∙ ap (λ (r : List ℤ). pos sum +ℤ total r) d in
      let g : pos (3 * sum) ≡ pos 3 *ℤ total ns = omega (ints, plus (pos sum) (pos 0), times (pos 3) (total ns)) in
      or_no (any_negative ns) _ (signs ∙ ap any_negative d) (differ_is (3 * sum) size ∙ ap (differ (pos size)) g)

module _ (n : ℤ) (sum i : ℕ) (sums : sum ≤ 1024 * i) (low : lt_z n (pos 0) ≡ false) (high : lt_z (pos 1024) n ≡ false) where
  pub sum_small : sum + nat_abs n ≤ 1024 * (i + 1)
  sum_small = omega (ints, nat_abs_is n, apart n)
