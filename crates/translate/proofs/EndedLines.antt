-- A text split behind each LF: the first part without its LF is the first line, and what is left has the lines behind it.
use Rattle.std.specs.Prelude.{Option, Some, None, MatchOption}
use Rattle.std.specs.Borrow.{Bor}
use Rattle.std.specs.Fn.{Called, ReturnsEach, AlwaysReturns}
use Rattle.std.specs.List.{AllWithin, HoldsAt, IsFirstMatchOrLen}
use Rattle.std.specs.Option.{unwrap_or}
use mathlib.Core.Path.{◌≡◌, refl, sym, ap, ◌∙◌}
use mathlib.Core.Bool.{Bool, true, false}
use mathlib.Core.List.{List, [], ◌∷◌, ◌++◌, append-nil}
use Prim.Native.Nat.{ℕ, zero, suc, min, ◌+◌, ◌-◌, ◌<◌, ◌≤◌}
use native.Mathlib.Nat.{zero-add}
use native.Mathlib.Omega.{arith}
use denote.Param.Members.{Mut}
use lib.Dec.{eqb, ltb}
use lib.ListN.{length, get_or, take, drop, length-append}
use lib.Pointwise.{pointwise}
use lib.Seq.{drop_at, take_all, take-append-le}
use borrow.Author.Tests.{ltb-true, ltb-false}
use Rattle.std.proofs.Math.Bool.{and-true}
use Rattle.std.proofs.lemmas.List.{get_or_append_left, nil_from_length}
use Rattle.sheet.specs.Lines.{lines_of}
use Rattle.sheet.specs.inner.Places.{up_to}
use Rattle.sheet.proofs.Lines.{lines_at}
use Rattle.sheet.proofs.Places as places

off : ◌≡◌ {A = Bool} true false → ⊥
off e = let z : ◌≡◌ {A = ℕ} 0 1 = cc in omega arith

-- ---- a closure that keeps nothing answers each call alike
pub always : {F X R : Type 0} {g : Mut F X R} {f : F} (P : X → R → Type 0) → ((a : X) (r : R) (f' : F) → Called g f a r f' → P a r × (f' ≡ f)) → AlwaysReturns g P f
always {F} {X} {R} {g} {f} P h = record { at = go }
  where
    go : (xs : List X) → ReturnsEach g P f xs
    go [] = tt
    go (a ∷ xs) = λ r f' k. let w = h a r f' k in (w.0, rw w.1 (go xs))

-- ---- where the first LF stands
first_at : (l : List ℕ) (k : ℕ) → AllWithin (λ b. eqb b 10 ≡ false) l 0 k → (k < length l → HoldsAt (λ b. eqb b 10 ≡ true) l k) → (k < length l → length (up_to 10 l) ≡ k) × (length l ≤ k → length (up_to 10 l) ≡ length l)
unfolding up_to
first_at [] k w h = (λ i. absurd (omega arith), λ i. refl)
first_at (b ∷ bs) zero w h = (λ i. let z : eqb b 10 ≡ true = h i 0 in rw z, λ i. absurd (omega arith))
first_at (b ∷ bs) (suc k) w h =
    let t = first_at bs k (λ i d lo hi. w (suc i) d (omega arith) (omega arith)) (λ i d. h (omega arith) d) in
    let z : eqb b 10 ≡ false = w 0 0 (omega arith) (omega arith) in
    (λ i. rw z (ap suc (t.0 (omega arith))), λ i. rw z (ap suc (t.1 (omega arith))))

last_is : (l : List ℕ) → 0 < length l → pointwise eqb (drop (length l - 1) l) (10 ∷ []) ≡ eqb (get_or l (length l - 1) 0) 10
last_is l h = rw (places.drop_at l (length l - 1) (omega arith), places.drop_end l (length l - 1 + 1) (omega arith)) (and-true (eqb (get_or l (length l - 1) 0) 10))

-- ---- the first part
-- these bytes begin with this line, and behind its LF, if there is one, stand those
pub record Ended (rest line back : List ℕ) : Type 0 where
  pub lines : lines_of rest ≡ line ∷ lines_of back
  pub shorter : length back < length rest

module _ (rest : List ℕ) (part : Bor (List ℕ)) (back : List ℕ) (k : ℕ) (e : rest ≡ part.now ++ back) (l : length part.now ≡ min (k + 1) (length rest)) (first : IsFirstMatchOrLen (λ b. eqb b 10) rest k) (some : 0 < length rest) where
  sizes : length rest ≡ length part.now + length back
  sizes = ap length e ∙ length-append part.now back

  same_at : (i : ℕ) → i < length part.now → get_or part.now i 0 ≡ get_or rest i 0
  same_at i h = sym (ap (λ (x : List ℕ). get_or x i 0) e ∙ get_or_append_left part.now back 0 i h)

  abbrev pub Stripped : Option (Bor (List ℕ)) → Type 0
  Stripped r =
      MatchOption r (pointwise eqb (drop (length part.now - 1) part.now) (10 ∷ []) ≡ false) (λ x. (pointwise eqb (drop (length part.now - 1) part.now) (10 ∷ []) ≡ true) × (x.now ≡ take (length part.now - 1) part.now) × (length x.now + 1 ≡ length part.now))

  -- an LF is there
  module _ (h : k < length rest) where
    found : eqb (get_or part.now (length part.now - 1) 0) 10 ≡ true
    found = let n : length part.now - 1 ≡ k = omega arith in rw n (rw (same_at k (omega arith)) (first.1 h 0))

    line_found : take (length part.now - 1) part.now ≡ up_to 10 rest
    line_found =
        let n : length part.now - 1 ≡ k = omega arith in
        let m : length (up_to 10 rest) ≡ k = (first_at rest k first.0 first.1).0 h in
        rw n (sym (take-append-le k part.now back (omega arith)) ∙ ap (take k) (sym e) ∙ ap (λ (j : ℕ). take j rest) (sym m) ∙ places.up_to_take 10 rest)

    back_found : back ≡ drop (length (up_to 10 rest) + 1) rest
    back_found =
        let m : length (up_to 10 rest) ≡ k = (first_at rest k first.0 first.1).0 h in
        sym (ap (drop (length (up_to 10 rest) + 1)) e ∙ drop_at part.now back (length (up_to 10 rest) + 1) (omega arith))

  -- no LF is there
  module _ (h : length rest ≤ k) where
    left : back ≡ []
    left = nil_from_length back (omega (arith, sizes))

    lacks : eqb (get_or part.now (length part.now - 1) 0) 10 ≡ false
    lacks = rw (same_at (length part.now - 1) (omega arith)) (first.0 (length part.now - 1) 0 (omega arith) (omega arith))

    line_left : part.now ≡ up_to 10 rest
    line_left =
        let m : length (up_to 10 rest) ≡ length rest = (first_at rest k first.0 first.1).1 h in
        sym (e ∙ rw left (append-nil part.now)) ∙ sym (take_all (length (up_to 10 rest)) rest (omega arith)) ∙ places.up_to_take 10 rest

    back_left : back ≡ drop (length (up_to 10 rest) + 1) rest
    back_left =
        let m : length (up_to 10 rest) ≡ length rest = (first_at rest k first.0 first.1).1 h in
        left ∙ sym (places.drop_end rest (length (up_to 10 rest) + 1) (omega arith))

  line_is : (r : Option (Bor (List ℕ))) → Stripped r → (unwrap_or r part).now ≡ up_to 10 rest
  line_is r s = by (ltb k (length rest)) refl r s
    where
      by : (t : Bool) → ltb k (length rest) ≡ t → (r : Option (Bor (List ℕ))) → Stripped r → (unwrap_or r part).now ≡ up_to 10 rest
      by true i None s = absurd (let z : ◌≡◌ {A = Bool} true false = sym (found (ltb-true k (length rest) i)) ∙ sym (last_is part.now (omega arith)) ∙ s in off z)
      by true i (Some x) s = s.1 ∙ line_found (ltb-true k (length rest) i)
      by false i None s = line_left (ltb-false k (length rest) i)
      by false i (Some x) s = absurd (let z : ◌≡◌ {A = Bool} true false = sym s.0 ∙ last_is part.now (omega arith) ∙ lacks (ltb-false k (length rest) i) in off z)

  behind_is : back ≡ drop (length (up_to 10 rest) + 1) rest
  behind_is = by (ltb k (length rest)) refl
    where
      by : (t : Bool) → ltb k (length rest) ≡ t → back ≡ drop (length (up_to 10 rest) + 1) rest
      by true i = back_found (ltb-true k (length rest) i)
      by false i = back_left (ltb-false k (length rest) i)

  -- the line, and those behind it
  pub ended : (r : Option (Bor (List ℕ))) (line : Bor (List ℕ)) → Stripped r → line ≡ unwrap_or r part → Ended rest line.now back
  ended r line s i =
      let z : length (up_to 10 rest) - 0 ≡ length (up_to 10 rest) = omega arith in
      record {
        lines = rw (i, line_is r s, behind_is) (rw (zero-add (length (up_to 10 rest)), z, places.up_to_take 10 rest) at (lines_at rest 0 some));
        shorter = omega (arith, sizes);
      }
