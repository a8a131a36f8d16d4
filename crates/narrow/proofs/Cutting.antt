-- One cut as the code makes it: the tests are those of `cut_to` on what the two ranges have in common, and spans with the same in common with the old range cut alike.
use mathlib.Core.Path.{◌≡◌, refl, sym, ap, ap₂, subst, ◌∙◌}
use mathlib.Core.Logic.{◌≢◌, ◌⊎◌, ⊎_elim}
use mathlib.Core.List.{List, [], ◌∷◌, ◌++◌}
use mathlib.Core.Bool.{Bool, true, false, cond, false≢true}
use Prim.Native.Nat.{ℕ, ◌+◌, ◌*◌, ◌<◌, ◌^◌}
use native.Mathlib.Omega.{arith}
use borrow.Author.Tests.{eqb-true, eqb-false}
use lib.Dec.{eqb}
use lib.IntN.{ℤ}
use lib.Signed.{lt_z, ◌≤ℤ◌, ◌<ℤ◌, mag}
use Rattle.whole.specs.Numbers.{min_z, max_z}
use Rattle.whole.specs.inner.Held.{held_span, Good}
use Rattle.whole.specs.declared.Range.{Range}
use Rattle.whole.specs.Ranges.{range}
use Rattle.whole.proofs.Kit.{ints, min_is, max_is, nears, min_parts, max_parts, lt_or_le, at, got, rn, call2}
use Rattle.whole.proofs.Held.{Meeting, neither, alike, meeting}
use Rattle.whole.proofs.Spans.{ends_is}
use Rattle.problem.proofs.Tests.{by_bool}
use Rattle.problem.specs.Problem.{Box, low_at, high_at, range_at}
use Rattle.narrow.specs.Cuts.{meet_of, put_at, Swept, empty, changed, unchanged, cut_to, cut_of, Cut, stay, void, to, Step, act, marked, next, steps}
use Rattle.narrow.specs.inner.Done.{Has, Fine, Seen, Replaced, left_as, Done}
use Rattle.narrow.specs.declared.Emptied.{Emptied}
use Rattle.std.specs.Prelude.{Result, Ok, Err, IsErr}
use Rattle.std.specs.Int.{int_min, int_max}
use Rattle.narrow.proofs.Boxes.{put_long, low_or, high_or, put_low, put_high}
use Rattle.narrow.proofs.Cuts.{Quiet}
use Rattle.narrow.proofs.Steps.{steps_append, steps_empty}

-- ---- the definition, test by test
module _ (q : ℕ) (old new : Range) (b : Box) where
  cut_none : new.high <ℤ new.low → cut_to q old new b ≡ empty
  unfolding cut_to
  cut_none h = let e : lt_z new.high new.low ≡ true = omega ints in rw e

  cut_raised_lem : new.low ≤ℤ new.high → old.low <ℤ new.low → cut_to q old new b ≡ changed (put_at b q new)
  unfolding cut_to
  cut_raised_lem h k =
      let e : lt_z new.high new.low ≡ false = omega ints in
      let f : lt_z old.low new.low ≡ true = omega ints in
      rw (e, f)

  cut_lowered_lem : new.low ≤ℤ new.high → new.low ≤ℤ old.low → new.high <ℤ old.high → cut_to q old new b ≡ changed (put_at b q new)
  unfolding cut_to
  cut_lowered_lem h k l =
      let e : lt_z new.high new.low ≡ false = omega ints in
      let f : lt_z old.low new.low ≡ false = omega ints in
      let g : lt_z new.high old.high ≡ true = omega ints in
      rw (e, f, g)

  cut_same : new.low ≤ℤ new.high → new.low ≤ℤ old.low → old.high ≤ℤ new.high → cut_to q old new b ≡ unchanged b
  unfolding cut_to
  cut_same h k l =
      let e : lt_z new.high new.low ≡ false = omega ints in
      let f : lt_z old.low new.low ≡ false = omega ints in
      let g : lt_z new.high old.high ≡ false = omega ints in
      rw (e, f, g)

-- ---- spans that cut alike
pub cut_held : (q : ℕ) (s : Range) (b : Box) → Good (range_at b q) → cut_of q (held_span s) b ≡ cut_of q s b
unfolding cut_of
cut_held q s b g = go (meeting (range_at b q) s g)
  where
    go : Meeting (range_at b q) s → cut_to q (range_at b q) (meet_of (range_at b q) (held_span s)) b ≡ cut_to q (range_at b q) (meet_of (range_at b q) s) b
    go (neither h k) = cut_none q (range_at b q) (meet_of (range_at b q) (held_span s)) b k ∙ sym (cut_none q (range_at b q) (meet_of (range_at b q) s) b h)
    go (alike h e f) = ap (λ (n : Range). cut_to q (range_at b q) n b) (ends_is e f)

-- ---- a range put in a fine box
put_range_lem : (b : Box) (q : ℕ) (r : Range) → Has b q → range_at (put_at b q r) q ≡ r
put_range_lem b q r h = ends_is (put_low b q r (omega arith)) (put_high b q r h)

put_else : (b : Box) (q k : ℕ) (r : Range) → k ≢ q → range_at (put_at b q r) k ≡ range_at b k
put_else b q k r n = ends_is (⊎_elim (λ e. e) (λ e. absurd (n e.0)) (low_or b q r k)) (⊎_elim (λ e. e) (λ e. absurd (n e.0)) (high_or b q r k))

pub put_fine : (b : Box) (q : ℕ) (r : Range) → Has b q → Good r → Fine b → Fine (put_at b q r)
put_fine b q r h g f = record {
  good = λ k i.
      by_bool (eqb k q)
      (λ e. subst Good (sym (ap (range_at (put_at b q r)) (eqb-true k q e) ∙ put_range_lem b q r h)) g)
      (λ n. subst Good (sym (put_else b q k r (eqb-false k q n))) (f.good k (subst (λ (l : ℕ). 2 * k + 1 < l) (put_long b q r) i)));
}

meet_good : (a s : Range) → Good a → max_z a.low s.low ≤ℤ min_z a.high s.high → Good (meet_of a s)
meet_good a s g h = omega (nears, max_parts a.low s.low, min_parts a.high s.high)

-- ---- the two ends that the code makes of a range that was read and another
pub new_met : {old : Range} (s : Range) → Good old → mag s.low < 2 ^ 63 → mag s.high < 2 ^ 63 → {l h : ℤ} → mag l < 2 ^ 63 → l ≡ int_max (at old.low) (at s.low) → mag h < 2 ^ 63 → h ≡ int_min (at old.high) (at s.high) → range (at l) (at h) ≡ meet_of old s
new_met {old} s g sl sh {l} {h} ml el mh eh = ends_is (call2 max_z l ml (el ∙ max_is _ _) (rn old.low g.low) (got s.low sl)) (call2 min_z h mh (eh ∙ min_is _ _) (rn old.high g.high) (got s.high sh))

-- ---- what `cut` answers
module _ (q : ℕ) (s : Range) (p : Bool) (b : Box) (f : Fine b) (h : Has b q) (old new : Range) (seen : Seen b q old) (met : new ≡ meet_of old s) where
  cut_is : cut_of q s b ≡ cut_to q old new b
  unfolding cut_of
  cut_is = ap₂ (λ (x y : Range). cut_to q x (meet_of y s) b) (sym seen.is) (sym seen.is) ∙ ap (λ (x : Range). cut_to q old x b) (sym met)

  new_good : new.low ≤ℤ new.high → Good new
  new_good k = subst Good (sym met) (meet_good old s seen.good (subst (λ (x : Range). x.low ≤ℤ x.high) met k))

  done_none : new.high <ℤ new.low → Done ((λ _. to q s) ∷ []) p b (Err (record {})) b
  done_none k = record { says = sym (all p); fine = f }
    where
      all : (p : Bool) → next (left_as (Ok p) b) (λ _. to q s) ≡ empty
      all true = ap marked (cut_is ∙ cut_none q old new b k)
      all false = cut_is ∙ cut_none q old new b k

  put_done : new.low ≤ℤ new.high → cut_to q old new b ≡ changed (put_at b q new) → (b' : Box) → b' ≡ put_at b q new → Done ((λ _. to q s) ∷ []) p b (Ok true) b'
  put_done k e b' eb = record { says = ap changed eb ∙ sym (all p); fine = subst Fine (sym eb) (put_fine b q new h (new_good k) f) }
    where
      all : (p : Bool) → next (left_as (Ok p) b) (λ _. to q s) ≡ changed (put_at b q new)
      all true = ap marked (cut_is ∙ e)
      all false = cut_is ∙ e

  done_raised : new.low ≤ℤ new.high → old.low <ℤ new.low → (b' : Box) → b' ≡ put_at b q new → Done ((λ _. to q s) ∷ []) p b (Ok true) b'
  done_raised k l b' eb = put_done k (cut_raised_lem q old new b k l) b' eb

  done_lowered : new.low ≤ℤ new.high → new.low ≤ℤ old.low → new.high <ℤ old.high → (b' : Box) → b' ≡ put_at b q new → Done ((λ _. to q s) ∷ []) p b (Ok true) b'
  done_lowered k l m b' eb = put_done k (cut_lowered_lem q old new b k l m) b' eb

  done_same : new.low ≤ℤ new.high → new.low ≤ℤ old.low → old.high ≤ℤ new.high → Done ((λ _. to q s) ∷ []) p b (Ok p) b
  done_same k l m = record { says = sym (all p); fine = f }
    where
      all : (p : Bool) → next (left_as (Ok p) b) (λ _. to q s) ≡ left_as (Ok p) b
      all true = ap marked (cut_is ∙ cut_same q old new b k l m)
      all false = cut_is ∙ cut_same q old new b k l m

  -- ---- and `replace`, where an end moves
  module _ {r : Result Bool Emptied} {b' : Box} (d : Replaced q new b r b') where
    done_some : new.low ≤ℤ new.high → cut_to q old new b ≡ changed (put_at b q new) → Done ((λ _. to q s) ∷ []) p b r b'
    done_some k e = let g = d.some k in subst (λ (x : Result Bool Emptied). Done ((λ _. to q s) ∷ []) p b x b') (sym g.0) (put_done k e b' g.1)

    pub done_replaced : (old.low <ℤ new.low) ⊎ (new.high <ℤ old.high) → Done ((λ _. to q s) ∷ []) p b r b'
    done_replaced m =
        ⊎_elim
        (λ k. let g = d.none k in subst (λ (x : Result Bool Emptied). Done ((λ _. to q s) ∷ []) p b x b') (sym g.0) (subst (Done ((λ _. to q s) ∷ []) p b (Err (record {}))) (sym g.1) (done_none k)))
        (λ k. done_some k (⊎_elim (cut_raised_lem q old new b k) (λ l. cut_lowered_lem q old new b k l (⊎_elim (λ i. absurd (omega ints)) (λ i. i) m)) (lt_or_le old.low new.low)))
        (lt_or_le new.high new.low)

-- ---- the same of the two ends as the code makes them
module _ (q : ℕ) (s : Range) (p : Bool) (b : Box) (f : Fine b) (h : Has b q) {old : Range} (seen : Seen b q old) (sl : mag s.low < 2 ^ 63) (sh : mag s.high < 2 ^ 63) {l u : ℤ} (ml : mag l < 2 ^ 63) (el : l ≡ int_max (at old.low) (at s.low)) (mu : mag u < 2 ^ 63) (eu : u ≡ int_min (at old.high) (at s.high)) where
  abbrev made : Range
  made = range (at l) (at u)

  met : made ≡ meet_of old s
  met = new_met s seen.good sl sh ml el mu eu

  pub cut_empty : at u <ℤ at l → Done ((λ _. to q s) ∷ []) p b (Err (record {})) b
  cut_empty k = done_none q s p b f h old made seen met k

  pub cut_low : at l ≤ℤ at u → at old.low <ℤ at l → (b' : Box) → b' ≡ put_at b q made → Done ((λ _. to q s) ∷ []) p b (Ok true) b'
  cut_low k i b' eb = let r = rn old.low seen.good.low in done_raised q s p b f h old made seen met k (omega ints) b' eb

  pub cut_high : at l ≤ℤ at u → at l ≤ℤ at old.low → at u <ℤ at old.high → (b' : Box) → b' ≡ put_at b q made → Done ((λ _. to q s) ∷ []) p b (Ok true) b'
  cut_high k i j b' eb =
      let r = rn old.low seen.good.low in
      let t = rn old.high seen.good.high in
      done_lowered q s p b f h old made seen met k (omega ints) (omega ints) b' eb

  pub cut_neither : at l ≤ℤ at u → at l ≤ℤ at old.low → at old.high ≤ℤ at u → Done ((λ _. to q s) ∷ []) p b (Ok p) b
  cut_neither k i j =
      let r = rn old.low seen.good.low in
      let t = rn old.high seen.good.high in
      done_same q s p b f h old made seen met k (omega ints) (omega ints)

-- ---- a step done
-- a step that says a cut does what the cut does
pub next_at : (st : Step) (k : Cut) (p : Bool) (b : Box) → st b ≡ k → next (left_as (Ok p) b) (λ _. k) ≡ next (left_as (Ok p) b) st
next_at st k true b e = ap (λ (x : Cut). marked (act x b)) (sym e)
next_at st k false b e = ap (λ (x : Cut). act x b) (sym e)

next_cut : (q : ℕ) (s t : Range) (p : Bool) (b : Box) → cut_of q s b ≡ cut_of q t b → next (left_as (Ok p) b) (λ _. to q s) ≡ next (left_as (Ok p) b) (λ _. to q t)
next_cut q s t true b e = ap marked e
next_cut q s t false b e = e

module _ (st : Step) {q : ℕ} {s t : Range} {p : Bool} {r : Result Bool Emptied} {b b' : Box} (e : st b ≡ to q t) (d : Done ((λ _. to q s) ∷ []) p b r b') where
  pub done_by : cut_of q s b ≡ cut_of q t b → Done (st ∷ []) p b r b'
  done_by f = record { says = d.says ∙ next_cut q s t p b f ∙ next_at st (to q t) p b e; fine = d.fine }

  -- the span was computed
  pub done_span : s ≡ t → Done (st ∷ []) p b r b'
  done_span f = done_by (ap (λ (x : Range). cut_of q x b) f)

  -- or held
  pub done_held : Good (range_at b q) → s ≡ held_span t → Done (st ∷ []) p b r b'
  done_held g f = done_by (ap (λ (x : Range). cut_of q x b) f ∙ cut_held q t b g)

pub done_stay : (st : Step) (p : Bool) (b : Box) → Fine b → st b ≡ stay → Done (st ∷ []) p b (Ok p) b
done_stay st p b f e = record { says = all p ∙ next_at st stay p b e; fine = f }
  where
    all : (p : Bool) → left_as (Ok p) b ≡ next (left_as (Ok p) b) (λ _. stay)
    all true = refl
    all false = refl

pub done_void : (st : Step) (p : Bool) (b : Box) → Fine b → st b ≡ void → Done (st ∷ []) p b (Err (record {})) b
done_void st p b f e = record { says = all p ∙ next_at st void p b e; fine = f }
  where
    all : (p : Bool) → empty ≡ next (left_as (Ok p) b) (λ _. void)
    all true = refl
    all false = refl

-- a cut that leaves both ends
pub done_quiet : (st : Step) {q : ℕ} {t : Range} (p : Bool) (b : Box) → Fine b → Has b q → st b ≡ to q t → t.low ≤ℤ low_at b q → high_at b q ≤ℤ t.high → Done (st ∷ []) p b (Ok p) b
done_quiet st {q} {t} p b f h e l u =
    let g = f.good q h in
    let o = g.ordered in
    let new = meet_of (range_at b q) t in
    let lo : new.low ≡ low_at b q = omega (ints, max_parts (low_at b q) t.low) in
    let hi : new.high ≡ high_at b q = omega (ints, min_parts (high_at b q) t.high) in
    done_by st e (done_same q t p b f h (range_at b q) new (record { is = refl; good = g }) refl (omega ints) (omega ints) (omega ints)) refl

-- ---- after a cut that leaves something the same cut is quiet
abbrev Settled : ℕ → Range → Swept → Type 0
Settled q t empty = Unit {0}
Settled q t (changed b) = Quiet b (to q t)
Settled q t (unchanged b) = Quiet b (to q t)

module _ (q : ℕ) (t : Range) (b : Box) (h : Has b q) where
  abbrev new : Range
  new = meet_of (range_at b q) t

  put_settled : Quiet (put_at b q new) (to q t)
  put_settled =
      (omega (ints, put_low b q new (omega arith), max_parts (low_at b q) t.low), omega (ints, put_high b q new h, min_parts (high_at b q) t.high))

  cut_settled : Settled q t (cut_of q t b)
  unfolding cut_of cut_to
  cut_settled = go (lt_z new.high new.low) (lt_z (low_at b q) new.low) refl (lt_z new.high (high_at b q)) refl
    where
      go : (e f : Bool) → lt_z (low_at b q) new.low ≡ f → (g : Bool) → lt_z new.high (high_at b q) ≡ g → Settled q t (cond e empty (cond f (changed (put_at b q new)) (cond g (changed (put_at b q new)) (unchanged b))))
      go true f k g l = tt
      go false true k g l = put_settled
      go false false k true l = put_settled
      go false false k false l = (omega (ints, max_parts (low_at b q) t.low), omega (ints, min_parts (high_at b q) t.high))

  next_settled : (p : Bool) → Settled q t (next (left_as (Ok p) b) (λ _. to q t))
  next_settled true = go (cut_of q t b) cut_settled
    where
      go : (r : Swept) → Settled q t r → Settled q t (marked r)
      go empty k = k
      go (changed c) k = k
      go (unchanged c) k = k
  next_settled false = cut_settled

pub done_settled : (st : Step) {q : ℕ} {t : Range} {p c : Bool} {b b' : Box} → st b ≡ to q t → Has b q → Done (st ∷ []) p b (Ok c) b' → Quiet b' (to q t)
done_settled st {q} {t} {p} {c} {b} {b'} e h d = go c (subst (Settled q t) (next_at st (to q t) p b e ∙ sym d.says) (next_settled q t b h p))
  where
    go : (c : Bool) → Settled q t (left_as (Ok c) b') → Quiet b' (to q t)
    go true k = k
    go false k = k

-- ---- one after the other
pub done_then : {ss ts : List Step} {p c : Bool} {r : Result Bool Emptied} {a b b' : Box} → Done ss p a (Ok c) b → Done ts c b r b' → Done (ss ++ ts) p a r b'
done_then {ss} {ts} {p} {c} {r} {a} {b} {b'} d e =
    record { says = e.says ∙ ap (λ (x : Swept). steps x ts) d.says ∙ sym (steps_append (left_as (Ok p) a) ss ts); fine = e.fine }

-- after an empty range nothing follows
pub left_empty : (r : Result Bool Emptied) (b : Box) → IsErr r → left_as r b ≡ empty
left_empty (Ok c) b f = absurd (false≢true f)
left_empty (Err n) b f = refl

pub done_ended : {ss : List Step} {p : Bool} {n : Emptied} {a b : Box} → Done ss p a (Err n) b → (ts : List Step) → {r : Result Bool Emptied} → IsErr r → Done (ss ++ ts) p a r b
done_ended {ss} {p} {n} {a} {b} d ts {r} f = record {
  says = left_empty r b f ∙ sym (steps_empty ts) ∙ ap (λ (x : Swept). steps x ts) d.says ∙ sym (steps_append (left_as (Ok p) a) ss ts);
  fine = d.fine;
}
