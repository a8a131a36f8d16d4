-- The cuts of a square: the square of an end says whether the end moves, because squares keep the order of numbers from 0 up.
use mathlib.Core.Path.{◌≡◌, refl, sym, ap, ap₂, ◌∙◌}
use mathlib.Core.Logic.{◌⊎◌, inl, inr, ⊎_elim}
use mathlib.Core.List.{[], ◌∷◌}
use mathlib.Core.Bool.{Bool, true, false}
use Prim.Native.Nat.{ℕ, ◌<◌, ◌^◌}
use lib.IntN.{ℤ, pos, neg_ℤ, ◌-ℤ◌, ◌*ℤ◌}
use lib.Signed.{le_z, ◌≤ℤ◌, ◌<ℤ◌, mag}
use Rattle.whole.specs.Numbers.{Near, min_z, max_z, root_down, root_up}
use Rattle.whole.specs.Ranges.{range, holds_zero, square_span}
use Rattle.whole.specs.inner.Held.{held, Is, Good}
use Rattle.whole.specs.declared.Range.{Range}
use Rattle.whole.proofs.Kit.{ints, min_is, max_is, at, rn, call2, by_test, square_negative, min_parts, max_parts, lt_or_le}
use Rattle.whole.proofs.Calls.{times_is}
use Rattle.whole.proofs.Held.{held_le, le_held}
use Rattle.whole.proofs.Roots.{root_in_lem, in_root, up_from, up_to, up_turned_from, up_turned_to}
use Rattle.whole.proofs.Spans.{ends_is}
use Rattle.problem.specs.Problem.{Box, high_at, range_at}
use Rattle.narrow.specs.Cuts.{meet_of, to, Step}
use Rattle.narrow.specs.Narrowing.{square_step, root_span, root_step, raise_cut, raise_step, lower_cut, lower_step}
use Rattle.narrow.specs.inner.Done.{Has, Fine, Seen, Replaced, Done}
use Rattle.std.specs.Prelude.{Result, Ok}
use Rattle.std.specs.Int.{int_min, int_max}
use Rattle.narrow.specs.declared.Emptied.{Emptied}
use Rattle.narrow.proofs.Cutting.{done_replaced, done_quiet, done_span, done_settled}
use Rattle.whole.proofs.Quotients.{turn}

-- ---- a square that was computed, held, against a near number
module _ (x z r : ℤ) (nx : Near x) (nz : Near z) (small : mag r < 2 ^ 63) (said : r ≡ held (at x *ℤ at x)) {t : Bool} where
  pub square_most : le_z (at r) (at z) ≡ t → le_z (x *ℤ x) z ≡ t
  square_most e = sym (held_le (x *ℤ x) z nz) ∙ sym (ap₂ le_z (times_is x x r nx nx small said) (rn z nz)) ∙ e

  pub square_least : le_z (at z) (at r) ≡ t → le_z z (x *ℤ x) ≡ t
  square_least e = sym (le_held (x *ℤ x) z nz) ∙ sym (ap₂ le_z (rn z nz) (times_is x x r nx nx small said)) ∙ e

-- ---- the range between the roots, as the code has it
pub root_new : {x z : Range} → Good x → Good z → {r l h : ℤ} → Is (root_down (at z.high)) r → mag l < 2 ^ 63 → l ≡ int_max (at x.low) (at (pos 0 -ℤ at r)) → mag h < 2 ^ 63 → h ≡ int_min (at x.high) (at r) → range (at l) (at h) ≡ meet_of x (root_span z)
root_new {x} {z} gx gz {r} {l} {h} is ml el mh eh =
    let e : r ≡ root_down z.high = is.is ∙ ap root_down (rn z.high gz.high) in
    ends_is (call2 max_z l ml (el ∙ max_is _ _) (rn x.low gx.low) ((turn r is.near).is ∙ ap neg_ℤ e)) (call2 min_z h mh (eh ∙ min_is _ _) (rn x.high gx.high) (rn r is.near ∙ e))

-- ---- where an end moves
module _ (x z : Range) where
  -- both squares are at most z's high end, and x is within plus or minus the root; or an end of x is not
  root_rests : le_z (x.low *ℤ x.low) z.high ≡ true → le_z (x.high *ℤ x.high) z.high ≡ true → ((root_span z).low ≤ℤ x.low) × (x.high ≤ℤ (root_span z).high)
  root_rests e f = ((root_in_lem x.low z.high (omega ints)).above, (root_in_lem x.high z.high (omega ints)).below)

  root_moves : pos 0 ≤ℤ z.high → x.low ≤ℤ x.high → (le_z (x.low *ℤ x.low) z.high ≡ false) ⊎ (le_z (x.high *ℤ x.high) z.high ≡ false) → (x.low <ℤ (meet_of x (root_span z)).low) ⊎ ((meet_of x (root_span z)).high <ℤ x.high)
  root_moves h o e =
      ⊎_elim
      (λ k. inl (omega (ints, max_parts x.low (root_span z).low)))
      (λ k. ⊎_elim (λ l. inr (omega (ints, min_parts x.high (root_span z).high))) (λ l. absurd (inside k l)) (lt_or_le (root_span z).high x.high))
      (lt_or_le x.low (root_span z).low)
    where
      inside : (root_span z).low ≤ℤ x.low → x.high ≤ℤ (root_span z).high → ⊥
      inside k l =
          let i = in_root x.low z.high h (record { above = k; below = omega ints }) in
          let j = in_root x.high z.high h (record { above = omega ints; below = l }) in
          ⊎_elim (λ f. omega ints) (λ f. omega ints) e

  -- the square of the end does not reach z, so the root is beyond it
  raise_moves : pos 0 ≤ℤ x.low → le_z z.low (x.low *ℤ x.low) ≡ false → x.low <ℤ root_up z.low
  raise_moves h e = ⊎_elim (λ k. k) (λ k. let l = up_to x.low z.low h k in absurd (omega ints)) (lt_or_le x.low (root_up z.low))

  lower_moves : x.high ≤ℤ pos 0 → le_z z.low (x.high *ℤ x.high) ≡ false → neg_ℤ (root_up z.low) <ℤ x.high
  lower_moves h e = ⊎_elim (λ k. k) (λ k. let l = up_turned_to x.high z.low h k in absurd (omega ints)) (lt_or_le (neg_ℤ (root_up z.low)) x.high)

-- ---- x raised, and lowered
module _ (x z : ℕ) (b : Box) {rx : Range} (sx : rx ≡ range_at b x) {rz : Range} (sz : rz ≡ range_at b z) where
  root_to : root_step x z b ≡ to x (root_span rz)
  root_to = ap (λ (r : Range). to x (root_span r)) (sym sz)

  raise_to : pos 0 ≤ℤ rx.low → raise_step x z b ≡ to x (range (root_up rz.low) rx.high)
  raise_to h = ap₂ (raise_cut x) (sym sx) (sym sz) ∙ (let e : le_z (pos 0) rx.low ≡ true = omega ints in rw e)

  lower_to : rx.high ≤ℤ pos 0 → lower_step x z b ≡ to x (range rx.low (neg_ℤ (root_up rz.low)))
  lower_to h = ap₂ (lower_cut x) (sym sx) (sym sz) ∙ (let e : le_z rx.high (pos 0) ≡ true = omega ints in rw e)

-- ---- the cuts
module _ (x z : ℕ) (p : Bool) (b : Box) (f : Fine b) (has : Has b x) {rx : Range} (sx : Seen b x rx) {rz : Range} (sz : Seen b z rz) where
  -- no end moves
  quiet : (st : Step) {t : Range} → st b ≡ to x t → t.low ≤ℤ rx.low → rx.high ≤ℤ t.high → Done (st ∷ []) p b (Ok p) b
  quiet st e l u =
      let i = ap (λ (r : Range). r.low) sx.is in
      let j = ap (λ (r : Range). r.high) sx.is in
      done_quiet st p b f has e (omega ints) (omega ints)

  pub root_quiet : le_z (rx.low *ℤ rx.low) rz.high ≡ true → le_z (rx.high *ℤ rx.high) rz.high ≡ true → Done (root_step x z ∷ []) p b (Ok p) b
  root_quiet h k = let i = root_rests rx rz h k in quiet (root_step x z) (root_to x z b sx.is sz.is) i.0 i.1

  pub raise_quiet : pos 0 ≤ℤ rx.low → le_z rz.low (rx.low *ℤ rx.low) ≡ true → Done (raise_step x z ∷ []) p b (Ok p) b
  raise_quiet h k = quiet (raise_step x z) (raise_to x z b sx.is sz.is h) (up_from rx.low rz.low h (omega ints)) (omega ints)

  pub lower_quiet : rx.high ≤ℤ pos 0 → le_z rz.low (rx.high *ℤ rx.high) ≡ true → Done (lower_step x z ∷ []) p b (Ok p) b
  lower_quiet h k = quiet (lower_step x z) (lower_to x z b sx.is sz.is h) (omega ints) (up_turned_from rx.high rz.low h (omega ints))

  -- an end moves
  module _ {new : Range} {r : Result Bool Emptied} {b' : Box} (d : Replaced x new b r b') where
    pub root_done : pos 0 ≤ℤ high_at b z → (le_z (rx.low *ℤ rx.low) rz.high ≡ false) ⊎ (le_z (rx.high *ℤ rx.high) rz.high ≡ false) → new ≡ meet_of rx (root_span rz) → Done (root_step x z ∷ []) p b r b'
    root_done h k e =
        let g : pos 0 ≤ℤ rz.high = omega (ints, ap (λ (s : Range). s.high) sz.is) in
        let i = ap (λ (s : Range). s.low) e in
        let j = ap (λ (s : Range). s.high) e in
        done_span (root_step x z) (root_to x z b sx.is sz.is)
        (done_replaced x (root_span rz) p b f has rx new sx e d (⊎_elim (λ l. inl (omega ints)) (λ l. inr (omega ints)) (root_moves rx rz g sx.good.ordered k))) refl

    pub raise_done : pos 0 ≤ℤ rx.low → le_z rz.low (rx.low *ℤ rx.low) ≡ false → new ≡ range (root_up rz.low) rx.high → Done (raise_step x z ∷ []) p b r b'
    raise_done h k e =
        let s = range (root_up rz.low) rx.high in
        let l = raise_moves rx rz h k in
        let i = ap (λ (s : Range). s.low) e in
        let g : s ≡ meet_of rx s = ends_is (omega (ints, max_parts rx.low s.low)) (omega (ints, min_parts rx.high rx.high)) in
        done_span (raise_step x z) (raise_to x z b sx.is sz.is h) (done_replaced x s p b f has rx new sx (e ∙ g) d (inl (omega ints))) refl

    pub lower_done : rx.high ≤ℤ pos 0 → le_z rz.low (rx.high *ℤ rx.high) ≡ false → new ≡ range rx.low (neg_ℤ (root_up rz.low)) → Done (lower_step x z ∷ []) p b r b'
    lower_done h k e =
        let s = range rx.low (neg_ℤ (root_up rz.low)) in
        let l = lower_moves rx rz h k in
        let i = ap (λ (s : Range). s.high) e in
        let g : s ≡ meet_of rx s = ends_is (omega (ints, max_parts rx.low rx.low)) (omega (ints, min_parts rx.high s.high)) in
        done_span (lower_step x z) (lower_to x z b sx.is sz.is h) (done_replaced x s p b f has rx new sx (e ∙ g) d (inr (omega ints))) refl

-- ---- a square is not below 0
square_least_is : (x : Range) → pos 0 ≤ℤ (square_span x).low
square_least_is x = by_test (holds_zero x) (pos 0) (min_z (x.low *ℤ x.low) (x.high *ℤ x.high)) (λ (v : ℤ). pos 0 ≤ℤ v) (λ _. omega ints) (λ _. omega (ints, square_negative x.low, square_negative x.high, min_parts (x.low *ℤ x.low) (x.high *ℤ x.high)))

pub square_leaves : (z x : ℕ) {p c : Bool} {b b' : Box} → Has b z → Has b' z → Done (square_step z x ∷ []) p b (Ok c) b' → pos 0 ≤ℤ high_at b' z
square_leaves z x {p} {c} {b} {b'} h h' d =
    let q = done_settled (square_step z x) refl h d in
    let o = (d.fine.good z h').ordered in
    omega (ints, square_least_is (range_at b x), q.0)
