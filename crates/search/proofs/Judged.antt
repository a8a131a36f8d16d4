-- What is known of a problem that was judged sound: each ground is a test, and a chain of tests that ends at sound has met none of them.
use mathlib.Core.Path.{◌≡◌, refl, sym, ap, ◌∙◌}
use mathlib.Core.Bool.{Bool, true, false, not, cond}
use mathlib.Core.List.{List}
use Prim.Native.Nat.{ℕ}
use native.Mathlib.Omega.{arith}
use borrow.Author.Tests.{ltb-false, eqb-true, not-false}
use lib.Dec.{T, eqb, ltb}
use lib.ListN.{length}
use lib.IntN.{ℤ, pos, nat_abs}
use lib.Signed.{non_neg, ◌≤ℤ◌}
use mir.Syntax.{w64}
use mir.Val.{Fits, SFits}
use Rattle.std.specs.Prelude.{Ok, Err}
use Rattle.whole.specs.Numbers.{positive_part}
use Rattle.whole.proofs.Kit.{ints, at, rd, index, nat_abs_is, apart}
use Rattle.problem.specs.Problem.{quantities}
use Rattle.problem.specs.Grounds.{judge_of}
use Rattle.problem.specs.Leading.{bad_leading}
use Rattle.problem.proofs.Unmet.{sound_unmet, unmet_placed, counted, range_good}
use Rattle.problem.proofs.Placing.{primitive_placed}
use Rattle.problem.proofs.Defined.{leading_sign, leading_most}
use Rattle.problem.proofs.Tests.{or_first, or_second}
use Rattle.problem.specs.inner.Placed.{Placed, Leadable}
use Rattle.problem.specs.declared.Refusal.{Refusal}
use Rattle.search.specs.Depth.{room_of}
use Rattle.search.specs.Solve.{Judged, bad_budget, bad_room, or_else, judged}
use Rattle.search.specs.inner.Ready.{Started, Led, Ready}

-- a ground that was not met
passed : (t : Bool) (g : Refusal) (j : Judged) → cond t (Err g) j ≡ Ok tt → (t ≡ false) × (j ≡ Ok tt)
passed true g j e = absurd (let z : ◌≡◌ {A = ℕ} 0 1 = cc in omega arith)
passed false g j e = (refl, e)

both_passed : (j k : Judged) → or_else j k ≡ Ok tt → (j ≡ Ok tt) × (k ≡ Ok tt)
both_passed (Ok u) k e = (refl, e)
both_passed (Err g) k e = absurd (let z : ◌≡◌ {A = ℕ} 0 1 = cc in omega arith)

-- ---- grounds 1 to 5
pub record Judges (rs ps ns ls : List ℤ) : Type 0 where
  pub started : Started rs
  pub placed : Placed (quantities rs) ps ns ls

pub judges : (rs ps ns ls : List ℤ) → judge_of rs ps ns ls ≡ Ok tt → Judges rs ps ns ls
judges rs ps ns ls e =
    let u = sound_unmet rs ps ns ls e in
    let n = counted rs u.counted in
    record {
      started = record { long = n.long; some = n.some; most = n.few; good = λ q h. range_good rs u.ranges q (omega (arith, n.long)) };
      placed = unmet_placed rs ps ns ls u;
    }

-- each primitive can be read, and there are not too many quantities for ground 8
pub judges_leadable : {rs ps ns ls : List ℤ} → Judges rs ps ns ls → Leadable rs ps
judges_leadable {rs} {ps} {ns} {ls} j =
    record { few = j.started.most; readable = record { each = λ i h. (primitive_placed (quantities rs) ps j.placed.primitives i h).readable } }

-- ---- the leading number, as it was read
pub count_is : (z : ℤ) → pos 0 ≤ℤ z → nat_abs z ≡ positive_part z
count_is z h = omega (ints, nat_abs_is z, apart z)

pub read_leading : (rs ps : List ℤ) (lead l : ℤ) {r : Bool} → l ≡ lead → r ≡ bad_leading rs ps l → (t : Bool) → r ≡ t → bad_leading rs ps lead ≡ t
read_leading rs ps lead l e f t g = ap (bad_leading rs ps) (sym e) ∙ sym f ∙ g

-- ground 8 is not met
pub record Leads (rs ps : List ℤ) (lead : ℤ) : Type 0 where
  pub good : bad_leading rs ps lead ≡ false
  pub fits : SFits w64 lead

module _ {rs ps : List ℤ} {lead : ℤ} (g : Leads rs ps lead) where
  pub leading_cast : T (non_neg (at lead)) × Fits w64 (nat_abs (at lead))
  leading_cast = index lead g.fits (leading_sign rs ps lead g.good)

  pub leading_count : nat_abs (at lead) ≡ positive_part lead
  leading_count = ap nat_abs (rd g.fits) ∙ count_is lead (leading_sign rs ps lead g.good)

  pub leading_led : Started rs → Led rs (nat_abs (at lead))
  leading_led s = record { started = s; leading = omega (arith, leading_count, leading_most rs ps lead g.good) }

-- ---- all eight
module _ (rs ps ns ls : List ℤ) (lead budget : ℤ) (point work : List ℤ) where
  pub record Accepted : Type 0 where
    pub judge : judge_of rs ps ns ls ≡ Ok tt
    pub count : bad_budget budget ≡ false
    pub leads : bad_leading rs ps lead ≡ false
    pub room : bad_room lead rs point work ≡ false

  pub accepted : judged rs ps ns ls lead budget point work ≡ Ok tt → Accepted
  unfolding judged
  accepted e =
      let a = both_passed (judge_of rs ps ns ls) _ e in
      let b = passed (bad_budget budget) _ _ a.1 in
      let c = passed (bad_leading rs ps lead) _ _ b.1 in
      record { judge = a.0; count = b.0; leads = c.0; room = (passed (bad_room lead rs point work) _ _ c.1).0 }

  -- the leading number is a count
  leading_is : bad_leading rs ps lead ≡ false → pos (positive_part lead) ≡ lead
  leading_is e = let h = leading_sign rs ps lead e in omega (ints, apart lead)

  pub ready : judged rs ps ns ls lead budget point work ≡ Ok tt → Ready rs ps ns ls (positive_part lead) point work
  ready e =
      let a = accepted e in
      let j = judges rs ps ns ls a.judge in
      let same = or_first (not (eqb (length point) (quantities rs))) (ltb (length work) (room_of (positive_part lead) rs)) a.room in
      let enough = or_second (not (eqb (length point) (quantities rs))) (ltb (length work) (room_of (positive_part lead) rs)) a.room in
      record {
        started = j.started;
        placed = j.placed;
        leads = ap (bad_leading rs ps) (leading_is a.leads) ∙ a.leads;
        point = eqb-true (length point) (quantities rs) (not-false (eqb (length point) (quantities rs)) same);
        room = ltb-false (length work) (room_of (positive_part lead) rs) enough;
      }
