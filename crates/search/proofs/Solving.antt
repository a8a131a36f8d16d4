-- What a solve owes: a refusal leaves everything as it came; otherwise the search gives the result and the point, and clearing the room that
-- it used leaves what lies past it.
use mathlib.Core.Path.{◌≡◌, sym, ap, ap₂, ◌∙◌, subst}
use mathlib.Core.List.{List, ◌++◌}
use Prim.Native.Nat.{ℕ, ◌≤◌}
use native.Mathlib.Omega.{arith}
use lib.Dec.{T}
use lib.ListN.{length, take, drop, replicate}
use lib.Seq.{length-take-le}
use lib.IntN.{ℤ, pos, nat_abs}
use lib.Signed.{lt_z, non_neg, ◌≤ℤ◌}
use mir.Syntax.{w64}
use mir.Val.{Fits, SFits}
use Rattle.std.specs.Prelude.{Result, Ok, Err}
use Rattle.whole.specs.Numbers.{positive_part}
use Rattle.whole.proofs.Kit.{ints, at, rd, index}
use Rattle.problem.specs.declared.Refusal.{Refusal}
use Rattle.problem.proofs.Tests.{or_first}
use Rattle.search.specs.Depth.{room_of}
use Rattle.search.specs.Solve.{Judged, judged, Solves}
use Rattle.search.specs.inner.Ready.{Led, Ready, Searched}
use Rattle.search.specs.declared.Solved.{Solved}
use Rattle.search.proofs.Judged.{count_is, Leads, leading_cast, leading_count, leading_led, Accepted, accepted, ready}

-- a judgement of the leading number and the budget as they were read
read_judged : (rs ps ns ls : List ℤ) (lead budget : ℤ) (p₀ w₀ : List ℤ) → SFits w64 lead → SFits w64 budget → {j : Judged} → j ≡ judged rs ps ns ls (at lead) (at budget) p₀ w₀ → judged rs ps ns ls lead budget p₀ w₀ ≡ j
read_judged rs ps ns ls lead budget p₀ w₀ f g e = sym (e ∙ ap₂ (λ (l b : ℤ). judged rs ps ns ls l b p₀ w₀) (rd f) (rd g))

-- a refusal
pub refuses : (rs ps ns ls : List ℤ) (lead budget : ℤ) (p₀ w₀ : List ℤ) → SFits w64 lead → SFits w64 budget → {g : Refusal} → Err g ≡ judged rs ps ns ls (at lead) (at budget) p₀ w₀ → {r : Result Solved Refusal} → r ≡ Err g → Solves rs ps ns ls lead budget p₀ w₀ p₀ w₀ r
refuses rs ps ns ls lead budget p₀ w₀ f g e is = let j = read_judged rs ps ns ls lead budget p₀ w₀ f g e in record { result = rw j is; point = rw j; work = rw j }

-- nothing is refused, and the leading number and the budget are as they were read
pub record Passed (rs ps ns ls : List ℤ) (lead budget : ℤ) (p₀ w₀ : List ℤ) : Type 0 where
  pub sound : judged rs ps ns ls lead budget p₀ w₀ ≡ Ok tt
  pub leading : SFits w64 lead
  pub counted : SFits w64 budget

pub passed : (rs ps ns ls : List ℤ) (lead budget : ℤ) (p₀ w₀ : List ℤ) → SFits w64 lead → SFits w64 budget → Ok tt ≡ judged rs ps ns ls (at lead) (at budget) p₀ w₀ → Passed rs ps ns ls lead budget p₀ w₀
passed rs ps ns ls lead budget p₀ w₀ f g e = record { sound = read_judged rs ps ns ls lead budget p₀ w₀ f g e; leading = f; counted = g }

module _ {rs ps ns ls : List ℤ} {lead budget : ℤ} {p₀ w₀ : List ℤ} (d : Passed rs ps ns ls lead budget p₀ w₀) where
  met : Accepted rs ps ns ls lead budget p₀ w₀
  met = accepted rs ps ns ls lead budget p₀ w₀ d.sound

  -- the leading number and the budget are counts
  leads : Leads rs ps lead
  leads = record { good = met.leads; fits = d.leading }

  budget_sign : pos 0 ≤ℤ budget
  budget_sign = let h = or_first (lt_z budget (pos 0)) (lt_z (pos 1_000_000_000) budget) met.count in omega ints

  pub leading_fits : T (non_neg (at lead)) × Fits w64 (nat_abs (at lead))
  leading_fits = leading_cast leads

  pub budget_fits : T (non_neg (at budget)) × Fits w64 (nat_abs (at budget))
  budget_fits = index budget d.counted budget_sign

  leading_is : nat_abs (at lead) ≡ positive_part lead
  leading_is = leading_count leads

  budget_is : nat_abs (at budget) ≡ positive_part budget
  budget_is = ap nat_abs (rd d.counted) ∙ count_is budget budget_sign

  -- the search can begin
  pub searches : Ready rs ps ns ls (nat_abs (at lead)) p₀ w₀
  searches = subst (λ (k : ℕ). Ready rs ps ns ls k p₀ w₀) (sym leading_is) (ready rs ps ns ls lead budget p₀ w₀ d.sound)

  pub led : Led rs (nat_abs (at lead))
  led = leading_led leads searches.started

  -- the room lies in the workspace that the search leaves
  module _ (w : List ℤ) (kept : length w ≡ length w₀) {m : ℕ} (is : m ≡ room_of (nat_abs (at lead)) rs) where
    pub room_in : m ≤ length w
    room_in = omega (arith, searches.room)

    pub room_long : m ≡ length (take m w)
    room_long = sym (length-take-le m w room_in)

    -- it was searched and cleared
    pub solves : {p zs : List ℤ} {s : Solved} → Searched rs ps ns ls (nat_abs (at lead)) (nat_abs (at budget)) p₀ w₀ p w s → zs ≡ replicate (length (take m w)) (pos 0) → Solves rs ps ns ls lead budget p₀ w₀ p (zs ++ drop m w) (Ok s)
    solves {p} {zs} {s} sr ez =
        let r : Searched rs ps ns ls (nat_abs (at lead)) (positive_part budget) p₀ w₀ p w s = subst (λ (j : ℕ). Searched rs ps ns ls (nat_abs (at lead)) j p₀ w₀ p w s) budget_is sr in
        let room : m ≡ room_of (positive_part lead) rs = is ∙ ap (λ (j : ℕ). room_of j rs) leading_is in
        let front : zs ≡ replicate (room_of (positive_part lead) rs) (pos 0) = ez ∙ ap (λ (j : ℕ). replicate j (pos 0)) (sym room_long ∙ room) in
        let back : drop m w ≡ drop (room_of (positive_part lead) rs) w₀ = ap (λ (j : ℕ). drop j w) is ∙ r.rest ∙ ap (λ (j : ℕ). drop (room_of j rs) w₀) leading_is in
        record {
          result = rw d.sound (ap Ok r.result);
          point = rw d.sound r.point;
          work = rw d.sound (ap (λ (x : List ℤ). x ++ drop m w) front ∙ ap (λ (x : List ℤ). replicate (room_of (positive_part lead) rs) (pos 0) ++ x) back);
        }
