-- The promises of this crate: grounds are laws of SolveGrounds.antt, answers of Answered.antt, leading quantities of Leads.antt, and a contract of equations has one result.
use mathlib.Core.Path.{◌≡◌, refl, sym, ap, subst, ◌∙◌}
use mathlib.Core.List.{List}
use Prim.Native.Nat.{ℕ, ◌<◌}
use native.Mathlib.Omega.{arith}
use lib.IntN.{ℤ}
use Rattle.std.specs.Prelude.{Result}
use Rattle.problem.specs.Grounds.{refusal_number, FirstOf}
use Rattle.problem.specs.declared.Refusal.{Refusal}
use Rattle.search.specs.Solve.{Judged, judged, solve_order, SolveGround, Solves, number_of, sweeps_of}
use Rattle.search.specs.Promises.{SolveRefused, RefusedBack, SolveRight, SolveBuffers, SolveLonger, SolveOnce, Decided, Room, LeadingOnly, LeadingSingle, LeadingSame, SmallestOnce}
use Rattle.search.specs.declared.Solved.{Solved}
use Rattle.search.proofs.Order as order
use Rattle.search.proofs.SolveGrounds.{Judgement, refused, sound, judgement, unmet_sound, first_given}
use Rattle.search.proofs.Answered as answered
use Rattle.search.proofs.Answered.{refused_as, sound_right, none_leaves, work_cleared}
use Rattle.search.proofs.Longer.{sound_longer}
use Rattle.search.proofs.Judged.{judges}
use Rattle.search.proofs.Instance.{start_part, sweep_lawful, sweep_ending}
use Rattle.search.proofs.Leads.{only_leading, all_single, search_same}
use Rattle.search.proofs.Ending.{decided_run}

module _ (rs ps ns ls : List ℤ) (lead budget : ℤ) (p₀ w₀ p w : List ℤ) (r : Result Solved Refusal) (s : Solves rs ps ns ls lead budget p₀ w₀ p w r) where
  refused_by : (j : Judged) → judged rs ps ns ls lead budget p₀ w₀ ≡ j → Judgement rs ps ns ls lead budget p₀ w₀ j → (g : ℕ) → number_of r ≡ g → 0 < g
      → FirstOf solve_order (SolveGround rs ps ns ls lead budget p₀ w₀) g × (sweeps_of r ≡ 0) × (p ≡ p₀) × (w ≡ w₀)
  refused_by j e (refused {g = k} f) g n lt =
      let h = refused_as k s e in
      let i : refusal_number k ≡ g = sym (ap number_of h.0) ∙ n in
      (subst (FirstOf solve_order (SolveGround rs ps ns ls lead budget p₀ w₀)) i f, ap sweeps_of h.0, h.1, h.2)
  refused_by j e (sound m) g n lt = absurd (omega (arith, ap number_of (sound_right s e).1))

pub solve_refused : SolveRefused
solve_refused rs ps ns ls lead budget p₀ w₀ p w r s g n lt =
    refused_by rs ps ns ls lead budget p₀ w₀ p w r s (judged rs ps ns ls lead budget p₀ w₀) refl (judgement rs ps ns ls lead budget p₀ w₀) g n lt

pub refused_back : RefusedBack
refused_back rs ps ns ls lead budget p₀ w₀ p w r s g f =
    let k = first_given rs ps ns ls lead budget p₀ w₀ f in
    ap number_of (refused_as k.0 s k.1).0 ∙ k.2

pub solve_right : SolveRight
solve_right rs ps ns ls lead budget p₀ w₀ p w r s n = sound_right s (unmet_sound rs ps ns ls lead budget p₀ w₀ n)

pub solve_buffers : SolveBuffers
solve_buffers rs ps ns ls lead budget p₀ w₀ p w r s n = let e = unmet_sound rs ps ns ls lead budget p₀ w₀ n in (none_leaves s e, work_cleared s e)

pub solve_longer : SolveLonger
solve_longer rs ps ns ls lead budget budget' p₀ w₀ p w p₀' w₀' p' w' r r' s t n n' more =
    sound_longer s t (unmet_sound rs ps ns ls lead budget p₀ w₀ n) (unmet_sound rs ps ns ls lead budget' p₀' w₀' n') more

pub solve_once : SolveOnce
solve_once rs ps ns ls lead budget p₀ w₀ p w p' w' r r' s t = (s.result ∙ sym t.result, s.point ∙ sym t.point, s.work ∙ sym t.work)

pub decided : Decided
decided rs ps ns ls e =
    let j = judges rs ps ns ls e in
    decided_run (sweep_lawful rs ps ns ls j) (sweep_ending rs ps ns ls j) (start_part j.started)

pub room : Room
room = answered.room

pub leading_only : LeadingOnly
leading_only rs ps ns ls lead e g b b' q f u o = only_leading rs ps ns ls (judges rs ps ns ls e) lead g b b' f u q o

pub leading_single : LeadingSingle
leading_single rs ps ns ls lead e g b b' f u = all_single rs ps ns ls (judges rs ps ns ls e) lead g b b' f u

pub leading_same : LeadingSame
leading_same rs ps ns ls lead e g = search_same rs ps ns ls (judges rs ps ns ls e) lead g

pub smallest_once : SmallestOnce
smallest_once b p p' s t = order.smallest_once s t
