-- What the answer means: an accepted one by demand 3 of the sheet whose lists stand at the fronts, a refused one by the sheet's ground, or 19 before it.
use Rattle.std.specs.Prelude.{Err}
use mathlib.Core.Path.{◌≡◌, refl, sym, ap, ◌∙◌}
use mathlib.Core.Bool.{Bool, true, false, cond}
use mathlib.Core.List.{List}
use Prim.Native.Nat.{ℕ}
use native.Mathlib.Omega.{arith}
use lib.IntN.{ℤ}
use lib.ListN.{length}
use Rattle.meaning.specs.Grounds.{short_lists, Outcome, refused, read, outcome_of, refusal_number}
use Rattle.meaning.specs.declared.Refusal.{Refusal}
use Rattle.meaning.specs.declared.Refusal.TheVariants as refusal
use Rattle.meaning.proofs.Promises.{grounds, grounds_back, demand3, fits, accepted_sound, accepted_leads, read_back}
use Rattle.translate.specs.Translate.{judged, result_of, Translates}
use Rattle.translate.specs.Meaning.{RefusedFor, lists, sheet, Translation}
use Rattle.translate.specs.declared.Counts.{Counts}
use Rattle.translate.specs.declared.Refused.{Refused}
use Rattle.translate.proofs.AcceptedFronts.{Taken}

-- ---- accepted
pub translation : (t : List ℕ) (c : Counts) (rs ps ns ls : List ℤ) (bytes : List ℕ) → Taken t c rs ps ns ls bytes → Translation t c rs ps ns ls bytes
translation t c rs ps ns ls bytes h =
    let s = h.draft in
    let d = demand3 t s h.is in
    record {
      trees = d.0;
      spells = d.1;
      declared = ap (λ (x : Counts). x.declared) h.counts ∙ sym (fits t s h.is).many ∙ ap length d.2;
      names = rw (← d.2) h.names;
      sound = rw (h.ranges, h.primitives, h.lengths, h.literals) (accepted_sound t s h.is);
      leads = rw (h.ranges, h.primitives, ap (λ (x : Counts). x.declared) h.counts) (accepted_leads t s h.is);
      faithful = rw (h.ranges, h.primitives, h.lengths, h.literals, read_back s, ← d.2) d.3;
    }

-- ---- refused
module _ (t : List ℕ) (rs ps ns ls : List ℤ) (bytes : List ℕ) where
  -- the outcome of a refusal
  refused_judged : (g : Refusal) (k : ℕ) → Err (record { refusal = g; line = k }) ≡ result_of (judged t rs ps ns ls bytes) → judged t rs ps ns ls bytes ≡ refused g k
  refused_judged g k e = by (judged t rs ps ns ls bytes) refl e
    where
      by : (o : Outcome) → judged t rs ps ns ls bytes ≡ o → Err (record { refusal = g; line = k }) ≡ result_of o → judged t rs ps ns ls bytes ≡ refused g k
      by (refused h j) i f =
          let e : ◌≡◌ {A = Refused} (record { refusal = g; line = k }) (record { refusal = h; line = j }) = cc in
          let a : h ≡ g = sym (ap (λ (x : Refused). x.refusal) e) in
          let b : j ≡ k = sym (ap (λ (x : Refused). x.line) e) in
          i ∙ rw (a, b)
      by (read s) i f = absurd (let z : ◌≡◌ {A = ℕ} 0 1 = cc in omega arith)

  refused_for : (g : Refusal) (k : ℕ) → judged t rs ps ns ls bytes ≡ refused g k → RefusedFor t rs ps ns ls bytes (refusal_number g) k
  unfolding judged
  refused_for g k = by (short_lists rs ps ns ls bytes) refl
    where
      by : (b : Bool) → short_lists rs ps ns ls bytes ≡ b → cond b (refused refusal.Lists 0) (outcome_of t) ≡ refused g k → RefusedFor t rs ps ns ls bytes (refusal_number g) k
      by true s e =
          let a : refusal.Lists ≡ g = cc in
          let b : 0 ≡ k = cc in
          rw (← a, ← b) (lists s)
      by false s e = sheet s (grounds t g k e)

  pub for_refused : (n k : ℕ) → RefusedFor t rs ps ns ls bytes n k → (g : Refusal) × (refusal_number g ≡ n) × (judged t rs ps ns ls bytes ≡ refused g k)
  unfolding judged
  for_refused n k (lists s) = (refusal.Lists, refl, rw s)
  for_refused n k (sheet s r) = let b = grounds_back t n k r in (b.0, b.1, rw s b.2)

module _ (t : List ℕ) (rs₀ ps₀ ns₀ ls₀ : List ℤ) (bytes₀ : List ℕ) (rs ps ns ls : List ℤ) (bytes : List ℕ) (g : Refusal) (k : ℕ) where
  pub refused_right : Translates t rs₀ ps₀ ns₀ ls₀ bytes₀ rs ps ns ls bytes (Err (record { refusal = g; line = k })) → RefusedFor t rs₀ ps₀ ns₀ ls₀ bytes₀ (refusal_number g) k × (rs ≡ rs₀) × (ps ≡ ps₀) × (ns ≡ ns₀) × (ls ≡ ls₀) × (bytes ≡ bytes₀)
  refused_right h =
      let j = refused_judged t rs₀ ps₀ ns₀ ls₀ bytes₀ g k h.result in (
        refused_for t rs₀ ps₀ ns₀ ls₀ bytes₀ g k j,
        rw j at h.ranges,
        rw j at h.primitives,
        rw j at h.lengths,
        rw j at h.literals,
        rw j at h.names,
      )
