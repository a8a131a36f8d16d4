-- What a translation leaves in lists of full size: of a refused sheet the refusal, of an accepted one the filled fronts, as long as the counts say.
use mathlib.Core.Path.{◌≡◌, sym, ap, ◌∙◌}
use mathlib.Core.List.{List, ◌++◌}
use Prim.Native.Nat.{ℕ, ◌*◌, ◌≤◌}
use native.Mathlib.Omega.{arith}
use lib.IntN.{ℤ, pos}
use lib.ListN.{length, take, replicate, length-append, length-replicate}
use borrow.Author.Tests.{le-ltb}
use Rattle.meaning.specs.Grounds.{Outcome, refused, read, outcome_of}
use Rattle.meaning.specs.Grounds as sheet
use Rattle.translate.specs.Translate.{judged, result_of, Translates}
use Rattle.translate.specs.declared.Counts.{Counts}
use Rattle.std.specs.Prelude.{Result, Ok, Err}
use Rattle.translate.specs.declared.Refused.{Refused}
use Rattle.meaning.proofs.FlatLists.{ranges_length, names_length}
use Rattle.meaning.proofs.Fits.{fits}
use Rattle.translate.proofs.AcceptedFronts.{Taken, taken}
use Rattle.answer.specs.Output.{refused_line, printed, output_of}
use Rattle.answer.specs.inner.Reporting.{report_on, Fronts}
use Rattle.answer.proofs.Reporting.{report_sheet}

-- lists of full size
pub record Full (rs ps ns ls : List ℤ) (bs : List ℕ) : Type 0 where
  pub ranges : 256 ≤ length rs
  pub primitives : 1024 ≤ length ps
  pub lengths : 256 ≤ length ns
  pub literals : 3072 ≤ length ls
  pub names : 1024 ≤ length bs

pub zeros_full : Full (replicate 256 (pos 0)) (replicate 1024 (pos 0)) (replicate 256 (pos 0)) (replicate 3072 (pos 0)) (replicate 1024 0)
zeros_full =
    record {
      ranges = omega (arith, length-replicate 256 (pos 0));
      primitives = omega (arith, length-replicate 1024 (pos 0));
      lengths = omega (arith, length-replicate 256 (pos 0));
      literals = omega (arith, length-replicate 3072 (pos 0));
      names = omega (arith, length-replicate {A = ℕ} 1024 0);
    }

module _ (t : List ℕ) (rs₀ ps₀ ns₀ ls₀ : List ℤ) (bs₀ : List ℕ) (full : Full rs₀ ps₀ ns₀ ls₀ bs₀) where
  all_full : judged t rs₀ ps₀ ns₀ ls₀ bs₀ ≡ outcome_of t
  unfolding judged
  all_full =
      rw (
        le-ltb (length rs₀) 256 full.ranges,
        le-ltb (length ps₀) 1024 full.primitives,
        le-ltb (length ns₀) 256 full.lengths,
        le-ltb (length ls₀) 3072 full.literals,
        le-ltb (length bs₀) 1024 full.names,
      )

  module _ (rs ps ns ls : List ℤ) (bs : List ℕ) (r : Result Counts Refused) (h : Translates t rs₀ ps₀ ns₀ ls₀ bs₀ rs ps ns ls bs r) where
    pub refused_output : (x : Refused) (n : ℕ) → r ≡ Err x → n ≡ sheet.refusal_number x.refusal → refused_line n x.line ≡ output_of t
    unfolding output_of
    refused_output x n e f = ap (λ (m : ℕ). refused_line m x.line) f ∙ go (outcome_of t) (sym e ∙ h.result ∙ ap result_of all_full)
      where
        go : (o : Outcome) → Err x ≡ result_of o → refused_line (sheet.refusal_number x.refusal) x.line ≡ printed o
        go (refused g k) i = let a : x ≡ record { refusal = g; line = k } = cc in rw a
        go (read s) i = absurd (let z : ◌≡◌ {A = ℕ} 0 1 = cc in omega arith)

-- ---- what the counts come to
pub record Few (c : Counts) : Type 0 where
  pub quantities : c.quantities ≤ 128
  pub declared : c.declared ≤ c.quantities
  pub primitives : c.primitives ≤ 256
  pub clauses : c.clauses ≤ 256
  pub literals : c.literals ≤ 1024

module _ (t : List ℕ) (c : Counts) (rs ps ns ls : List ℤ) (bs : List ℕ) (h : Taken t c rs ps ns ls bs) where
  pub few : Few c
  few =
      let f = fits t h.draft h.is in
      let e = h.counts in
      record {
        quantities = omega (arith, ap (λ (x : Counts). x.quantities) e, f.few);
        declared = omega (arith, ap (λ (x : Counts). x.declared) e, ap (λ (x : Counts). x.quantities) e);
        primitives = omega (arith, ap (λ (x : Counts). x.primitives) e, f.primitives);
        clauses = omega (arith, ap (λ (x : Counts). x.clauses) e, f.clauses);
        literals = omega (arith, ap (λ (x : Counts). x.literals) e, f.literals);
      }

  pub fronts : Fronts (take (2 * c.quantities) rs) (take (8 * c.declared) bs)
  fronts =
      let f = fits t h.draft h.is in
      let s = h.draft in
      rw (h.ranges, h.names)
      (record {
        few = omega (arith, ranges_length (s.declared ++ s.made.ranges), length-append s.declared s.made.ranges, f.few);
        named = omega (arith, ranges_length (s.declared ++ s.made.ranges), length-append s.declared s.made.ranges, names_length s.names, f.within);
      })

  pub accepted_output : report_on (take (2 * c.quantities) rs) (take (4 * c.primitives) ps) (take c.clauses ns) (take (3 * c.literals) ls) (take (8 * c.declared) bs) ≡ output_of t
  unfolding output_of
  accepted_output = rw (h.ranges, h.primitives, h.lengths, h.literals, h.names) (report_sheet t h.draft h.is ∙ ap printed (sym h.is))

-- the counts of an accepted translation
pub few_when : {t : List ℕ} {rs₀ ps₀ ns₀ ls₀ : List ℤ} {bs₀ : List ℕ} {rs ps ns ls : List ℤ} {bs : List ℕ} {r : Result Counts Refused} {c : Counts} → Translates t rs₀ ps₀ ns₀ ls₀ bs₀ rs ps ns ls bs r → r ≡ Ok c → Few c
few_when h e = few _ _ _ _ _ _ _ (taken _ _ _ _ _ _ _ _ _ _ _ _ _ h e)
