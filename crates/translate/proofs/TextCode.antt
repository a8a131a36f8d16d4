-- Grounds 19 to 22 in order: the first that is met is the outcome, and where none is, the lines behind the first decide.
use Rattle.std.specs.Prelude.{Some, None, Result, Err}
use mathlib.Core.Path.{◌≡◌, refl, sym, ◌∙◌}
use mathlib.Core.Bool.{Bool, true, false, not, cond}
use mathlib.Core.List.{List, [], ◌∷◌}
use Prim.Native.Nat.{ℕ, suc, ◌+◌, ◌-◌, ◌<◌}
use native.Mathlib.Nat.{pos_of_ne-zero}
use native.Mathlib.Omega.{arith}
use lib.Dec.{eqb, ltb}
use lib.IntN.{ℤ}
use lib.ListN.{length, get_or, take, drop, length-drop}
use lib.Seq.{take_all}
use borrow.Author.Tests.{eqb-false}
use Rattle.sheet.specs.Lines.{lines_of, line_of}
use Rattle.sheet.specs.inner.Places.{up_to, place_of}
use Rattle.sheet.proofs.Lines.{lines_at}
use Rattle.meaning.specs.Draft.{blank}
use Rattle.meaning.specs.Grounds.{short_lists, any_bad_byte, bad_text, first_line, other_version, top_of, Outcome, refused, read_lines, some_declared, behind_first, by_version, outcome_of}
use Rattle.translate.specs.Translate.{judged, Translates}
use Rattle.translate.specs.inner.Walk.{Gives}
use Rattle.meaning.specs.declared.Refusal.{Refusal}
use Rattle.meaning.specs.declared.Refusal.TheVariants as refusal
use Rattle.translate.specs.declared.Counts.{Counts}
use Rattle.translate.specs.declared.Refused.{Refused}
use Rattle.translate.proofs.AcceptCode.{same_gives}
use Rattle.meaning.proofs.Tests.{either_off}

-- ---- the text
text_some : (t : List ℕ) → bad_text t ≡ false → 0 < length t
text_some t e = pos_of_ne-zero (eqb-false (length t) 0 (either_off (eqb (length t) 0) _ e).0)

-- with an LF at its end, line 1 ends before the text does
lf_inside : (l : List ℕ) → 0 < length l → eqb (get_or l (length l - 1) 0) 10 ≡ true → length (up_to 10 l) < length l
unfolding up_to
lf_inside [] h e = absurd (omega arith)
lf_inside (b ∷ []) h e = let z : eqb b 10 ≡ true = e in rw z (omega arith)
lf_inside (b ∷ c ∷ cs) h e =
    let n : suc (suc (length cs)) - 1 ≡ suc (length cs) = omega arith in
    let m : suc (length cs) - 1 ≡ length cs = omega arith in
    by (eqb b 10) (lf_inside (c ∷ cs) (omega arith) (rw m (rw n at e)))
  where
    by : (t : Bool) → length (up_to 10 (c ∷ cs)) < suc (length cs) → length (cond t [] (b ∷ up_to 10 (c ∷ cs))) < suc (suc (length cs))
    by true k = omega arith
    by false k = omega arith

pub line_inside : (t : List ℕ) (end : ℕ) → bad_text t ≡ false → end ≡ place_of 10 t 0 → end < length t
line_inside t end e p =
    let a = either_off (eqb (length t) 0) _ e in
    let b = either_off (ltb 4096 (length t)) _ a.1 in
    let d = either_off (any_bad_byte t) _ b.1 in
    omega (arith, p, lf_inside t (text_some t e) (not_off (eqb (get_or t (length t - 1) 0) 10) d.1))
  where
    not_off : (b : Bool) → not b ≡ false → b ≡ true
    not_off true h = refl
    not_off false h = sym h

-- line 1 and the lines behind it
record First (t : List ℕ) (end : ℕ) : Type 0 where
  first : line_of t 1 ≡ take end t
  others : behind_first (lines_of t) ≡ lines_of (drop (end + 1) t)

first_is : (t : List ℕ) (end : ℕ) → 0 < length t → end ≡ place_of 10 t 0 → First t end
unfolding line_of
first_is t end h e =
    let z : place_of 10 t 0 - 0 ≡ end = omega arith in
    let l : lines_of t ≡ take end t ∷ lines_of (drop (end + 1) t) = rw (z, ← e) at (lines_at t 0 h) in
    record { first = rw l; others = rw l }

module _ (t : List ℕ) where
  pub text_refused : bad_text t ≡ true → outcome_of t ≡ refused refusal.Text 0
  unfolding outcome_of
  text_refused e = rw e

  module _ (e : bad_text t ≡ false) (end : ℕ) (p : end ≡ place_of 10 t 0) where
    by_first : outcome_of t ≡ by_version (first_line (take end t)) t
    unfolding outcome_of
    by_first = rw (e, (first_is t end (text_some t e) p).first)

    pub first_refused : first_line (take end t) ≡ None → outcome_of t ≡ refused refusal.FirstLine 1
    first_refused f = by_first ∙ rw f

    pub version_refused : (v : ℕ) → first_line (take end t) ≡ Some v → other_version v ≡ true → outcome_of t ≡ refused refusal.Version 1
    version_refused v f n = by_first ∙ rw (f, n)

    pub lines_decide : (v : ℕ) → first_line (take end t) ≡ Some v → other_version v ≡ false → outcome_of t ≡ some_declared (read_lines (top_of v) 2 blank (lines_of (take (length t - (end + 1)) (drop (end + 1) t))))
    lines_decide v f n = by_first ∙ rw (f, n, (first_is t end (text_some t e) p).others, take_all (length t - (end + 1)) (drop (end + 1) t) (omega (arith, length-drop (end + 1) t)))

-- ---- the whole
module _ (t : List ℕ) (rs₀ ps₀ ns₀ ls₀ : List ℤ) (bytes₀ : List ℕ) where
  gives_translates : (o : Outcome) → judged t rs₀ ps₀ ns₀ ls₀ bytes₀ ≡ o → (rs ps ns ls : List ℤ) (bytes : List ℕ) (r : Result Counts Refused) → Gives o rs₀ ps₀ ns₀ ls₀ bytes₀ rs ps ns ls bytes r → Translates t rs₀ ps₀ ns₀ ls₀ bytes₀ rs ps ns ls bytes r
  gives_translates o e rs ps ns ls bytes r g =
      record {
        result = rw e g.result;
        ranges = rw e g.ranges;
        primitives = rw e g.primitives;
        lengths = rw e g.lengths;
        literals = rw e g.literals;
        names = rw e g.names;
      }

  pub refused_short : short_lists rs₀ ps₀ ns₀ ls₀ bytes₀ ≡ true → Translates t rs₀ ps₀ ns₀ ls₀ bytes₀ rs₀ ps₀ ns₀ ls₀ bytes₀ (Err (record { refusal = refusal.Lists; line = 0 }))
  unfolding judged
  refused_short e = gives_translates (refused refusal.Lists 0) (rw e) rs₀ ps₀ ns₀ ls₀ bytes₀ (Err (record { refusal = refusal.Lists; line = 0 })) (same_gives (refused refusal.Lists 0) rs₀ ps₀ ns₀ ls₀ bytes₀ refusal.Lists 0 refl)

  module _ (long : short_lists rs₀ ps₀ ns₀ ls₀ bytes₀ ≡ false) where
    judged_text : judged t rs₀ ps₀ ns₀ ls₀ bytes₀ ≡ outcome_of t
    unfolding judged
    judged_text = rw long

    pub refused_text : (g : Refusal) (k : ℕ) → outcome_of t ≡ refused g k → Translates t rs₀ ps₀ ns₀ ls₀ bytes₀ rs₀ ps₀ ns₀ ls₀ bytes₀ (Err (record { refusal = g; line = k }))
    refused_text g k e = gives_translates (refused g k) (judged_text ∙ e) rs₀ ps₀ ns₀ ls₀ bytes₀ (Err (record { refusal = g; line = k })) (same_gives (refused g k) rs₀ ps₀ ns₀ ls₀ bytes₀ g k refl)

    pub translated_text : (o : Outcome) → outcome_of t ≡ o → (rs ps ns ls : List ℤ) (bytes : List ℕ) (r : Result Counts Refused) → Gives o rs₀ ps₀ ns₀ ls₀ bytes₀ rs ps ns ls bytes r → Translates t rs₀ ps₀ ns₀ ls₀ bytes₀ rs ps ns ls bytes r
    translated_text o e rs ps ns ls bytes r g = gives_translates o (judged_text ∙ e) rs ps ns ls bytes r g
