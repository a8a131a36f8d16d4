-- Lines by their place: the first line of a text that is not empty ends at the first LF, and the others are the lines behind that LF. So a
-- walk from each line's end to the next goes through the lines, and line k is what stands in its stretch.
use mathlib.Core.Path.{◌≡◌, refl, ◌∙◌, ap}
use mathlib.Core.Bool.{Bool, true, false, cond}
use mathlib.Core.List.{List, [], ◌∷◌}
use Prim.Native.Nat.{ℕ, zero, suc, ◌+◌, ◌-◌, ◌≤◌, ◌<◌}
use native.Mathlib.Nat.{zero-add, add-zero, le_refl}
use native.Mathlib.Omega.{arith}
use lib.Dec.{eqb, ltb, leb-suc-suc, eqb-suc-zero}
use lib.ListN.{length, get_or, take, drop, length-drop, get_or-eq_default}
use lib.Seq.{drop-drop}
use borrow.Author.Tests.{lt-ltb, le-ltb, ltb-true, ltb-false}
use Rattle.sheet.specs.Lines.{with_first, lines_of, start_of, no_line, line_of, span_of}
use Rattle.sheet.specs.inner.Places.{up_to, place_of}
use Rattle.sheet.specs.declared.Stretch.{Stretch}
use Rattle.sheet.proofs.Places.{drop_end, up_to_short, up_to_take}

-- the text behind the first LF
behind : List ℕ → List ℕ
behind l = drop (suc (length (up_to 10 l))) l

pub lines_none : lines_of [] ≡ []
unfolding lines_of
lines_none = refl

lines_cons : (l : List ℕ) → 0 < length l → lines_of l ≡ up_to 10 l ∷ lines_of (behind l)
unfolding lines_of up_to behind
lines_cons [] h = absurd (omega arith)
lines_cons (b ∷ []) h = by (eqb b 10)
  where
    by : (t : Bool) → cond t ([] ∷ []) ((b ∷ []) ∷ []) ≡ cond t [] (b ∷ []) ∷ lines_of (drop (suc (length (cond t [] (b ∷ [])))) (b ∷ []))
    by true = refl
    by false = refl
lines_cons (b ∷ c ∷ cs) h = by (eqb b 10) (lines_cons (c ∷ cs) (omega arith))
  where
    by : (t : Bool) → lines_of (c ∷ cs) ≡ up_to 10 (c ∷ cs) ∷ lines_of (behind (c ∷ cs)) →
        cond t ([] ∷ lines_of (c ∷ cs)) (with_first b (lines_of (c ∷ cs))) ≡ cond t [] (b ∷ up_to 10 (c ∷ cs)) ∷ lines_of (drop (suc (length (cond t [] (b ∷ up_to 10 (c ∷ cs))))) (b ∷ c ∷ cs))
    by true e = refl
    by false e = ap (with_first b) e

-- the place behind the line that starts at a place
step : (text : List ℕ) (at : ℕ) → behind (drop at text) ≡ drop (place_of 10 text at + 1) text
unfolding behind
step text at =
    let n : at + suc (length (up_to 10 (drop at text))) ≡ place_of 10 text at + 1 = omega arith in
    drop-drop (suc (length (up_to 10 (drop at text)))) at text ∙ ap (λ (m : ℕ). drop m text) n

-- the lines from a place in the text on
from : (text : List ℕ) (at : ℕ) → at < length text → lines_of (drop at text) ≡ up_to 10 (drop at text) ∷ lines_of (drop (place_of 10 text at + 1) text)
from text at h =
    lines_cons (drop at text) (omega (arith, length-drop at text))
    ∙ ap (λ (l : List ℕ). up_to 10 (drop at text) ∷ lines_of l) (step text at)

module _ (text : List ℕ) (at : ℕ) where
  -- from a place in the text on: the line up to the next LF, and the lines behind it
  pub lines_at : at < length text → lines_of (drop at text) ≡ take (place_of 10 text at - at) (drop at text) ∷ lines_of (drop (place_of 10 text at + 1) text)
  lines_at h =
      let n : place_of 10 text at - at ≡ length (up_to 10 (drop at text)) = omega arith in
      rw (n, up_to_take 10 (drop at text)) (from text at h)

  -- past the end there is none
  pub lines_end : length text ≤ at → lines_of (drop at text) ≡ []
  lines_end h = rw (drop_end text at h) lines_none

-- ---- the stretch of a line, from a place on
unfoldable pub span_from : List ℕ → ℕ → ℕ → Stretch
span_from text at k =
    cond (no_line (drop at text) k)
    (record { start = length text; end = length text })
    (record { start = at + start_of (lines_of (drop at text)) k; end = at + (start_of (lines_of (drop at text)) k + length (line_of (drop at text) k)) })

pub span_start : (text : List ℕ) (k : ℕ) → span_of text k ≡ span_from text 0 k
unfolding span_of span_from
span_start text k = rw (zero-add (start_of (lines_of text) k), zero-add (start_of (lines_of text) k + length (line_of text k)))

module _ (text : List ℕ) (at : ℕ) where
  pub span_first : at < length text → span_from text at 1 ≡ record { start = at; end = place_of 10 text at }
  unfolding span_from line_of start_of
  span_first h = rw (from text at h, le-ltb (suc (length (lines_of (drop (place_of 10 text at + 1) text)))) 1 (omega arith), add-zero at, zero-add (length (up_to 10 (drop at text))))

  pub span_later : at < length text → (k : ℕ) → 0 < k → (k ≡ 1 → ⊥) → span_from text at k ≡ span_from text (place_of 10 text at + 1) (k - 1)
  unfolding span_from line_of start_of
  span_later h zero z n = absurd (omega arith)
  span_later h (suc zero) z n = absurd (n refl)
  span_later h (suc (suc k)) z n =
      let f = length (up_to 10 (drop at text)) in
      let ls = lines_of (drop (place_of 10 text at + 1) text) in
      let s = start_of ls (suc k) in
      let w = length (get_or ls k []) in
      let one : suc (suc k) - 1 ≡ suc k = omega arith in
      let first : at + (f + 1 + s) ≡ at + f + 1 + s = omega arith in
      let last : at + (f + 1 + s + w) ≡ at + f + 1 + (s + w) = omega arith in
      rw (one, from text at h, eqb-suc-zero (suc k), eqb-suc-zero k, leb-suc-suc (suc (length ls)) (suc k), first, last)

  -- line 0, and past the end each line
  pub span_zero : (k : ℕ) → k ≡ 0 → span_from text at k ≡ record { start = length text; end = length text }
  unfolding span_from
  span_zero k e = rw e

  pub span_missing : length text ≤ at → (k : ℕ) → span_from text at k ≡ record { start = length text; end = length text }
  unfolding span_from
  span_missing h zero = refl
  span_missing h (suc k) = rw (lines_end text at h, eqb-suc-zero k, lt-ltb 0 (suc k) (omega arith))

-- ---- line k is what stands in its stretch, and the stretch lies in the text
pub record Held (text : List ℕ) (k : ℕ) : Type 0 where
  pub ordered : (span_of text k).start ≤ (span_of text k).end
  pub inside : (span_of text k).end ≤ length text
  pub line : take ((span_of text k).end - (span_of text k).start) (drop (span_of text k).start text) ≡ line_of text k

some_text : (text : List ℕ) → 0 < length (lines_of text) → 0 < length text
some_text [] h = omega (arith, ap length lines_none)
some_text (b ∷ bs) h = omega arith

-- the line with this number, counted from 0, by its start among the lines
record Stands (text : List ℕ) (k : ℕ) : Type 0 where
  inside : start_of (lines_of text) (suc k) + length (line_of text (suc k)) ≤ length text
  line : take (length (line_of text (suc k))) (drop (start_of (lines_of text) (suc k)) text) ≡ line_of text (suc k)

stands : (k : ℕ) (text : List ℕ) → k < length (lines_of text) → Stands text k
unfolding line_of start_of behind
stands zero text h =
    let e = lines_cons text (some_text text h) in
    record { inside = rw e (omega (arith, up_to_short 10 text)); line = rw e (up_to_take 10 text) }
stands (suc k) text h =
    let e = lines_cons text (some_text text (omega arith)) in
    let f = length (up_to 10 text) in
    let more : k < length (lines_of (behind text)) = omega (arith, ap length e) in
    let r = stands k (behind text) more in
    let some = some_text (behind text) (omega arith) in
    let s = start_of (lines_of (behind text)) (suc k) in
    let n : suc f + s ≡ f + 1 + s = omega arith in
    record { inside = rw e (omega (arith, r.inside, some, length-drop (suc f) text)); line = rw (e, ← n, ← drop-drop s (suc f) text) r.line }

span_no : (text : List ℕ) (k : ℕ) → no_line text k ≡ true → line_of text k ≡ [] → Held text k
unfolding span_of
span_no text k e n =
    let z : length text - length text ≡ 0 = omega arith in
    record { ordered = rw e (le_refl _); inside = rw e (le_refl _); line = rw (e, n, z) }

span_yes : (text : List ℕ) (k : ℕ) → no_line text (suc k) ≡ false → Stands text k → Held text (suc k)
unfolding span_of
span_yes text k e r =
    let s = start_of (lines_of text) (suc k) in
    let w = length (line_of text (suc k)) in
    let z : s + w - s ≡ w = omega arith in
    record { ordered = rw e (omega arith); inside = rw e r.inside; line = rw (e, z) r.line }

pub span_held : (text : List ℕ) (k : ℕ) → Held text k
unfolding line_of
span_held text zero = span_no text zero refl refl
span_held text (suc k) = by (ltb (length (lines_of text)) (suc k)) refl
  where
    by : (t : Bool) → ltb (length (lines_of text)) (suc k) ≡ t → Held text (suc k)
    by true e =
        let h = ltb-true (length (lines_of text)) (suc k) e in
        span_no text (suc k) (rw (e, eqb-suc-zero k)) (get_or-eq_default (lines_of text) [] (omega arith))
    by false e =
        let h = ltb-false (length (lines_of text)) (suc k) e in
        span_yes text k (rw (e, eqb-suc-zero k)) (stands k text h)
