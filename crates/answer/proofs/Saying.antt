-- Every output says what Said.antt has for its word: the words differ in their first byte, so an output is of one kind only.
use mathlib.Core.Path.{◌≡◌, refl, sym, ap, subst}
use mathlib.Core.Logic.{inl, inr}
use mathlib.Core.List.{List}
use Prim.Native.Nat.{ℕ}
use native.Mathlib.Omega.{arith}
use lib.ListN.{length, get_or, take, drop}
use lib.Seq.{take_at}
use Rattle.meaning.specs.Grounds.{Outcome, refused, read, outcome_of, refusal_number}
use Rattle.meaning.proofs.TextGrounds.{grounds}
use Rattle.answer.specs.Output.{printed, output_of, Answers}
use Rattle.answer.specs.Said.{Said}
use Rattle.answer.proofs.SheetSays.{Kind, sheet_says}

-- the first byte
abbrev first : List ℕ → ℕ
first l = get_or l 0 0

kind_said : (t out : List ℕ) → Kind t out → Said t out
kind_said t out (inl s) =
    let f : first out ≡ 78 = ap first s.whole in
    record {
      word = inl (_, s.whole);
      none = λ b. s;
      found = λ b. absurd (omega (arith, f, ap first b.1));
      stop = λ b. absurd (omega (arith, f, ap first b.1));
      refused = λ b. absurd (omega (arith, f, ap first b.1));
    }
kind_said t out (inr (inl s)) =
    let f : first out ≡ 70 = ap first s.printed.whole in
    record {
      word = inr (inl (_, s.printed.whole));
      none = λ b. absurd (omega (arith, f, ap first b.1));
      found = λ b. s;
      stop = λ b. absurd (omega (arith, f, ap first b.1));
      refused = λ b. absurd (omega (arith, f, ap first b.1));
    }
kind_said t out (inr (inr (inl s))) =
    let f : first out ≡ 83 = ap first s.printed.whole in
    record {
      word = inr (inr (inl (_, s.printed.whole)));
      none = λ b. absurd (omega (arith, f, ap first b.1));
      found = λ b. absurd (omega (arith, f, ap first b.1));
      stop = λ b. s;
      refused = λ b. absurd (omega (arith, f, ap first b.1));
    }
kind_said t out (inr (inr (inr s))) =
    let f : first out ≡ 82 = ap first s.whole in
    record {
      word = inr (inr (inr (_, s.whole)));
      none = λ b. absurd (omega (arith, f, ap first b.1));
      found = λ b. absurd (omega (arith, f, ap first b.1));
      stop = λ b. absurd (omega (arith, f, ap first b.1));
      refused = λ b. s;
    }

output_kind : (t : List ℕ) → Kind t (output_of t)
unfolding output_of
output_kind t = by (outcome_of t) refl
  where
    by : (o : Outcome) → outcome_of t ≡ o → Kind t (printed o)
    by (refused g k) e = inr (inr (inr (record { ground = refusal_number g; line = k; whole = refl; met = inl (grounds t g k e) })))
    by (read s) e = sheet_says t s e

pub said : (t out₀ : List ℕ) (r : ℕ) (out : List ℕ) → Answers t out₀ r out → Said t (take r out)
said t out₀ r out h =
    let f : take r out ≡ output_of t = rw h.front (take_at (output_of t) (drop (length (output_of t)) out₀) r (sym h.long)) in
    subst (Said t) (sym f) (kind_said t (output_of t) (output_kind t))
