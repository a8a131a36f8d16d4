-- What is promised of the calls for C, for docs/PROMISES.md: each contract determines the result and what is left in the caller's buffers.
use Rattle.std.specs.Prelude.{◌≡◌, List, ℕ, ℤ}
use Rattle.sheet.specs.Lines.{span_of}
use Rattle.answer.specs.Output.{Answers}
use Rattle.bindings.specs.Calls.{SolvesInC, TranslatesInC, span_numbers}
use Rattle.bindings.specs.declared.SolveNumbers.{SolveNumbers}
use Rattle.bindings.specs.declared.TranslateNumbers.{TranslateNumbers}
use Rattle.bindings.specs.declared.LineSpan.{LineSpan}

-- `ularimpong_solve`: the numbers, the point buffer and the workspace
abbrev pub SolveOnce : Type 0
SolveOnce =
    (rs ps ns ls : List ℤ) (lead budget : ℤ) (p₀ w₀ p w p' w' : List ℤ) (r r' : SolveNumbers)
    → SolvesInC rs ps ns ls lead budget p₀ w₀ p w r → SolvesInC rs ps ns ls lead budget p₀ w₀ p' w' r' → (r ≡ r') × (p ≡ p') × (w ≡ w')

-- `ularimpong_translate`: the numbers and every list
abbrev pub TranslateOnce : Type 0
TranslateOnce =
    (t : List ℕ) (rs₀ ps₀ ns₀ ls₀ : List ℤ) (bytes₀ : List ℕ) (rs ps ns ls rs' ps' ns' ls' : List ℤ) (bytes bytes' : List ℕ) (r r' : TranslateNumbers)
    → TranslatesInC t rs₀ ps₀ ns₀ ls₀ bytes₀ rs ps ns ls bytes r → TranslatesInC t rs₀ ps₀ ns₀ ls₀ bytes₀ rs' ps' ns' ls' bytes' r'
    → (r ≡ r') × (rs ≡ rs') × (ps ≡ ps') × (ns ≡ ns') × (ls ≡ ls') × (bytes ≡ bytes')

-- `ularimpong_line_span`: the stretch
abbrev pub LineSpanOnce : Type 0
LineSpanOnce =
    (text : List ℕ) (line : ℕ) (r r' : LineSpan) → r ≡ span_numbers (span_of text line) → r' ≡ span_numbers (span_of text line) → r ≡ r'

-- `ularimpong_answer`: the length and every byte
abbrev pub AnswerOnce : Type 0
AnswerOnce = (t out₀ out out' : List ℕ) (r r' : ℕ) → Answers t out₀ r out → Answers t out₀ r' out' → (r ≡ r') × (out ≡ out')
