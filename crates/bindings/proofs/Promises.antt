-- What is promised of the calls for C: each field of a contract says what one result or one buffer is.
use mathlib.Core.Path.{sym, ap, ◌∙◌}
use Rattle.bindings.specs.Calls.{solve_numbers, translate_numbers}
use Rattle.bindings.specs.Promises.{SolveOnce, TranslateOnce, LineSpanOnce, AnswerOnce}

pub solve_once : SolveOnce
solve_once rs ps ns ls lead budget p₀ w₀ p w p' w' r r' a b =
    let s = a.solves in
    let t = b.solves in
    (a.numbers ∙ ap solve_numbers (s.result ∙ sym t.result) ∙ sym b.numbers, s.point ∙ sym t.point, s.work ∙ sym t.work)

pub translate_once : TranslateOnce
translate_once t rs₀ ps₀ ns₀ ls₀ bytes₀ rs ps ns ls rs' ps' ns' ls' bytes bytes' r r' a b =
    let s = a.translates in
    let u = b.translates in (
      a.numbers ∙ ap translate_numbers (s.result ∙ sym u.result) ∙ sym b.numbers,
      s.ranges ∙ sym u.ranges,
      s.primitives ∙ sym u.primitives,
      s.lengths ∙ sym u.lengths,
      s.literals ∙ sym u.literals,
      s.names ∙ sym u.names,
    )

pub line_span_once : LineSpanOnce
line_span_once text line r r' h k = h ∙ sym k

pub answer_once : AnswerOnce
answer_once t out₀ out out' r r' a b = (a.long ∙ sym b.long, a.front ∙ sym b.front)
