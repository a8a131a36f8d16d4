-- What is promised, handed on from the laws.
use mathlib.Core.Path.{sym, ◌∙◌}
use Rattle.answer.specs.Examples as examples
use Rattle.answer.specs.Promises.{AnswerMeans, Once, OutputShort, SheetAnswer, AllHold}
use Rattle.answer.proofs.Short as short
use Rattle.answer.proofs.SheetAnswers.{sheet_answered}
use Rattle.answer.proofs.Saying.{said}

pub answer_means : AnswerMeans
answer_means = said

pub once : Once
once t out₀ r r' out out' h k = (h.long ∙ sym k.long, h.front ∙ sym k.front)

pub output_short : OutputShort
output_short = short.output_short

pub sheet_answer : SheetAnswer
sheet_answer = sheet_answered

pub all_hold : AllHold
all_hold = examples.all_hold
