-- Grounds 19 to 22 are looked at in order, and where none is met the lines decide.
use mathlib.Core.Path.{sym, ◌∙◌}
use native.Mathlib.Omega.{arith}
use lib.Seq.{length-take-le}
use Rattle.sheet.proofs.Places.{place_fits}
use Rattle.translate.proofs.TextCode.{line_inside, text_refused, first_refused, version_refused, lines_decide, refused_short, refused_text, translated_text}
use Rattle.translate.proofs.translate.Goals as goal

pub returns-then-short : goal.returns-then-short
returns-then-short c = refused_short _ _ _ _ _ _ (sym c.short.ensures ∙ c.if-short.true)

pub returns-then-bad_text : goal.returns-then-bad_text
returns-then-bad_text c = refused_text _ _ _ _ _ _ (sym c.short.ensures ∙ c.if-short.false) _ _ (text_refused _ (sym c.bad_text.ensures ∙ c.if-bad_text.true))

pub slice_bounds-first_line-end : goal.slice_bounds-first_line-end
slice_bounds-first_line-end c = sym (length-take-le c.line_end-end.result c.args.sheet.now (omega (arith, c.line_end-end.ensures, place_fits 10 c.args.sheet.now 0 (omega arith))))

pub returns-in_default : goal.returns-in_default
returns-in_default c =
    refused_text _ _ _ _ _ _ (sym c.short.ensures ∙ c.if-short.false) _ _
    (first_refused _ (sym c.bad_text.ensures ∙ c.if-bad_text.false) _ c.line_end-end.ensures (sym c.first_line.ensures ∙ c.in_default.is))

pub returns-then-other_version : goal.returns-then-other_version
returns-then-other_version c =
    refused_text _ _ _ _ _ _ (sym c.short.ensures ∙ c.if-short.false) _ _
    (version_refused _ (sym c.bad_text.ensures ∙ c.if-bad_text.false) _ c.line_end-end.ensures _ (sym c.first_line.ensures ∙ c.in-Some.is) (sym c.other_version.ensures ∙ c.if-other_version.true))

pub overflow_add-end : goal.overflow_add-end
overflow_add-end c = omega (arith, c.line_end-end.ensures, place_fits 10 c.args.sheet.now 0 (omega arith))

pub slice_bounds-fill-count : goal.slice_bounds-fill-count
slice_bounds-fill-count c = omega (arith, line_inside c.args.sheet.now _ (sym c.bad_text.ensures ∙ c.if-bad_text.false) c.line_end-end.ensures)

pub slice_bounds-fill-start : goal.slice_bounds-fill-start
slice_bounds-fill-start c = omega (arith, line_inside c.args.sheet.now _ (sym c.bad_text.ensures ∙ c.if-bad_text.false) c.line_end-end.ensures)

pub returns : goal.returns
returns c =
    translated_text _ _ _ _ _ _ (sym c.short.ensures ∙ c.if-short.false) _
    (lines_decide _ (sym c.bad_text.ensures ∙ c.if-bad_text.false) _ c.line_end-end.ensures _ (sym c.first_line.ensures ∙ c.in-Some.is) (sym c.other_version.ensures ∙ c.if-other_version.false)) _ _ _ _ _ _ c.fill.ensures
