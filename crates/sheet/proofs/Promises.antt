-- What this crate promises, each by the law that proves it.
use mathlib.Core.Path.{sym, ◌∙◌}
use Rattle.sheet.specs.Promises.{LineSpanOnce, LineAtOnce, MarkExactly, NameExactly, NameOnce, ReadsExactly, SpellsOne, NotRead, DeepExactly, Worked}
use Rattle.sheet.proofs.Names as names
use Rattle.sheet.proofs.Nesting as nesting
use Rattle.sheet.proofs.SpellingLines as spelling
use Rattle.sheet.proofs.Worked as worked-lines

pub line_span_once : LineSpanOnce
line_span_once text k r r' h g = h ∙ sym g

pub line_at_once : LineAtOnce
line_at_once text k r r' h g = ((λ i. ((h.1.0 ∙ sym g.1.0) i, (h.1.1 ∙ sym g.1.1) i)), h.0 ∙ sym g.0)

pub mark_exactly : MarkExactly
mark_exactly = names.mark_exactly

pub name_exactly : NameExactly
name_exactly = names.name_exactly

pub name_once : NameOnce
name_once = names.name_once

pub reads_exactly : ReadsExactly
reads_exactly = spelling.reads_exactly

pub spells_one : SpellsOne
spells_one = spelling.spells_one

pub not_read : NotRead
not_read = spelling.not_read

pub deep_exactly : DeepExactly
deep_exactly = nesting.deep_exactly

pub worked : Worked
worked = worked-lines.worked
