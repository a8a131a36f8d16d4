-- `Equations::named` meets its contract: the quantity is the name's place, and the flag is raised where the name was not declared.
use mathlib.Core.Path.{◌∙◌}
use lib.ListN.{length}
use Rattle.problem.proofs.Tests.{or_yes, or_no}
use Rattle.meaning.specs.Plain.{place_of}
use Rattle.lines.proofs.HelperCode.{named_is}
use Rattle.lines.proofs.parts.Equations.named.Goals as goal
use Rattle.lines.proofs.parts.Equations.named.Goals.{then-making, else-making}

pub returns : goal.returns
returns c =
    let s = c in
    let m = s.args.making in
    let ks = s.args.keys.now in
    named_is (length ks) (place_of ks s.args.name) s.args.self.now.ranges s.args.self.now.primitives m c.place_of-q.ensures
    (elim c.if-making.branch [
      | then-making w ↦ w.unknown-is ∙ w.if-making.true ∙ or_yes m.unknown _ w.if-making.true
      | else-making w ↦ or_no m.unknown _ w.if-making.false w.unknown-is
    ])
    c.span_of.ensures
