-- `narrow::square::cut_square` meets its contract: the span of the range that was read is held, and a held span cuts a good range as the exact one does.
use Rattle.whole.specs.declared.Range.{Range}
use Rattle.whole.specs.inner.Held.{held_span}
use Rattle.whole.specs.Ranges.{square_span}
use Rattle.narrow.specs.Narrowing.{square_step}
use mathlib.Core.Path.{refl, ap, ◌∙◌}
use Rattle.narrow.proofs.Cutting.{done_held}
use Rattle.narrow.proofs.square.cut_square.Goals as goal

pub returns : goal.returns
returns c =
    let s = c in
    record {
      kept = c.cut.ensures.kept;
      done = done_held (square_step s.args.z s.args.x) refl c.cut.ensures.done (s.args.frame.now.fine.good s.args.z s.requires.fact_1)
          (c.square-s.ensures ∙ ap (λ (x : Range). held_span (square_span x)) c.range_at.ensures.is);
    }
