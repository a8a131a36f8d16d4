-- The span of the two ranges that were read is held, and a held span cuts a good range as the exact one does.
use mathlib.Core.Path.{refl, ap₂, ◌∙◌}
use Rattle.whole.specs.declared.Range.{Range}
use Rattle.whole.specs.inner.Held.{held_span}
use Rattle.whole.specs.Ranges.{product_span}
use Rattle.narrow.specs.Narrowing.{product_step}
use Rattle.narrow.proofs.Cutting.{done_held}
use Rattle.narrow.proofs.product.cut_product.Goals as goal

pub returns-then-p-lt0 : goal.returns-then-p-lt0
returns-then-p-lt0 c =
    let s = c in
    record {
      kept = c.cut.ensures.kept;
      done = done_held (product_step s.args.z s.args.x s.args.y) refl c.cut.ensures.done (s.args.frame.now.fine.good s.args.z s.requires.fact_1)
          (c.product-s.ensures ∙ ap₂ (λ (x y : Range). held_span (product_span x y)) c.range_at-p.ensures.is c.range_at-q.ensures.is);
    }

pub returns : goal.returns
returns c =
    let s = c in
    record {
      kept = c.cut-2.ensures.kept;
      done = done_held (product_step s.args.z s.args.x s.args.y) refl c.cut-2.ensures.done (s.args.frame.now.fine.good s.args.z s.requires.fact_1)
          (c.product_above-s.ensures ∙ ap₂ (λ (x y : Range). held_span (product_span x y)) c.range_at-p.ensures.is c.range_at-q.ensures.is);
    }
