-- `narrow::frame::Frame::cut` meets its contract: the ends that it compares are those of what the two ranges have in common, and its tests are those of `cut_to`.
use mathlib.Core.Path.{refl}
use Rattle.narrow.proofs.Cutting.{cut_empty, cut_low, cut_high, cut_neither}
use Rattle.whole.proofs.Kit.{ints}
use Rattle.narrow.proofs.frame.Frame.cut.Goals as goal

pub returns-then-high-low : goal.returns-then-high-low
returns-then-high-low c =
    let a = c.args in
    let low = c.max-low in
    let high = c.min-high in
    record { kept = record { name = refl; size = refl }; done = cut_empty a.q a.s a.changed a.self.now.ends.now a.self.now.fine c.requires c.range_at-old.ensures (omega ints) (omega ints) low.type_inv low.ensures.value high.type_inv high.ensures.value (omega ints) }

pub put-requires-clause-fact_2 : goal.put-requires-clause-fact_2
put-requires-clause-fact_2 c =
    let a = c.args in
    let low = c.max-low in
    let high = c.min-high in
    (cut_low a.q a.s a.changed a.self.now.ends.now a.self.now.fine c.requires c.range_at-old.ensures (omega ints) (omega ints) low.type_inv low.ensures.value high.type_inv high.ensures.value (omega ints) (omega ints) _ refl).fine

pub returns-then-old-low : goal.returns-then-old-low
returns-then-old-low c =
    let a = c.args in
    let low = c.max-low in
    let high = c.min-high in
    record { kept = c.put.ensures.kept; done = cut_low a.q a.s a.changed a.self.now.ends.now a.self.now.fine c.requires c.range_at-old.ensures (omega ints) (omega ints) low.type_inv low.ensures.value high.type_inv high.ensures.value (omega ints) (omega ints) _ c.put.ensures.value }

pub put-requires-then-high-old-clause-fact_2 : goal.put-requires-then-high-old-clause-fact_2
put-requires-then-high-old-clause-fact_2 c =
    let a = c.args in
    let low = c.max-low in
    let high = c.min-high in
    (cut_high a.q a.s a.changed a.self.now.ends.now a.self.now.fine c.requires c.range_at-old.ensures (omega ints) (omega ints) low.type_inv low.ensures.value high.type_inv high.ensures.value (omega ints) (omega ints) (omega ints) _ refl).fine

pub returns-then-high-old : goal.returns-then-high-old
returns-then-high-old c =
    let a = c.args in
    let low = c.max-low in
    let high = c.min-high in
    record { kept = c.put-then-high-old.ensures.kept; done = cut_high a.q a.s a.changed a.self.now.ends.now a.self.now.fine c.requires c.range_at-old.ensures (omega ints) (omega ints) low.type_inv low.ensures.value high.type_inv high.ensures.value (omega ints) (omega ints) (omega ints) _ c.put-then-high-old.ensures.value }

pub returns : goal.returns
returns c =
    let a = c.args in
    let low = c.max-low in
    let high = c.min-high in
    record { kept = record { name = refl; size = refl }; done = cut_neither a.q a.s a.changed a.self.now.ends.now a.self.now.fine c.requires c.range_at-old.ensures (omega ints) (omega ints) low.type_inv low.ensures.value high.type_inv high.ensures.value (omega ints) (omega ints) (omega ints) }
