-- The loop keeps `Held`: each way round is one law of Held.antt or Searching.antt, and each return is `ends` of Searching.antt.
use mathlib.Core.Path.{refl}
use native.Mathlib.Omega.{arith}
use Rattle.search.proofs.Held.{here_part, stopped_is, put_rest, none_is, held_one, held_changed, held_taken}
use Rattle.search.proofs.Searching.{part_fine, part_placed, frame, begins, found_here, next_here, splits_here, split_here, ends}
use Rattle.search.proofs.search.Goals as goal

pub loop-left-init : goal.loop-left-init
loop-left-init c = (begins c.requires _ c.copy.ensures _, refl, omega arith)

pub returns-then-left-eq0 : goal.returns-then-left-eq0
returns-then-left-eq0 c =
    let h = c.loop-left.invariant.0 in
    ends c.requires _ c.copy.ensures _ _ _ _ _ h.rest (stopped_is (frame c.requires _ c.copy.ensures) h c.if-left-eq0.true) c.after.ensures c.lows_to.ensures

pub sweep-requires : goal.sweep-requires
sweep-requires c =
    let p = here_part (frame c.requires _ c.copy.ensures) c.loop-left.invariant.0 in
    record { fact_1 = part_fine p c.requires.started; fact_2 = part_placed p c.requires.placed }

pub returns-then-waiting-eq0 : goal.returns-then-waiting-eq0
returns-then-waiting-eq0 c =
    let f = frame c.requires _ c.copy.ensures in
    let h = held_one c.if-left-eq0.false c.loop-left.invariant.0 in
    ends c.requires _ c.copy.ensures _ _ _ _ _ (put_rest f h _ c.sweep.auto.b) (none_is f h c.if-waiting-eq0.true c.in-Empty.ensures.says)
    c.after-then-waiting-eq0.ensures c.loop-left.invariant.1

pub loop-left-preserved-in-Empty : goal.loop-left-preserved-in-Empty
loop-left-preserved-in-Empty c = (
  held_taken (frame c.requires _ c.copy.ensures) (held_one c.if-left-eq0.false c.loop-left.invariant.0) _ c.sweep.auto.b c.if-waiting-eq0.false c.in-Empty.ensures.says,
  c.loop-left.invariant.1,
  omega arith,
)

pub loop-left-preserved-in-Changed : goal.loop-left-preserved-in-Changed
loop-left-preserved-in-Changed c = (
  held_changed (frame c.requires _ c.copy.ensures) (held_one c.if-left-eq0.false c.loop-left.invariant.0) _ c.sweep.auto.b c.in-Changed.ensures.says,
  c.loop-left.invariant.1,
  omega arith,
)

pub returns-in_default : goal.returns-in_default
returns-in_default c =
    let h = held_one c.if-left-eq0.false c.loop-left.invariant.0 in
    ends c.requires _ c.copy.ensures _ _ _ _ _ (put_rest (frame c.requires _ c.copy.ensures) h _ c.sweep.auto.b)
    (found_here c.requires _ c.copy.ensures h _ c.sweep.auto.b c.in-Same.ensures.says c.in_default.ensures) c.after-in_default.ensures c.lows_to-in_default.ensures

pub slice_bounds-split-end : goal.slice_bounds-split-end
slice_bounds-split-end c =
    next_here c.requires _ c.copy.ensures (held_one c.if-left-eq0.false c.loop-left.invariant.0) _ c.sweep.auto.b c.in-Same.ensures.says c.in-Some.ensures

pub split-requires : goal.split-requires
split-requires c =
    splits_here c.requires _ c.copy.ensures (held_one c.if-left-eq0.false c.loop-left.invariant.0) _ c.sweep.auto.b c.in-Same.ensures.says c.in-Some.ensures

pub loop-left-preserved : goal.loop-left-preserved
loop-left-preserved c = (
  split_here c.requires _ c.copy.ensures (held_one c.if-left-eq0.false c.loop-left.invariant.0) _ c.sweep.auto.b c.in-Same.ensures.says c.in-Some.ensures c.split.ensures,
  c.loop-left.invariant.1,
  omega arith,
)
