-- Each ground is one test, and past them the range and the name are put behind those before.
use mathlib.Core.Path.{refl}
use Rattle.lines.proofs.RangeLineCode.{order_told, declare_late, declare_twice, declare_order, declare_many, declare_next}
use Rattle.lines.proofs.line.declare.Goals as goal

pub returns-then-done : goal.returns-then-done
returns-then-done c version = declare_late version _ _ _ _ _ _ _ _ _ _ _ c.if-done.true

pub returns-then-place_of-count : goal.returns-then-place_of-count
returns-then-place_of-count c version = declare_twice version _ _ _ _ _ _ _ _ _ _ _ c.if-done.false (rw c.place_of.ensures at c.if-place_of-count.true)

pub returns-then-high-low : goal.returns-then-high-low
returns-then-high-low c version = declare_order version _ _ _ _ _ _ _ _ _ _ _ c.if-done.false (rw c.place_of.ensures at c.if-place_of-count.false) (order_told c.requires.near_1 c.requires.near_2 c.if-high-low.true)

pub returns-then-quantity-ge-MOST : goal.returns-then-quantity-ge-MOST
returns-then-quantity-ge-MOST c version = declare_many version _ _ _ _ _ _ _ _ _ _ _ c.if-done.false (rw c.place_of.ensures at c.if-place_of-count.false) (order_told c.requires.near_1 c.requires.near_2 c.if-high-low.false) c.if-quantity-ge-MOST.true

pub returns : goal.returns
returns c version = declare_next version _ _ _ _ _ _ _ _ _ _ _ c.if-done.false (rw c.place_of.ensures at c.if-place_of-count.false) (order_told c.requires.near_1 c.requires.near_2 c.if-high-low.false) c.requires.near_1 c.requires.near_2 c.requires.declares_in c.if-quantity-ge-MOST.false c.put_range.ensures refl
