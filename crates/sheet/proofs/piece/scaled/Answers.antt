-- v is at most the quotient exactly if v times the unit is at most M.
use mathlib.Core.Path.{sym}
use native.Mathlib.Nat.{lt_of_le_of_lt}
use lib.Dec.{lit<}
use Rattle.sheet.proofs.Digits.{limited_fits, limited_big, times_fits, times_big}
use Rattle.sheet.proofs.piece.scaled.Goals as goal

pub overflow_mul-result : goal.overflow_mul-result
overflow_mul-result c = record { fits = lt_of_le_of_lt (times_fits c.args.v c.args.u 1_000_000_000_000 c.requires c.if-v-u.true) (lit< tt) }

pub returns-then-v-u : goal.returns-then-v-u
returns-then-v-u c = sym (limited_fits _ (times_fits c.args.v c.args.u 1_000_000_000_000 c.requires c.if-v-u.true))

pub returns-else-v-u : goal.returns-else-v-u
returns-else-v-u c = sym (limited_big _ (times_big c.args.v c.args.u 1_000_000_000_000 c.requires c.if-v-u.false))
