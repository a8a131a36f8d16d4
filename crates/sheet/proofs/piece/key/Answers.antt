-- The key of the whole is what the bytes to come make of the key of those before; i bytes make less than 256 to the i.
use Prim.Native.Nat.{ℕ, ◌+◌, ◌*◌, ◌^◌, ◌<◌}
use mathlib.Core.Path.{sym, ◌∙◌, ap}
use native.Mathlib.Nat.{lt_of_lt_of_le}
use native.Mathlib.Omega.{arith}
use lib.Dec.{lit<}
use lib.ListN.{drop}
use Rattle.sheet.specs.Tokens.{key_of}
use Rattle.sheet.proofs.Words.{key_more, key_none, room, room_top}
use Rattle.sheet.proofs.piece.key.Goals as goal

more : (c : goal.After-from) → c.loop-b.k * 256 + c.from.result < 256 ^ (c.loop-b.b-index + 1)
more c =
    let b : c.from.result < 256 = omega (arith, c.from.ensures, (c.type_inv.w c.loop-b.b-index).fits) in
    room c.loop-b.k c.loop-b.b-index c.from.result c.loop-b.invariant.0 b

pub overflow_mul-k : goal.overflow_mul-k
overflow_mul-k c =
    let h = room c.loop-b.k c.loop-b.b-index 0 c.loop-b.invariant.0 (lit< tt) in
    let g = room_top c.loop-b.b-index (omega arith) in
    record { fits = omega arith }

pub overflow_add-k : goal.overflow_add-k
overflow_add-k c = record { fits = lt_of_lt_of_le (more c) (room_top c.loop-b.b-index (omega arith)) }

pub loop-b-preserved : goal.loop-b-preserved
loop-b-preserved c =
    let w = c.args.w.now in
    let s = c.loop-b in
    (more c, s.invariant.1 ∙ key_more w s.b-index s.k c.loop-b-test.true ∙ ap (λ (n : ℕ). key_of (s.k * 256 + n) (drop (s.b-index + 1) w)) (sym c.from.ensures))

pub returns : goal.returns
returns c =
    let s = c.loop-b in
    sym (s.invariant.1 ∙ key_none c.args.w.now s.b-index s.k c.loop-b-test.false)
