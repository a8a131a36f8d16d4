-- What is asked of the whole line is asked of the tokens behind the pieces so far, with what was opened and closed at those.
use mathlib.Core.Path.{◌≡◌, sym, ◌∙◌, ap}
use Prim.Native.Nat.{ℕ}
use lib.Dec.{eqb}
use lib.ListN.{length}
use native.Mathlib.Omega.{arith}
use borrow.Author.Tests.{tests}
use Rattle.std.proofs.Common.{rules}
use Rattle.std.proofs.lemmas.List.{length_push}
use Rattle.std.proofs.lemmas.Iterator.Splits.{YieldsList-from_slice_split}
use Rattle.std.proofs.lemmas.Iterator.Consumers.{YieldsList-at, YieldsList-turn, YieldsList-end}
use Rattle.sheet.specs.Tokens.{tokens_of}
use Rattle.sheet.specs.Depth.{opens_of, closes_of}
use Rattle.sheet.proofs.Depths.{one_or_none, piece_token, pieces_end, deep_end, deep_over, deep_under}
use Rattle.sheet.proofs.depth.deep.Goals as goal

pub returns-then-closed-opened : goal.returns-then-closed-opened
returns-then-closed-opened c =
    let l = c.args.line.now in
    let k = c.loop-piece in
    let e = c.split-piece-items.ensures in
    let t = YieldsList-turn
    (YieldsList-at c.into_iter-piece-iterator.ensures.into_iter_gives
    (YieldsList-from_slice_split _ (λ (b : ℕ). eqb b 32) l e.rest e.done e.closure (λ x b q k. search (rules, tests))))
    k.yielded _ k.yielded_by _ _ c.in-Some.piece c.in-Some.is c.next.ensures.steps in
    let opened : c.from-opened.result ≡ opens_of c.read-token.result = search rules in
    let closed : c.from-closed.result ≡ closes_of c.read-token.result = search rules in
    let at = piece_token l (length k.yielded) c.in-Some.piece.now t in
    sym (k.invariant.4 ∙ deep_over (tokens_of l) (length k.yielded) k.opened k.closed _ _ _ at (opened ∙ ap opens_of c.read-token.ensures) (closed ∙ ap closes_of c.read-token.ensures) c.if-closed-opened.true)

pub loop-piece-preserved : goal.loop-piece-preserved
loop-piece-preserved c =
    let l = c.args.line.now in
    let k = c.loop-piece in
    let e = c.split-piece-items.ensures in
    let t = YieldsList-turn
    (YieldsList-at c.into_iter-piece-iterator.ensures.into_iter_gives
    (YieldsList-from_slice_split _ (λ (b : ℕ). eqb b 32) l e.rest e.done e.closure (λ x b q k. search (rules, tests))))
    k.yielded _ k.yielded_by _ _ c.in-Some.piece c.in-Some.is c.next.ensures.steps in
    let opened : c.from-opened.result ≡ opens_of c.read-token.result = search rules in
    let closed : c.from-closed.result ≡ closes_of c.read-token.result = search rules in
    let n = length_push k.yielded c.in-Some.piece in
    let at = piece_token l (length k.yielded) c.in-Some.piece.now t in
    let under = deep_under (tokens_of l) (length k.yielded) k.opened k.closed _ _ _ at (opened ∙ ap opens_of c.read-token.ensures) (closed ∙ ap closes_of c.read-token.ensures) c.if-closed-opened.false in
    (search rules, tt, omega (arith, n, one_or_none c.eq.result), omega (arith, n, one_or_none c.eq-in-loop-piece.result), rw n (k.invariant.4 ∙ under))

pub returns : goal.returns
returns c =
    let l = c.args.line.now in
    let k = c.loop-piece in
    let e = c.split-piece-items.ensures in
    let t = YieldsList-end
    (YieldsList-at c.into_iter-piece-iterator.ensures.into_iter_gives
    (YieldsList-from_slice_split _ (λ (b : ℕ). eqb b 32) l e.rest e.done e.closure (λ x b q k. search (rules, tests))))
    k.yielded _ k.yielded_by _ _ c.in-None.is c.next.ensures.steps in
    sym (k.invariant.4 ∙ deep_end (tokens_of l) (length k.yielded) k.opened k.closed (pieces_end l (length k.yielded) t.1))
