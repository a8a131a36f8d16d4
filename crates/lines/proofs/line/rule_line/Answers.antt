-- Each way out is one law of RuleLineCode.antt: the tokens are no rule, a flag tells a ground, or the lists hold the sheet with the rule.
use mathlib.Core.Path.{◌≡◌, refl}
use native.Mathlib.Omega.{arith}
use Rattle.std.specs.Prelude.{Some}
use Prim.Native.Nat.{◌+◌, ◌*◌, ◌≤◌}
use native.Mathlib.Nat.{le_refl}
use lib.ListN.{length}
use Rattle.sheet.specs.inner.Steps.{tokens_from}
use Rattle.lines.proofs.RuleLineCode.{rule_names, rule_equalities, rule_beyond, rule_many, rule_room, rule_next}
use Rattle.lines.proofs.line.rule_line.Goals as goal

pub returns-then-making : goal.returns-then-making
returns-then-making c = λ version n l.
    let s = c in
    let read : c.read_part.result ≡ Some c.in_ok-tally.tally = grind arith in
    rule_names version s.args.conditional (tokens_from s.args.line.now s.args.at) s.args.done s.args.lists.now.equations.ranges s.args.lists.now.equations.primitives s.args.lists.now.lengths s.args.lists.now.literals s.args.lists.now.keys _ s.requires.full refl c.in_ok-tally.tally _ _ _ _ (rw read at c.read_part.ensures) n l _ _ _ _ _ c.if-making.true

pub returns-then-tally-gt1 : goal.returns-then-tally-gt1
returns-then-tally-gt1 c = λ version n l.
    let s = c in
    let read : c.read_part.result ≡ Some c.in_ok-tally.tally = grind arith in
    rule_equalities version s.args.conditional (tokens_from s.args.line.now s.args.at) s.args.done s.args.lists.now.equations.ranges s.args.lists.now.equations.primitives s.args.lists.now.lengths s.args.lists.now.literals s.args.lists.now.keys _ s.requires.full refl c.in_ok-tally.tally _ _ _ _ (rw read at c.read_part.ensures) n l c.if-making.false _ _ _ _ _ c.if-tally-gt1.true

pub returns-then-making-2 : goal.returns-then-making-2
returns-then-making-2 c = λ version n l.
    let s = c in
    let read : c.read_part.result ≡ Some c.in_ok-tally.tally = grind arith in
    rule_beyond version s.args.conditional (tokens_from s.args.line.now s.args.at) s.args.done s.args.lists.now.equations.ranges s.args.lists.now.equations.primitives s.args.lists.now.lengths s.args.lists.now.literals s.args.lists.now.keys _ s.requires.full refl c.in_ok-tally.tally _ _ _ _ (rw read at c.read_part.ensures) n l c.if-making.false c.if-tally-gt1.false _ _ _ _ _ c.if-making-2.true

pub returns-then-making-gt-MOST : goal.returns-then-making-gt-MOST
returns-then-making-gt-MOST c = λ version n l.
    let s = c in
    let read : c.read_part.result ≡ Some c.in_ok-tally.tally = grind arith in
    rule_many version s.args.conditional (tokens_from s.args.line.now s.args.at) s.args.done s.args.lists.now.equations.ranges s.args.lists.now.equations.primitives s.args.lists.now.lengths s.args.lists.now.literals s.args.lists.now.keys _ s.requires.full refl c.in_ok-tally.tally _ _ _ _ (rw read at c.read_part.ensures) n l c.if-making.false c.if-tally-gt1.false c.if-making-2.false _ _ _ _ _ c.if-making-gt-MOST.true

pub append-requires : goal.append-requires
append-requires c =
    let s = c in
    let read : c.read_part.result ≡ Some c.in_ok-tally.tally = grind arith in
    let n = 8 * length (tokens_from s.args.line.now s.args.at) + 8 in
    let l : n ≤ n = le_refl n in
    rule_room 1 s.args.conditional (tokens_from s.args.line.now s.args.at) s.args.done s.args.lists.now.equations.ranges s.args.lists.now.equations.primitives s.args.lists.now.lengths s.args.lists.now.literals s.args.lists.now.keys _ s.requires.full refl c.in_ok-tally.tally _ _ _ _ (rw read at c.read_part.ensures) n l c.if-making.false c.if-tally-gt1.false c.if-making-2.false c.if-making-gt-MOST.false c.read_part.auto.firsts s.requires.draft s.requires.stored s.requires.proper c.read_part.auto.seconds

pub returns : goal.returns
returns c = λ version n l.
    let s = c in
    let read : c.read_part.result ≡ Some c.in_ok-tally.tally = grind arith in
    rule_next version s.args.conditional (tokens_from s.args.line.now s.args.at) s.args.done s.args.lists.now.equations.ranges s.args.lists.now.equations.primitives s.args.lists.now.lengths s.args.lists.now.literals s.args.lists.now.keys _ s.requires.full refl c.in_ok-tally.tally _ _ _ _ (rw read at c.read_part.ensures) n l c.if-making.false c.if-tally-gt1.false c.if-making-2.false c.if-making-gt-MOST.false c.read_part.auto.firsts _ _ c.append.result c.append.ensures
