-- The cycle meets its contracts: each makes what its parts make.
use mathlib.Core.Path.{◌≡◌, sym, ◌∙◌, ap}
use native.Mathlib.Omega.{arith}
use lib.ListN.{length}
use Rattle.std.proofs.Common.{rules, ◌⊎◌}
use Rattle.sheet.specs.inner.Steps.{tokens_from}
use Rattle.sheet.specs.declared.Mark.TheVariants.{Open, Close, Plus, Minus, Times, Square}
use Rattle.sheet.specs.declared.Token.TheVariants.{Fixed}
use Rattle.sheet.proofs.Heads.{mark_above}
use Rattle.lines.proofs.FirstTokens.{longer, head_is, head_not, no_atom, sum_mark, number_small}
use Rattle.lines.proofs.ExpressionCode.{sum_turn, prod_turn, expr_no, expr_on, sum_end, sum_no, term_no, term_on, prod_end, prod_no, factor_no, factor_square, factor_bare, atom_number, atom_name, atom_none, atom_unread, atom_unclosed, atom_close}
use Rattle.lines.proofs.expression.+atom_expr_factor_term.Goals as goal

pub atom-constant-requires : goal.atom-constant-requires
atom-constant-requires t c = number_small c.args.line.now c.args.at _ _ c.next-step.ensures.0 c.in-Number.is

pub atom-returns-in-Number : goal.atom-returns-in-Number
atom-returns-in-Number t c =
    let s = c in
    atom_number s.args.keys.now s.args.line.now s.args.at s.args.making s.args.equations.now.ranges s.args.equations.now.primitives _ _ _ _ _ (sym c.next-step.ensures.0 ∙ c.in-Number.is) c.next-step.ensures.1 (c.constant.ensures (length s.args.keys.now))

pub atom-returns-in-Name : goal.atom-returns-in-Name
atom-returns-in-Name t c =
    let s = c in
    atom_name s.args.keys.now s.args.line.now s.args.at s.args.making s.args.equations.now.ranges s.args.equations.now.primitives _ _ _ _ _ (sym c.next-step.ensures.0 ∙ c.in-Name.is) c.next-step.ensures.1 c.named.ensures

pub atom-returns-in_default : goal.atom-returns-in_default
atom-returns-in_default t c =
    let s = c in
    atom_none s.args.keys.now s.args.line.now s.args.at s.args.making s.args.equations.now.ranges s.args.equations.now.primitives (no_atom (tokens_from s.args.line.now s.args.at) c.next-step.result.token c.next-step.ensures.0 (search rules) (search rules) (search rules))

pub atom-returns-in_default-2 : goal.atom-returns-in_default-2
atom-returns-in_default-2 t c =
    let s = c in
    atom_none s.args.keys.now s.args.line.now s.args.at s.args.making s.args.equations.now.ranges s.args.equations.now.primitives (no_atom (tokens_from s.args.line.now s.args.at) c.next-step.result.token c.next-step.ensures.0 (search rules) (search rules) (search rules))

pub atom-returns-in_err-inside-in-Fixed-Open : goal.atom-returns-in_err-inside-in-Fixed-Open
atom-returns-in_err-inside-in-Fixed-Open t c =
    let s = c in
    let opened : c.next-step.result.token ≡ Fixed Open = search rules in
    rw c.from_residual.ensures (atom_unread s.args.keys.now s.args.line.now s.args.at s.args.making s.args.equations.now.ranges s.args.equations.now.primitives _ _ _ (head_is (tokens_from s.args.line.now s.args.at) _ c.next-step.ensures.0 (Fixed Open) opened) c.next-step.ensures.1 (rw c.in_err-inside-in-Fixed-Open.was at c.expr.ensures))

pub atom-returns-then-ne : goal.atom-returns-then-ne
atom-returns-then-ne t c =
    let s = c in
    let x = c.in_ok-inside-in-Fixed-Open.inside in
    let opened : c.next-step.result.token ≡ Fixed Open = search rules in
    let other : c.next-close.result.token ≡ Fixed Close → ⊥ = search rules in
    atom_unclosed s.args.keys.now s.args.line.now s.args.at s.args.making s.args.equations.now.ranges s.args.equations.now.primitives _ _ _ (head_is (tokens_from s.args.line.now s.args.at) _ c.next-step.ensures.0 (Fixed Open) opened) c.next-step.ensures.1 x.next x.emitted (rw c.in_ok-inside-in-Fixed-Open.was at c.expr.ensures) (head_not (tokens_from s.args.line.now x.next) _ c.next-close.ensures.0 Close other)

pub atom-returns-else-ne : goal.atom-returns-else-ne
atom-returns-else-ne t c =
    let s = c in
    let x = c.in_ok-inside-in-Fixed-Open.inside in
    let opened : c.next-step.result.token ≡ Fixed Open = search rules in
    let closed : c.next-close.result.token ≡ Fixed Close = search rules in
    atom_close s.args.keys.now s.args.line.now s.args.at s.args.making s.args.equations.now.ranges s.args.equations.now.primitives _ _ _ (head_is (tokens_from s.args.line.now s.args.at) _ c.next-step.ensures.0 (Fixed Open) opened) c.next-step.ensures.1 x.next _ x.emitted (rw c.in_ok-inside-in-Fixed-Open.was at c.expr.ensures) (head_is (tokens_from s.args.line.now x.next) _ c.next-close.ensures.0 (Fixed Close) closed) c.next-close.ensures.1

pub expr-returns-in_err-left : goal.expr-returns-in_err-left
expr-returns-in_err-left t c =
    let s = c in
    rw c.from_residual.ensures (expr_no s.args.keys.now s.args.line.now s.args.at s.args.making s.args.equations.now.ranges s.args.equations.now.primitives _ _ (rw c.in_err-left.was at c.term.ensures))

pub expr-returns-in_default : goal.expr-returns-in_default
expr-returns-in_default t c =
    let s = c in
    let l = c.loop-mark in
    let ts = tokens_from s.args.line.now l.left.next in
    expr_on s.args.keys.now s.args.line.now s.args.at s.args.making s.args.equations.now.ranges s.args.equations.now.primitives _ _ _ _ _ _ _ (rw c.in_ok-left.was at c.term.ensures)
    (l.invariant.on _ _ _ (sum_end s.args.keys.now s.args.line.now l.left.next l.left.emitted l.equations.ranges l.equations.primitives l.invariant.good (head_not ts _ c.next-step.ensures.0 Plus (c.in_default.not-Fixed Plus)) (head_not ts _ c.next-step.ensures.0 Minus (c.in_default.not-Fixed Minus))))

pub expr-returns-then-ne-2 : goal.expr-returns-then-ne-2
expr-returns-then-ne-2 t c =
    let s = c in
    let l = c.loop-mark in
    let ts = tokens_from s.args.line.now l.left.next in
    let plus : c.next-step.result.token ≡ Fixed Plus → ⊥ = search rules in
    let minus : c.next-step.result.token ≡ Fixed Minus → ⊥ = search rules in
    expr_on s.args.keys.now s.args.line.now s.args.at s.args.making s.args.equations.now.ranges s.args.equations.now.primitives _ _ _ _ _ _ _ (rw c.in_ok-left.was at c.term.ensures)
    (l.invariant.on _ _ _ (sum_end s.args.keys.now s.args.line.now l.left.next l.left.emitted l.equations.ranges l.equations.primitives l.invariant.good (head_not ts _ c.next-step.ensures.0 Plus plus) (head_not ts _ c.next-step.ensures.0 Minus minus)))

pub expr-returns-in_err-right : goal.expr-returns-in_err-right
expr-returns-in_err-right t c =
    let s = c in
    let l = c.loop-mark in
    let ts = tokens_from s.args.line.now l.left.next in
    let b : (c.in-Fixed.mark ≡ Plus) ⊎ (c.in-Fixed.mark ≡ Minus) = search rules in
    let n = head_is ts _ c.next-step.ensures.0 (Fixed c.in-Fixed.mark) c.in-Fixed.is in
    let w = sum_mark c.in-Fixed.mark b in
    rw c.from_residual-in_err-right.ensures
    (expr_on s.args.keys.now s.args.line.now s.args.at s.args.making s.args.equations.now.ranges s.args.equations.now.primitives _ _ _ _ _ _ _ (rw c.in_ok-left.was at c.term.ensures)
    (l.invariant.on _ _ _ (sum_no s.args.keys.now s.args.line.now l.left.next l.left.emitted l.equations.ranges l.equations.primitives _ _ _ c.next-step.ensures.1 (omega arith) (omega arith) (rw c.in_err-right.was at c.term-in-loop-mark.ensures))))

pub expr-loop-mark-smaller : goal.expr-loop-mark-smaller
expr-loop-mark-smaller t c =
    let s = c in
    let l = c.loop-mark in
    let ts = tokens_from s.args.line.now l.left.next in
    let n = head_is ts _ c.next-step.ensures.0 (Fixed c.in-Fixed.mark) c.in-Fixed.is in
    let some = mark_above c.in-Fixed.mark in
    let len = longer ts (omega arith) in
    let len2 = ap length c.next-step.ensures.1 in
    let f = c.term-in-loop-mark.ensures.falls _ c.in_ok-right.was in
    omega arith

pub expr-loop-mark-preserved : goal.expr-loop-mark-preserved
expr-loop-mark-preserved t c =
    let s = c in
    let l = c.loop-mark in
    let ts = tokens_from s.args.line.now l.left.next in
    let b : (c.in-Fixed.mark ≡ Plus) ⊎ (c.in-Fixed.mark ≡ Minus) = search rules in
    let n = head_is ts _ c.next-step.ensures.0 (Fixed c.in-Fixed.mark) c.in-Fixed.is in
    let w = sum_mark c.in-Fixed.mark b in
    sum_turn s.args.keys.now s.args.line.now l.left.next l.left.emitted l.equations.ranges l.equations.primitives _ _ _ _ _ _ _ _ c.next-step.ensures.1 l.invariant _ (sym n) w.0 w.1 (rw c.in_ok-right.was at c.term-in-loop-mark.ensures) c.added.ensures

pub factor-returns-in_err-base : goal.factor-returns-in_err-base
factor-returns-in_err-base t c =
    let s = c in
    rw c.from_residual.ensures (factor_no s.args.keys.now s.args.line.now s.args.at s.args.making s.args.equations.now.ranges s.args.equations.now.primitives _ _ (rw c.in_err-base.was at c.atom.ensures))

pub factor-returns-then-ne : goal.factor-returns-then-ne
factor-returns-then-ne t c =
    let s = c in
    let x = c.in_ok-base.base in
    let other : c.next-step.result.token ≡ Fixed Square → ⊥ = search rules in
    factor_bare s.args.keys.now s.args.line.now s.args.at s.args.making s.args.equations.now.ranges s.args.equations.now.primitives x.next x.emitted _ _ (rw c.in_ok-base.was at c.atom.ensures) (head_not (tokens_from s.args.line.now x.next) _ c.next-step.ensures.0 Square other)

pub factor-returns : goal.factor-returns
factor-returns t c =
    let s = c in
    let x = c.in_ok-base.base in
    let mark : c.next-step.result.token ≡ Fixed Square = search rules in
    factor_square s.args.keys.now s.args.line.now s.args.at s.args.making s.args.equations.now.ranges s.args.equations.now.primitives x.next x.emitted _ _ _ _ _ _ (rw c.in_ok-base.was at c.atom.ensures) (head_is (tokens_from s.args.line.now x.next) _ c.next-step.ensures.0 (Fixed Square) mark) c.next-step.ensures.1 c.squared.ensures

pub term-returns-in_err-left : goal.term-returns-in_err-left
term-returns-in_err-left t c =
    let s = c in
    rw c.from_residual.ensures (term_no s.args.keys.now s.args.line.now s.args.at s.args.making s.args.equations.now.ranges s.args.equations.now.primitives _ _ (rw c.in_err-left.was at c.factor.ensures))

pub term-returns-then-ne : goal.term-returns-then-ne
term-returns-then-ne t c =
    let s = c in
    let l = c.loop-step in
    let other : c.next-step.result.token ≡ Fixed Times → ⊥ = search rules in
    term_on s.args.keys.now s.args.line.now s.args.at s.args.making s.args.equations.now.ranges s.args.equations.now.primitives _ _ _ _ _ _ _ (rw c.in_ok-left.was at c.factor.ensures)
    (l.invariant.on _ _ _ (prod_end s.args.keys.now s.args.line.now l.left.next l.left.emitted l.equations.ranges l.equations.primitives l.invariant.good (head_not (tokens_from s.args.line.now l.left.next) _ c.next-step.ensures.0 Times other)))

pub term-returns-in_err-right : goal.term-returns-in_err-right
term-returns-in_err-right t c =
    let s = c in
    let l = c.loop-step in
    let mark : c.next-step.result.token ≡ Fixed Times = search rules in
    rw c.from_residual-in_err-right.ensures
    (term_on s.args.keys.now s.args.line.now s.args.at s.args.making s.args.equations.now.ranges s.args.equations.now.primitives _ _ _ _ _ _ _ (rw c.in_ok-left.was at c.factor.ensures)
    (l.invariant.on _ _ _ (prod_no s.args.keys.now s.args.line.now l.left.next l.left.emitted l.equations.ranges l.equations.primitives _ _ _ c.next-step.ensures.1 (head_is (tokens_from s.args.line.now l.left.next) _ c.next-step.ensures.0 (Fixed Times) mark) (rw c.in_err-right.was at c.factor-in-loop-step.ensures))))

pub term-loop-step-smaller : goal.term-loop-step-smaller
term-loop-step-smaller t c =
    let s = c in
    let l = c.loop-step in
    let ts = tokens_from s.args.line.now l.left.next in
    let mark : c.next-step.result.token ≡ Fixed Times = search rules in
    let n = head_is ts _ c.next-step.ensures.0 (Fixed Times) mark in
    let len = longer ts (omega arith) in
    let len2 = ap length c.next-step.ensures.1 in
    let f = c.factor-in-loop-step.ensures.falls _ c.in_ok-right.was in
    omega arith

pub term-loop-step-preserved : goal.term-loop-step-preserved
term-loop-step-preserved t c =
    let s = c in
    let l = c.loop-step in
    let mark : c.next-step.result.token ≡ Fixed Times = search rules in
    prod_turn s.args.keys.now s.args.line.now l.left.next l.left.emitted l.equations.ranges l.equations.primitives _ _ _ _ _ _ _ _ c.next-step.ensures.1 l.invariant (head_is (tokens_from s.args.line.now l.left.next) _ c.next-step.ensures.0 (Fixed Times) mark) (rw c.in_ok-right.was at c.factor-in-loop-step.ensures) c.product.ensures
