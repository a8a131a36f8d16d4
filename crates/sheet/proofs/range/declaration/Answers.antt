-- Each return is one law of Declarations.antt, with the tokens as the steps found them.
use mathlib.Core.Path.{◌∙◌}
use Rattle.whole.proofs.Kit.{got}
use Rattle.sheet.specs.inner.Steps.{tokens_from}
use Rattle.sheet.proofs.Steps.{none_at, some_left}
use Rattle.sheet.proofs.Contents.{proper_at}
use Rattle.sheet.proofs.Declarations.{not_name, declares_none, declares_plain, declares_low, declares_high, declares_more, declares_range, signed_fits}
use Rattle.sheet.proofs.range.declaration.Goals as goal

pub returns-in_default : goal.returns-in_default
returns-in_default c =
    let l = c.args.line.now in
    let ts = tokens_from l c.args.at in
    declares_none ts _ c.next-first.ensures.0 (not_name c.next-first.result.token c.in_default.not-Name)

pub returns-then-line-first : goal.returns-then-line-first
returns-then-line-first c =
    let l = c.args.line.now in
    let ts = tokens_from l c.args.at in
    declares_plain ts _ _ _ c.next-first.ensures.0 c.in-Name.is c.next-first.ensures.1 (none_at l _ c.if-line-first.true)

pub returns-then-third-line : goal.returns-then-third-line
returns-then-third-line c =
    let l = c.args.line.now in
    let ts = tokens_from l c.args.at in
    declares_more ts _ _ _ c.next-first.ensures.1 c.next-second.ensures.1 c.next-third.ensures.1 (some_left l _ c.if-third-line.true)

pub signed-requires : goal.signed-requires
signed-requires c = proper_at c.args.line.now _ _ c.next-second.ensures.0

pub returns-in_err-low : goal.returns-in_err-low
returns-in_err-low c =
    let l = c.args.line.now in
    let ts = tokens_from l c.args.at in
    c.from_residual.ensures ∙ declares_low ts _ _ c.next-first.ensures.1 c.next-second.ensures.0 (some_left l _ c.if-line-first.false) c.in_err-low.ensures

pub signed-requires-2 : goal.signed-requires-2
signed-requires-2 c = proper_at c.args.line.now _ _ c.next-third.ensures.0

pub returns-in_err-high : goal.returns-in_err-high
returns-in_err-high c =
    let l = c.args.line.now in
    let ts = tokens_from l c.args.at in
    c.from_residual-in_err-high.ensures
    ∙ declares_high ts _ _ _ c.next-first.ensures.1 c.next-second.ensures.1 c.next-third.ensures.0 (some_left l _ c.if-line-first.false) c.in_err-high.ensures

pub returns : goal.returns
returns c =
    let l = c.args.line.now in
    let ts = tokens_from l c.args.at in
    let low = c.in_ok-low.ensures in
    let high = c.in_ok-high.ensures in
    let low-fits = signed_fits _ (proper_at l _ _ c.next-second.ensures.0) in
    let high-fits = signed_fits _ (proper_at l _ _ c.next-third.ensures.0) in
    declares_range ts _ _ _ _ _ _ _ _ _ c.next-first.ensures.0 c.in-Name.is c.next-first.ensures.1 c.next-second.ensures.0 c.next-second.ensures.1 c.next-third.ensures.0 c.next-third.ensures.1
    (none_at l _ c.if-third-line.false) low.0 high.0 (rw low.1 (got _ low-fits)) (rw high.1 (got _ high-fits))
