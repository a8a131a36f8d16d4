-- The walk through the lines keeps `Walking`: a line without a fault is one step, a fault decides, and past the last line the sheet held is the outcome.
use Rattle.std.proofs.Common.{rules, tests, ℕ, eqb}
use mathlib.Core.Path.{refl}
use Rattle.translate.proofs.EndedLines.{always, ended}
use Rattle.translate.proofs.WalkCode.{walk_start, walk_done, walk_decides, walk_holds, walk_next}
use Rattle.translate.proofs.walk.read_lines.Goals as goal

pub loop-i-init : goal.loop-i-init
loop-i-init c = walk_start c.args.version c.args.text.now _ _ _ _ _ _ _ c.requires (search rules) (search rules)

pub read_line-requires : goal.read_line-requires
read_line-requires c = c.loop-i.invariant.standing

pub returns-in_err-done : goal.returns-in_err-done
returns-in_err-done c =
    let w = c.loop-i.invariant in
    let a = c.in-Some.ensures.steps.0 in
    let split = ended _ c.in-Some.ended _ _ a.0 a.1.1 (a.1.2 (λ (b : ℕ). eqb b 10) (always _ (λ x r f k. search (rules, tests)))).1 a.2 _ c.unwrap_or-bytes.result c.strip_suffix.ensures.cases c.unwrap_or-bytes.ensures in
    let f = walk_decides w _ _ split c.read_line.ensures.answers c.map_err.result _ (λ g e k. search rules) c.map_err.ensures.cases c.in_err-done.field-0.0 c.in_err-done.was in
    let e = c.from_residual.ensures in
    record { says = search rules; full = c.read_line.ensures.full }

pub loop-i-preserved : goal.loop-i-preserved
loop-i-preserved c =
    let w = c.loop-i.invariant in
    let a = c.in-Some.ensures.steps.0 in
    let split = ended _ c.in-Some.ended _ _ a.0 a.1.1 (a.1.2 (λ (b : ℕ). eqb b 10) (always _ (λ x r f k. search (rules, tests)))).1 a.2 _ c.unwrap_or-bytes.result c.strip_suffix.ensures.cases c.unwrap_or-bytes.ensures in
    walk_next w _ _ split c.read_line.ensures.answers c.read_line.ensures.full _
    (walk_holds w _ _ split c.read_line.ensures.answers c.map_err.result _ c.map_err.ensures.cases _ c.in_ok-done.was)
    _ _ c.in-Some.ensures.steps.2 refl

pub returns : goal.returns
returns c =
    let a = c.in-None.ensures.steps.0 in
    record { says = walk_done c.loop-i.invariant a.0; full = c.loop-i.invariant.standing.full }
