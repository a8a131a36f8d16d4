-- What `declaration` says is the tree of the tokens, and `declare` answers to it.
use mathlib.Core.Path.{◌≡◌, sym, ◌∙◌}
use Rattle.std.specs.Prelude.{Some, None, Err}
use Rattle.std.proofs.Common.{rules}
use native.Mathlib.Omega.{arith}
use Rattle.sheet.specs.Reading.{read_range}
use Rattle.sheet.specs.inner.Steps.{tokens_from}
use Rattle.sheet.specs.declared.Declaration.TheVariants.{Plain, Ranged}
use Rattle.sheet.proofs.Contents.{proper_from}
use Rattle.meaning.specs.declared.Refusal.TheVariants as refusal
use Rattle.lines.proofs.RangeLineCode.{near_at, no_declaration, range_near, says_ranged, says_plain, says_none}
use Rattle.lines.proofs.line.range_line.Goals as goal

pub returns-in_err-said : goal.returns-in_err-said
returns-in_err-said c =
    let s = c in
    let said : c.declaration.result ≡ None = grind arith in
    let refused : c.from_residual.result ≡ Err refusal.Form = search rules in
    says_none s.args.version (read_range (tokens_from s.args.line.now s.args.at)) _ _ _ _ _ _ _ _ _ _ _ _ refused (no_declaration (tokens_from s.args.line.now s.args.at) (sym c.declaration.ensures ∙ said))

pub declare-requires-in-Ranged : goal.declare-requires-in-Ranged
declare-requires-in-Ranged c =
    let s = c in
    let said : c.declaration.result ≡ Some (Ranged c.in-Ranged.name c.in-Ranged.low c.in-Ranged.high) = grind arith in
    let n = range_near (tokens_from s.args.line.now s.args.at) _ _ _ (proper_from s.args.line.now s.args.at) (sym c.declaration.ensures ∙ said) in
    record { near_1 = near_at n.0; near_2 = near_at n.1; declares_in = s.requires }

pub returns-in-Plain : goal.returns-in-Plain
returns-in-Plain c =
    let s = c in
    let said : c.declaration.result ≡ Some (Plain c.in-Plain.name) = grind arith in
    says_plain s.args.version (read_range (tokens_from s.args.line.now s.args.at)) _ _ _ _ _ _ _ _ _ _ _ _ _ _ (sym c.declaration.ensures ∙ said) c.top_of.ensures (c.declare.ensures s.args.version)

pub returns-in-Ranged : goal.returns-in-Ranged
returns-in-Ranged c =
    let s = c in
    let said : c.declaration.result ≡ Some (Ranged c.in-Ranged.name c.in-Ranged.low c.in-Ranged.high) = grind arith in
    says_ranged s.args.version (read_range (tokens_from s.args.line.now s.args.at)) _ _ _ _ _ _ _ _ _ _ _ _ _ _ _ (sym c.declaration.ensures ∙ said) (range_near (tokens_from s.args.line.now s.args.at) _ _ _ (proper_from s.args.line.now s.args.at) (sym c.declaration.ensures ∙ said)) (c.declare-in-Ranged.ensures s.args.version)
