-- What `number` says of the bytes, then the limit, then the last byte decide.
use mathlib.Core.Path.{sym, ◌∙◌}
use Rattle.translate.proofs.VersionLine.{version_none, number_some, version_is, version_high, version_unit}
use Rattle.translate.proofs.text.version.Goals.{then-v-gt-LATEST-via-then-v-gt-LATEST, then-v-gt-LATEST-via-else-v-gt-LATEST+then-not-digit_at}
use Rattle.translate.proofs.text.version.Goals as goal

pub returns-in_err-v : goal.returns-in_err-v
returns-in_err-v c = c.from_residual.ensures ∙ sym (version_none c.args.w.now (sym c.number.ensures ∙ c.in_err-v.was))

pub returns-then-v-gt-LATEST : goal.returns-then-v-gt-LATEST
returns-then-v-gt-LATEST c =
    let n = sym c.number.ensures ∙ c.in_ok-v.was in
    elim c.then-v-gt-LATEST.branch [
      | then-v-gt-LATEST-via-then-v-gt-LATEST w ↦ sym (version_high c.args.w.now c.in_ok-v.v n w.if-v-gt-LATEST.true)
      | then-v-gt-LATEST-via-else-v-gt-LATEST+then-not-digit_at w ↦ sym (version_unit c.args.w.now c.in_ok-v.v n (sym w.digit_at.ensures ∙ w.if-not-digit_at.true))
    ]

pub overflow_sub-w : goal.overflow_sub-w
overflow_sub-w c = number_some c.args.w.now c.in_ok-v.v (sym c.number.ensures ∙ c.in_ok-v.was)

pub returns : goal.returns
returns c = sym (version_is c.args.w.now c.in_ok-v.v (sym c.number.ensures ∙ c.in_ok-v.was) c.if-v-gt-LATEST.false (sym c.digit_at.ensures ∙ c.if-not-digit_at.false))
