-- A digit must stand first, and behind a 0 no other; the rest is what the further digits make of the first.
use mathlib.Core.Path.{◌≡◌, sym, ◌∙◌, ap}
use lib.ListN.{drop}
use Rattle.sheet.specs.Tokens.{digit_first, digits_of}
use Rattle.sheet.proofs.Digits.{all_behind, number_none, number_other, number_led, number_zero, number_more}
use Rattle.sheet.proofs.piece.number.Goals as goal
use Rattle.sheet.proofs.piece.number.Goals.{else-first-eq48-via-then-first-eq48+else-digit_at, else-first-eq48-via-else-first-eq48}

pub returns-in_default : goal.returns-in_default
returns-in_default c = sym (number_none c.args.w.now c.in_default.len_below)

pub returns-then-not-is_ascii_digit : goal.returns-then-not-is_ascii_digit
returns-then-not-is_ascii_digit c = sym (number_other c.args.w.now (sym c.is_ascii_digit.ensures.value ∙ c.if-not-is_ascii_digit.true))

pub returns-then-digit_at : goal.returns-then-digit_at
returns-then-digit_at c =
    let w = c.args.w.now in
    sym (number_led w c.if-first-eq48.true (ap digit_first (sym (all_behind w)) ∙ sym c.digit_at.ensures ∙ c.if-digit_at.true))

pub returns : goal.returns
returns c =
    let w = c.args.w.now in
    let d = sym c.is_ascii_digit.ensures.value ∙ c.if-not-is_ascii_digit.false in
    let e : c.digits.result ≡ digits_of c.from.result (drop 1 w) = c.digits.ensures ∙ ap (digits_of c.from.result) (all_behind w) in
    e ∙ rw c.from.ensures
    (sym
    (elim c.else-first-eq48.branch [
      | else-first-eq48-via-then-first-eq48+else-digit_at u ↦ number_zero w d (ap digit_first (sym (all_behind w)) ∙ sym u.digit_at.ensures ∙ u.if-digit_at.false)
      | else-first-eq48-via-else-first-eq48 u ↦ number_more w d u.if-first-eq48.false
    ]))
