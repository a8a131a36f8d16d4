-- The value of the whole is what the bytes from i on make of v, until a byte that is no digit, a value above M, or the end decides.
use mathlib.Core.Bool.{true, false}
use mathlib.Core.List.{List}
use mathlib.Core.Path.{◌≡◌, sym, ◌∙◌, ap}
use Prim.Native.Nat.{ℕ, ◌+◌, ◌-◌, ◌*◌, ◌<◌}
use lib.ListN.{length, get_or, drop}
use Rattle.sheet.specs.Tokens.{Value, is_digit, limited, suffix_of, digits_of}
use Rattle.sheet.proofs.Digits.{limited_fits, digits_more, digits_unit, digits_none, digits_big, suffix_long, suffix_last, suffix_none}
use Rattle.sheet.proofs.piece.digits.Goals as goal

module _ (l : List ℕ) (i v : ℕ) (all : Value) (e : all ≡ digits_of v (drop i l)) (h : i < length l) where
  -- what a byte that is no digit leaves
  other : is_digit (get_or l i 0) ≡ false → all ≡ suffix_of v (get_or l i 0) (drop (i + 1) l)
  other f = e ∙ digits_unit l i v h f

  -- and what a digit leaves
  turn : (n : ℕ) → is_digit (get_or l i 0) ≡ true → n ≡ get_or l i 0 - 48 → all ≡ digits_of (v * 10 + n) (drop (i + 1) l)
  turn n f g = e ∙ digits_more l i v h f ∙ ap (λ (n : ℕ). digits_of (v * 10 + n) (drop (i + 1) l)) (sym g)

pub returns-in_err-u : goal.returns-in_err-u
returns-in_err-u c =
    let o = other c.args.more.now c.loop-i.i c.loop-i.v _ c.loop-i.invariant.1 c.loop-i-test.true (sym c.is_ascii_digit.ensures.value ∙ c.if-not-is_ascii_digit.true) in
    c.from_residual.ensures ∙ sym (o ∙ suffix_none _ _ _ c.in_err-u.ensures)

pub returns-then-i-more : goal.returns-then-i-more
returns-then-i-more c =
    let o = other c.args.more.now c.loop-i.i c.loop-i.v _ c.loop-i.invariant.1 c.loop-i-test.true (sym c.is_ascii_digit.ensures.value ∙ c.if-not-is_ascii_digit.true) in
    sym (o ∙ suffix_long c.args.more.now (c.loop-i.i + 1) _ _ c.if-i-more.true)

pub returns-then-not-is_ascii_digit : goal.returns-then-not-is_ascii_digit
returns-then-not-is_ascii_digit c =
    let o = other c.args.more.now c.loop-i.i c.loop-i.v _ c.loop-i.invariant.1 c.loop-i-test.true (sym c.is_ascii_digit.ensures.value ∙ c.if-not-is_ascii_digit.true) in
    let u = c.in_ok-u.ensures in
    c.scaled.ensures ∙ ap (λ (n : ℕ). limited (c.loop-i.v * n)) u.0
    ∙ sym (o ∙ suffix_last c.args.more.now (c.loop-i.i + 1) c.loop-i.v _ c.if-i-more.false (rw (sym u.0) u.1))

pub returns-then-v-gt-TOP : goal.returns-then-v-gt-TOP
returns-then-v-gt-TOP c =
    let t = turn c.args.more.now c.loop-i.i c.loop-i.v _ c.loop-i.invariant.1 c.loop-i-test.true c.from.result (sym c.is_ascii_digit.ensures.value ∙ c.if-not-is_ascii_digit.false) c.from.ensures in
    sym (t ∙ digits_big _ _ c.if-v-gt-TOP.true)

pub loop-i-preserved : goal.loop-i-preserved
loop-i-preserved c =
    let t = turn c.args.more.now c.loop-i.i c.loop-i.v _ c.loop-i.invariant.1 c.loop-i-test.true c.from.result (sym c.is_ascii_digit.ensures.value ∙ c.if-not-is_ascii_digit.false) c.from.ensures in
    (c.if-v-gt-TOP.false, t)

pub returns : goal.returns
returns c =
    let s = c.loop-i in
    sym (s.invariant.1 ∙ digits_none c.args.more.now s.i s.v c.loop-i-test.false ∙ limited_fits s.v s.invariant.0)
