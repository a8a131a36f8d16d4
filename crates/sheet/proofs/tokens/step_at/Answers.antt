-- The piece from `at` to the next space is what stands before that space, and the next token starts behind it.
use Prim.Native.Nat.{ℕ, ◌-◌}
use mathlib.Core.Path.{◌≡◌, sym, ◌∙◌, ap}
use native.Mathlib.Omega.{arith}
use lib.ListN.{length, take, drop}
use Rattle.sheet.specs.Tokens.{token_of}
use Rattle.sheet.specs.inner.Steps.{front}
use Rattle.sheet.proofs.Places.{up_to_take, place_fits}
use Rattle.sheet.proofs.Steps.{step_past, step_in}
use Rattle.sheet.proofs.tokens.step_at.Goals as goal

pub returns-then-line-at : goal.returns-then-line-at
returns-then-line-at c = sym (step_past c.args.line.now c.args.at c.if-line-at.true)

pub slice_bounds-read-end : goal.slice_bounds-read-end
slice_bounds-read-end c = rw c.place-end.ensures (place_fits 32 c.args.line.now c.args.at c.if-line-at.false)

pub returns : goal.returns
returns c =
    let l = c.args.line.now in
    let at = c.args.at in
    let n : c.place-end.result - at ≡ length (front (drop at l)) = omega (arith, c.place-end.ensures) in
    let t : c.read.result ≡ token_of (front (drop at l)) = c.read.ensures ∙ ap token_of (ap (λ (k : ℕ). take k (drop at l)) n ∙ up_to_take 32 (drop at l)) in
    rw (t, c.place-end.ensures, step_in l at c.if-line-at.false)
