-- How many bytes stand before the first m is the first place at which it stands, counted from `at`.
use mathlib.Core.Path.{◌≡◌, ◌∙◌, sym, ap}
use mathlib.Core.List.{List}
use Prim.Native.Nat.{ℕ, ◌+◌, ◌-◌}
use native.Mathlib.Nat.{add-zero}
use native.Mathlib.Omega.{arith}
use lib.Dec.{eqb}
use lib.ListN.{length, drop, length-drop}
use lib.Seq.{take_all}
use borrow.Author.Tests.{tests}
use Rattle.std.proofs.Common.{rules}
use Rattle.std.proofs.lemmas.Iterator.{YieldsList-from_slice}
use Rattle.std.proofs.lemmas.Iterator.Search.{position_from_yields_List}
use Rattle.sheet.specs.inner.Places.{up_to}
use Rattle.sheet.proofs.Places.{up_to_none, found_or_end}
use Rattle.sheet.proofs.line.place.Goals as goal

pub returns-in_default : goal.returns-in_default
returns-in_default c =
    let h = c.in_default.ensures.lookup in
    rw (up_to_none c.args.text.now c.args.at c.args.m (omega arith)) (sym (add-zero c.args.at))

pub returns : goal.returns
returns c =
    let h = c.in-Some.ensures.lookup.0 in
    let rest = c.in-Some.rest.now in
    let text = c.args.text.now in
    let at = c.args.at in
    let m = c.args.m in
    let e = position_from_yields_List (λ (b : ℕ). eqb b m) _ _ c.position.result c.position.ensures.ran (YieldsList-from_slice rest cc) (λ x b q k. search (rules, tests)) in
    let f : rest ≡ drop at text = h.2 ∙ take_all (length text - at) (drop at text) (omega (arith, length-drop at text)) in
    ap (λ (n : ℕ). at + n) (c.unwrap_or.ensures ∙ found_or_end m rest c.position.result e ∙ ap (λ (l : List ℕ). length (up_to m l)) f)
