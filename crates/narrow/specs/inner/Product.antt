-- For the code of products: whether an end of the range X of x moves, and whether the range Y of y is trimmed.
use Rattle.std.specs.Prelude.{◌≡◌, ◌⊎◌, Bool, true, false, ℕ, pos, ◌≤ℤ◌, ◌<ℤ◌}
use Rattle.whole.specs.Ranges.{holds_zero}
use Rattle.whole.specs.declared.Range.{Range}
use Rattle.narrow.specs.Cuts.{stay}
use Rattle.narrow.specs.Narrowing.{trim_cut, quotient_span}

-- whether the quotients of Z by Y, Y above 0, move an end of X
pub record Moving (X Z Y : Range) (r : Bool) : Type 0 where
  pub above : r ≡ true → pos 0 <ℤ Y.low
  pub moved : r ≡ true → (X.low <ℤ (quotient_span Z Y).low) ⊎ ((quotient_span Z Y).high <ℤ X.high)
  pub low : r ≡ false → pos 0 <ℤ Y.low → (quotient_span Z Y).low ≤ℤ X.low
  pub high : r ≡ false → pos 0 <ℤ Y.low → X.high ≤ℤ (quotient_span Z Y).high

-- whether a 0 at an end of Y goes, as Z holds none
pub record Trimming (Y Z : Range) (r : Bool) : Type 0 where
  pub clear : r ≡ true → holds_zero Z ≡ false
  pub ended : r ≡ true → (Y.low ≡ pos 0) ⊎ (Y.high ≡ pos 0)
  pub stays : r ≡ false → (y : ℕ) → trim_cut y Y Z ≡ stay
