-- What a test of several parts says of each: by the first part's two values.
use mathlib.Core.Path.{◌≡◌, refl}
use mathlib.Core.Bool.{Bool, true, false, ◌||◌, ◌&&◌, true≢false, false≢true}

pub either_off : (a b : Bool) → (a || b) ≡ false → (a ≡ false) × (b ≡ false)
either_off true b e = absurd (true≢false e)
either_off false b e = (refl, e)

pub both_off : (a b : Bool) → a ≡ false → b ≡ false → (a || b) ≡ false
both_off true b e f = e
both_off false b e f = f

pub both_on : (a b : Bool) → (a && b) ≡ true → (a ≡ true) × (b ≡ true)
both_on true b e = (refl, e)
both_on false b e = absurd (false≢true e)
