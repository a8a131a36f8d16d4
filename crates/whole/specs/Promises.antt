-- What is promised of the computed definitions of Numbers.antt, for docs/PROMISES.md.
use Rattle.std.specs.Prelude.{◌≡◌, ℕ, ℤ, pos, ◌≤ℤ◌}
use Rattle.whole.specs.Numbers.{floor_q, ceil_q, middle_of, root_down, root_up, least_power}
use Rattle.whole.specs.Meaning.{Floor, Ceiling, Middle, RootDown, RootUp, LeastPower}

-- floor_q is the exact quotient rounded down
abbrev pub FloorIs : Type 0
FloorIs = (a b : ℤ) → (b ≡ pos 0 → ⊥) → Floor a b (floor_q a b)

-- ceil_q is the exact quotient rounded up
abbrev pub CeilingIs : Type 0
CeilingIs = (a b : ℤ) → (b ≡ pos 0 → ⊥) → Ceiling a b (ceil_q a b)

-- middle_of is half of low + high, rounded towards minus infinity
abbrev pub MiddleIs : Type 0
MiddleIs = (low high : ℤ) → Middle low high (middle_of low high)

-- root_down is the whole root rounded down
abbrev pub DownIs : Type 0
DownIs = (z : ℤ) → pos 0 ≤ℤ z → RootDown z (root_down z)

-- root_up is the whole root rounded up
abbrev pub UpIs : Type 0
UpIs = (z : ℤ) → RootUp z (root_up z)

-- least_power is the least k with 2^k at least m
abbrev pub PowerIs : Type 0
PowerIs = (m : ℕ) → LeastPower m (least_power m)
