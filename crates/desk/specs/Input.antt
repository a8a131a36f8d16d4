-- What reading the input comes to.
use Rattle.std.specs.Prelude.{List, ℕ, ◌≤◌, length, Result, IfOk}

-- what was read lies in the buffer
abbrev pub Within : {E : Type 0} → Result ℕ E → List ℕ → Type 0
Within r buffer = IfOk r (λ n. n ≤ length buffer)
