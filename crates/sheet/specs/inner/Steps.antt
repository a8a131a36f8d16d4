-- For the code: tokens by their place in a line.
use Rattle.std.specs.Prelude.{cond, List, [], ℕ, ◌+◌, leb, length, drop}
use Rattle.sheet.specs.Tokens.{token_of, tokens_of}
use Rattle.sheet.specs.inner.Places.{up_to}
use Rattle.sheet.specs.declared.Token.{Token}
use Rattle.sheet.specs.declared.Token.TheVariants.{Bad}
use Rattle.sheet.specs.declared.Step.{Step}

-- what stands before the first space
abbrev pub front : List ℕ → List ℕ
front l = up_to 32 l

-- the tokens from a place of the line on; past the line's end there is none
unfoldable pub tokens_from : List ℕ → ℕ → List Token
tokens_from l at = cond (leb at (length l)) (tokens_of (drop at l)) []

-- the token that starts at a place, and where the next one starts
unfoldable pub step_at : List ℕ → ℕ → Step
step_at l at =
    cond (leb at (length l))
    (record { token = token_of (front (drop at l)); next = at + length (front (drop at l)) + 1 })
    (record { token = Bad; next = at })
