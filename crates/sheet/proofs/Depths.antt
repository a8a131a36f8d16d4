-- Brackets, token by token: a step adds what its token opens and closes, and past the line's end nothing is added.
use Rattle.std.specs.List.{slice_split, onto_first}
use lib.ListN.{length-map}
use Rattle.std.proofs.lemmas.List.{get_or-map}
use mathlib.Core.Path.{◌≡◌, refl, sym, ◌∙◌, ap}
use mathlib.Core.Bool.{Bool, true, false, cond}
use mathlib.Core.List.{List, [], ◌∷◌, map}
use Prim.Native.Nat.{ℕ, suc, ◌+◌, ◌≤◌, ◌<◌}
use native.Mathlib.Numerals.{add-one}
use native.Mathlib.Omega.{arith}
use lib.Dec.{eqb, ltb}
use lib.ListN.{length, get_or, drop, drop_of_length-le}
use lib.Seq.{drop-cons}
use borrow.Author.Tests.{lt-ltb, le-ltb}
use mir.Val.{bool_byte}
use Rattle.sheet.specs.Lines.{with_first}
use Rattle.sheet.specs.Tokens.{pieces_of, token_of, tokens_of}
use Rattle.sheet.specs.Depth.{opens_of, closes_of, deep_from}
use Rattle.sheet.specs.declared.Token.{Token}

-- the pieces of a line are its parts between spaces, and its tokens are those that the pieces are
pieces_split : (l : List ℕ) → pieces_of l ≡ slice_split (λ b. eqb b 32) l
unfolding pieces_of
pieces_split [] = refl
pieces_split (b ∷ bs) = rw (pieces_split bs, first b (slice_split (λ b. eqb b 32) bs))
  where
    first : (b : ℕ) (ps : List (List ℕ)) → with_first b ps ≡ onto_first b ps
    first b [] = refl
    first b (p ∷ ps) = refl

tokens_split : (l : List ℕ) → tokens_of l ≡ map token_of (slice_split (λ b. eqb b 32) l)
unfolding tokens_of
tokens_split l = ap (map token_of) (pieces_split l)

pub piece_token : (l : List ℕ) (n : ℕ) (w : List ℕ) → (n < length (slice_split (λ b. eqb b 32) l)) × (w ≡ get_or (slice_split (λ b. eqb b 32) l) n w)
    → (n < length (tokens_of l)) × (token_of w ≡ get_or (tokens_of l) n (token_of w))
piece_token l n w h =
    let ws = slice_split (λ b. eqb b 32) l in
    rw (tokens_split l) (omega (arith, h.0, length-map ws token_of), ap token_of h.1 ∙ sym (get_or-map token_of ws n w (token_of w) h.0))

pub pieces_end : (l : List ℕ) (n : ℕ) → n ≡ length (slice_split (λ b. eqb b 32) l) → length (tokens_of l) ≤ n
pieces_end l n e = rw (tokens_split l) (omega (arith, e, length-map (slice_split (λ b. eqb b 32) l) token_of))

-- ---- the tokens from place n on, with o opened and c closed before them
module _ (ts : List Token) (n o c : ℕ) where
  pub deep_end : length ts ≤ n → deep_from o c (drop n ts) ≡ false
  unfolding deep_from
  deep_end h = rw (drop_of_length-le ts h)

  module _ (t : Token) (x y : ℕ) (at : (n < length ts) × (t ≡ get_or ts n t)) (f : x ≡ opens_of t) (g : y ≡ closes_of t) where
    deep_step : deep_from o c (drop n ts) ≡ cond (ltb (c + y + 16) (o + x)) true (deep_from (o + x) (c + y) (drop (n + 1) ts))
    unfolding deep_from
    deep_step =
        let e : drop n ts ≡ t ∷ drop (n + 1) ts = rw (add-one, drop-cons ts n t at.0) (ap (λ (u : Token). u ∷ drop (suc n) ts) (sym at.1)) in
        rw (f, g, e)

    pub deep_over : c + y + 16 < o + x → deep_from o c (drop n ts) ≡ true
    deep_over d = deep_step ∙ rw (lt-ltb (c + y + 16) (o + x) d)

    pub deep_under : o + x ≤ c + y + 16 → deep_from o c (drop n ts) ≡ deep_from (o + x) (c + y) (drop (n + 1) ts)
    deep_under d = deep_step ∙ rw (le-ltb (c + y + 16) (o + x) d)

-- whether a token is a bracket counts as one or none
pub one_or_none : (b : Bool) → bool_byte b ≤ 1
one_or_none true = omega arith
one_or_none false = omega arith
