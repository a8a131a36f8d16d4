-- The numbers of a range line are within plus or minus M: every number that is a token went through the test of its value.
use Rattle.std.specs.Prelude.{Some, None}
use mathlib.Core.Path.{◌≡◌, refl, subst}
use mathlib.Core.List.{List, [], ◌∷◌, map}
use mathlib.Core.Bool.{Bool, true, false, cond, ◌&&◌}
use Prim.Native.Nat.{ℕ, zero, suc, ◌+◌, ◌-◌, ◌*◌, ◌≤◌}
use lib.Dec.{leb, ltb, eqb}
use lib.ListN.{length}
use lib.IntN.{ℤ, pos, negsuc}
use borrow.Author.Tests.{leb-true}
use Rattle.whole.specs.Lists.{AllOf}
use Rattle.whole.specs.Numbers.{Near}
use Rattle.whole.proofs.Kit.{ints}
use Rattle.sheet.specs.Tokens.{Value, pieces_of, is_digit, unit_of, limited, suffix_of, digits_of, digit_first, number_of, as_number, as_negative, key_of, all_lower, mark_of, or_else, as_name, word_of, minus_first, behind, token_of, tokens_of}
use Rattle.sheet.specs.Grammar.{signed, ranged, spell_line}
use Rattle.sheet.specs.declared.Mark.{Mark}
use Rattle.sheet.specs.declared.Token.{Token}
use Rattle.sheet.specs.declared.Token.TheVariants.{Number, Negative, Name, Fixed, Bad}

-- ---- values
abbrev Within : Value → Type 0
Within (Some v) = v ≤ 1_000_000_000_000
Within None = Unit {0}

either_within : (b : Bool) (u v : Value) → Within u → Within v → Within (cond b u v)
either_within true u v h k = h
either_within false u v h k = k

limited_within : (v : ℕ) → Within (limited v)
limited_within v = go (leb v 1_000_000_000_000) refl
  where
    go : (b : Bool) → leb v 1_000_000_000_000 ≡ b → Within (cond b (Some v) None)
    go true e = leb-true v 1_000_000_000_000 e
    go false e = tt

suffix_within : (v b : ℕ) (bs : List ℕ) → Within (suffix_of v b bs)
unfolding suffix_of
suffix_within v b [] = either_within (eqb (unit_of b) 0) None (limited (v * unit_of b)) tt (limited_within (v * unit_of b))
suffix_within v b (x ∷ xs) = tt

digits_within : (v : ℕ) (bs : List ℕ) → Within (digits_of v bs)
unfolding digits_of
digits_within v [] = limited_within v
digits_within v (b ∷ bs) = either_within (is_digit b) _ _ (digits_within (v * 10 + (b - 48)) bs) (suffix_within v b bs)

number_within : (w : List ℕ) → Within (number_of w)
unfolding number_of
number_within [] = tt
number_within (b ∷ bs) = either_within (is_digit b) _ None (either_within (eqb b 48 && digit_first bs) None _ tt (digits_within (b - 48) bs)) tt

-- ---- tokens
abbrev pub Limited : Token → Type 0
Limited (Number v) = v ≤ 1_000_000_000_000
Limited (Negative v) = v ≤ 1_000_000_000_000
Limited (Name n) = Unit {0}
Limited (Fixed m) = Unit {0}
Limited Bad = Unit {0}

either_limited : (b : Bool) (t u : Token) → Limited t → Limited u → Limited (cond b t u)
either_limited true t u h k = h
either_limited false t u h k = k

or_mark : (b : Bool) (m : Mark) (t : Token) → Limited t → Limited (cond b (Fixed m) t)
or_mark b m t h = either_limited b (Fixed m) t tt h

else_limited : (t u : Token) → Limited t → Limited u → Limited (or_else t u)
else_limited (Number n) u h k = h
else_limited (Negative n) u h k = h
else_limited (Name n) u h k = h
else_limited (Fixed m) u h k = h
else_limited Bad u h k = k

bad_limited : Limited Bad
bad_limited = tt

marks_limited : (k : ℕ) → Limited (mark_of k)
unfolding mark_of
marks_limited k = search (or_mark, bad_limited) depth 20

number_limited : (v : Value) → Within v → Limited (as_number v)
number_limited (Some v) h = h
number_limited None h = tt

negative_limited : (v : Value) → Within v → Limited (as_negative v)
negative_limited (Some zero) h = tt
negative_limited (Some (suc v)) h = h
negative_limited None h = tt

word_limited : (w : List ℕ) → Limited (word_of w)
word_limited w =
    either_limited (leb (length w) 8) _ Bad
    (else_limited (mark_of (key_of 0 w)) (as_name w) (marks_limited (key_of 0 w)) (either_limited (ltb 0 (length w) && all_lower w) (Name (key_of 0 w)) Bad tt tt)) tt

token_limited : (w : List ℕ) → Limited (token_of w)
unfolding token_of
token_limited w =
    either_limited (digit_first w) _ _ (number_limited (number_of w) (number_within w))
    (either_limited (minus_first w) _ _ (negative_limited (number_of (behind w)) (number_within (behind w))) (word_limited w))

pieces_limited : (ws : List (List ℕ)) → AllOf Limited (map token_of ws)
pieces_limited [] = tt
pieces_limited (w ∷ ws) = (token_limited w, pieces_limited ws)

pub tokens_limited : (l : List ℕ) → AllOf Limited (tokens_of l)
unfolding tokens_of
tokens_limited l = pieces_limited (pieces_of l)

-- ---- LOW and HIGH
signed_near : (z : ℤ) → Limited (signed z) → Near z
signed_near (pos n) h = record { low = omega ints; high = omega ints }
signed_near (negsuc n) h = record { low = omega ints; high = omega ints }

pub range_near : (t : List ℕ) (n : ℕ) (low high : ℤ) → tokens_of t ≡ spell_line (ranged n low high) → Near low × Near high
unfolding spell_line
range_near t n low high e =
    let h = subst (AllOf Limited) e (tokens_limited t) in
    (signed_near low h.1.1.0, signed_near high h.1.1.1.0)
