-- One line: too deep (23), or by its first token a range line, a rule, or none of the forms (24).
use mathlib.Core.Path.{◌≡◌, refl, sym, ap, ◌∙◌}
use mathlib.Core.Bool.{true, false}
use mathlib.Core.List.{List, [], ◌∷◌}
use mathlib.Core.Option.{Option, none}
use Prim.Native.Nat.{ℕ, ◌+◌, ◌*◌, ◌≤◌}
use native.Mathlib.Omega.{arith}
use lib.Dec.{eqb}
use lib.IntN.{ℤ}
use lib.ListN.{length}
use Rattle.std.specs.Prelude.{Result, Err}
use Rattle.sheet.specs.Tokens.{tokens_of}
use Rattle.sheet.specs.Depth.{too_deep}
use Rattle.sheet.specs.Grammar.{Line}
use Rattle.sheet.specs.Reading.{token_no, head_of, rest_of, read_range, read_line}
use Rattle.sheet.specs.inner.Steps.{tokens_from}
use Rattle.sheet.specs.declared.Mark.{Mark}
use Rattle.sheet.specs.declared.Mark.TheVariants.{Open, Close, Plus, Minus, Times, Square, AtMost, Below, AtLeast, Above, Equal, Differ, Range, Must, If, Then, And, Or}
use Rattle.sheet.specs.declared.Token.{Token}
use Rattle.sheet.specs.declared.Token.TheVariants.{Number, Negative, Name, Fixed, Bad}
use Rattle.sheet.proofs.Steps.{from_start}
use Rattle.meaning.specs.Grounds.{one_line}
use Rattle.meaning.specs.declared.Refusal.{Refusal}
use Rattle.meaning.specs.declared.Refusal.TheVariants as refusal
use Rattle.lines.specs.declared.parts.Progress.{Progress}
use Rattle.lines.specs.inner.Stored.{Answers, line_by, tree_by, rule_f}

-- ---- the first token
module _ (ts : List Token) where
  range_read : head_of ts ≡ Fixed Range → read_line ts ≡ read_range (rest_of ts)
  unfolding read_line
  range_read e = rw e

  must_read : head_of ts ≡ Fixed Must → read_line ts ≡ rule_f false (8 * length ts + 8) (rest_of ts)
  unfolding read_line
  must_read e = rw e

  if_read : head_of ts ≡ Fixed If → read_line ts ≡ rule_f true (8 * length ts + 8) (rest_of ts)
  unfolding read_line
  if_read e = rw e

-- a token that starts no line
pub record Other (t : Token) : Type 0 where
  pub range : eqb (token_no t) 16 ≡ false
  pub must : eqb (token_no t) 17 ≡ false
  pub conditional : eqb (token_no t) 18 ≡ false

-- a token that is no mark, and a mark that is none of `range`, `must`, `if`
pub not_fixed : (t : Token) → ((m : Mark) → t ≡ Fixed m → ⊥) → Other t
not_fixed (Number n) h = record { range = refl; must = refl; conditional = refl }
not_fixed (Negative n) h = record { range = refl; must = refl; conditional = refl }
not_fixed (Name n) h = record { range = refl; must = refl; conditional = refl }
not_fixed (Fixed m) h = absurd (h m refl)
not_fixed Bad h = record { range = refl; must = refl; conditional = refl }

pub other_mark : (m : Mark) → (m ≡ Range → ⊥) → (m ≡ Must → ⊥) → (m ≡ If → ⊥) → Other (Fixed m)
other_mark Open r m i = record { range = refl; must = refl; conditional = refl }
other_mark Close r m i = record { range = refl; must = refl; conditional = refl }
other_mark Plus r m i = record { range = refl; must = refl; conditional = refl }
other_mark Minus r m i = record { range = refl; must = refl; conditional = refl }
other_mark Times r m i = record { range = refl; must = refl; conditional = refl }
other_mark Square r m i = record { range = refl; must = refl; conditional = refl }
other_mark AtMost r m i = record { range = refl; must = refl; conditional = refl }
other_mark Below r m i = record { range = refl; must = refl; conditional = refl }
other_mark AtLeast r m i = record { range = refl; must = refl; conditional = refl }
other_mark Above r m i = record { range = refl; must = refl; conditional = refl }
other_mark Equal r m i = record { range = refl; must = refl; conditional = refl }
other_mark Differ r m i = record { range = refl; must = refl; conditional = refl }
other_mark Range r m i = absurd (r refl)
other_mark Must r m i = absurd (m refl)
other_mark If r m i = absurd (i refl)
other_mark Then r m i = record { range = refl; must = refl; conditional = refl }
other_mark And r m i = record { range = refl; must = refl; conditional = refl }
other_mark Or r m i = record { range = refl; must = refl; conditional = refl }

other_read : (ts : List Token) → Other (head_of ts) → read_line ts ≡ none
unfolding read_line
other_read ts o = rw (o.range, o.must, o.conditional)

rest_short : (ts : List Token) → length (rest_of ts) ≤ length ts
rest_short [] = omega arith
rest_short (t ∷ ts) = omega arith

-- ---- the whole line
module _ (version : ℕ) (l : List ℕ) (g : Progress) (rs ps ns ls : List ℤ) (keys : List ℕ) (rs' ps' ns' ls' : List ℤ) (keys' : List ℕ) where
  pub line_deep : too_deep (tokens_of l) ≡ true → Answers (line_by version l) g rs ps ns ls keys rs' ps' ns' ls' keys' (Err refusal.Brackets)
  unfolding one_line
  line_deep e = record { says = λ s k h p. rw e }

  module _ (flat : too_deep (tokens_of l) ≡ false) (t : Token) (next : ℕ) (first : (t ≡ head_of (tokens_from l 0)) × (tokens_from l next ≡ rest_of (tokens_from l 0))) where
    by_tree : (o : Option Line) (r : Result Progress Refusal) → read_line (tokens_of l) ≡ o → Answers (tree_by version o) g rs ps ns ls keys rs' ps' ns' ls' keys' r → Answers (line_by version l) g rs ps ns ls keys rs' ps' ns' ls' keys' r
    unfolding one_line
    by_tree o r e a = record { says = λ s k h p. rw (flat, e) (a.says s k h p) }

    head_is : head_of (tokens_of l) ≡ t
    head_is = sym (first.0 ∙ ap head_of (from_start l))

    rest_is : rest_of (tokens_of l) ≡ tokens_from l next
    rest_is = sym (first.1 ∙ ap rest_of (from_start l))

    pub line_range : (r : Result Progress Refusal) → t ≡ Fixed Range → Answers (tree_by version (read_range (tokens_from l next))) g rs ps ns ls keys rs' ps' ns' ls' keys' r → Answers (line_by version l) g rs ps ns ls keys rs' ps' ns' ls' keys' r
    line_range r e a = by_tree (read_range (tokens_from l next)) r (range_read (tokens_of l) (head_is ∙ e) ∙ ap read_range rest_is) a

    bound : 8 * length (tokens_from l next) + 8 ≤ 8 * length (tokens_of l) + 8
    bound = omega (arith, rest_short (tokens_of l), ap length rest_is)

    pub line_must : (r : Result Progress Refusal) → t ≡ Fixed Must → ((n : ℕ) → 8 * length (tokens_from l next) + 8 ≤ n → Answers (tree_by version (rule_f false n (tokens_from l next))) g rs ps ns ls keys rs' ps' ns' ls' keys' r) → Answers (line_by version l) g rs ps ns ls keys rs' ps' ns' ls' keys' r
    line_must r e a =
        let n = 8 * length (tokens_of l) + 8 in
        by_tree (rule_f false n (tokens_from l next)) r (must_read (tokens_of l) (head_is ∙ e) ∙ ap (rule_f false n) rest_is) (a n bound)

    pub line_if : (r : Result Progress Refusal) → t ≡ Fixed If → ((n : ℕ) → 8 * length (tokens_from l next) + 8 ≤ n → Answers (tree_by version (rule_f true n (tokens_from l next))) g rs ps ns ls keys rs' ps' ns' ls' keys' r) → Answers (line_by version l) g rs ps ns ls keys rs' ps' ns' ls' keys' r
    line_if r e a =
        let n = 8 * length (tokens_of l) + 8 in
        by_tree (rule_f true n (tokens_from l next)) r (if_read (tokens_of l) (head_is ∙ e) ∙ ap (rule_f true n) rest_is) (a n bound)

    pub line_other : Other t → Answers (line_by version l) g rs ps ns ls keys rs' ps' ns' ls' keys' (Err refusal.Form)
    line_other o = by_tree none (Err refusal.Form) (other_read (tokens_of l) (rw head_is o)) (record { says = λ s k h p. refl })
