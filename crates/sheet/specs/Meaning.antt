-- What a sheet says: document 01, "Sheets". All over exact whole numbers; an assignment gives each name its value.
use Rattle.std.specs.Prelude.{◌≡◌, ◌⊎◌, List, [], ◌∷◌, ℕ, ℤ, pos, ◌+ℤ◌, ◌-ℤ◌, ◌*ℤ◌, ◌≤ℤ◌, ◌<ℤ◌}
use Rattle.whole.specs.Lists.{AllOf, OneOf}
use Rattle.whole.specs.Ranges.{In, range}
use Rattle.sheet.specs.Grammar.{Expr, one, plus, minus, Term, lone, times, Factor, bare, squared, Atom, number, name, bracket}
use Rattle.sheet.specs.Grammar.{Comparison, Line, ranged, default, must, when}
use Rattle.sheet.specs.declared.Sign.{Sign}
use Rattle.sheet.specs.declared.Sign.TheVariants.{AtMost, Below, AtLeast, Above, Equal, Differ}

-- the value of each name
abbrev pub Assignment : Type 0
Assignment = ℕ → ℤ

unfoldable mutual
  pub value_e : Assignment → Expr → ℤ
  value_e v (one t) = value_t v t
  value_e v (plus e t) = value_e v e +ℤ value_t v t
  value_e v (minus e t) = value_e v e -ℤ value_t v t

  pub value_t : Assignment → Term → ℤ
  value_t v (lone f) = value_f v f
  value_t v (times t f) = value_t v t *ℤ value_f v f

  pub value_f : Assignment → Factor → ℤ
  value_f v (bare a) = value_a v a
  value_f v (squared a) = value_a v a *ℤ value_a v a

  pub value_a : Assignment → Atom → ℤ
  value_a v (number n) = pos n
  value_a v (name n) = v n
  value_a v (bracket e) = value_e v e

-- `<= < >= > = !=`
abbrev pub Compares : Sign → ℤ → ℤ → Type 0
Compares AtMost a b = a ≤ℤ b
Compares Below a b = a <ℤ b
Compares AtLeast a b = b ≤ℤ a
Compares Above a b = b <ℤ a
Compares Equal a b = a ≡ b
Compares Differ a b = ¬ (a ≡ b)

-- a comparison is true
abbrev pub ComparisonHolds : Assignment → Comparison → Type 0
ComparisonHolds v c = Compares c.sign (value_e v c.left) (value_e v c.right)

-- a rule asks that one C is false or one D is true
abbrev pub Met : Assignment → List Comparison → List Comparison → Type 0
Met v cs ds = OneOf (λ c. ¬ ComparisonHolds v c) cs ⊎ OneOf (ComparisonHolds v) ds

-- a range line asks that the value is in the range, `range NAME` meaning 0 to the default's top
abbrev pub ObeysLine : ℕ → Assignment → Line → Type 0
ObeysLine top v (ranged n low high) = In (range low high) (v n)
ObeysLine top v (default n) = In (range (pos 0) (pos top)) (v n)
ObeysLine top v (must d ds) = Met v [] (d ∷ ds)
ObeysLine top v (when c cs d ds) = Met v (c ∷ cs) (d ∷ ds)

-- an assignment obeys a sheet if it is in every range and meets every rule
abbrev pub Obeys : ℕ → Assignment → List Line → Type 0
Obeys top v ls = AllOf (ObeysLine top v) ls
