-- Whether an assignment obeys a line can be computed: a comparison of two whole numbers is a test, and a rule joins such tests. So examples
-- of the meaning compute.
use mathlib.Core.Path.{◌≡◌, ap}
use mathlib.Core.Logic.{◌↔◌, ◌⊎◌, inl, inr}
use mathlib.Core.Bool.{Bool, true, false, not, ◌&&◌, ◌||◌}
use mathlib.Core.List.{List, [], ◌∷◌}
use Prim.Native.Nat.{ℕ}
use lib.Dec.{T, T_not, not_T, eqb, eqb→eq, eqb_refl}
use lib.IntN.{ℤ, pos, negsuc}
use lib.Signed.{le_z, lt_z}
use Rattle.whole.specs.Lists.{OneOf}
use Rattle.whole.specs.Ranges.{In, range}
use Rattle.sheet.specs.Grammar.{Comparison, Line, ranged, default, must, when}
use Rattle.sheet.specs.Meaning.{Assignment, value_e, Compares, ComparisonHolds, ObeysLine}
use Rattle.sheet.specs.declared.Sign.{Sign}
use Rattle.sheet.specs.declared.Sign.TheVariants.{AtMost, Below, AtLeast, Above, Equal, Differ}

-- ---- the tests

abbrev pub eq_z : ℤ → ℤ → Bool
eq_z (pos a) (pos b) = eqb a b
eq_z (pos a) (negsuc b) = false
eq_z (negsuc a) (pos b) = false
eq_z (negsuc a) (negsuc b) = eqb a b

abbrev pub compares : Sign → ℤ → ℤ → Bool
compares AtMost a b = le_z a b
compares Below a b = lt_z a b
compares AtLeast a b = le_z b a
compares Above a b = lt_z b a
compares Equal a b = eq_z a b
compares Differ a b = not (eq_z a b)

abbrev pub is_right : Assignment → Comparison → Bool
is_right v c = compares c.sign (value_e v c.left) (value_e v c.right)

abbrev pub any_of : (Comparison → Bool) → List Comparison → Bool
any_of f [] = false
any_of f (c ∷ cs) = f c || any_of f cs

abbrev pub obeys_line : ℕ → Assignment → Line → Bool
obeys_line top v (ranged n low high) = le_z low (v n) && le_z (v n) high
obeys_line top v (default n) = le_z (pos 0) (v n) && le_z (v n) (pos top)
obeys_line top v (must d ds) = any_of (is_right v) (d ∷ ds)
obeys_line top v (when c cs d ds) = any_of (λ x. not (is_right v x)) (c ∷ cs) || any_of (is_right v) (d ∷ ds)

-- ---- they say what is meant

eq_z_refl : (a : ℤ) → T (eq_z a a)
eq_z_refl (pos n) = eqb_refl n
eq_z_refl (negsuc n) = eqb_refl n

pub eq_z_right : (a b : ℤ) → T (eq_z a b) ↔ (a ≡ b)
eq_z_right a b = (to a b, (λ e. rw (← e) (eq_z_refl a)))
  where
    to : (x y : ℤ) → T (eq_z x y) → x ≡ y
    to (pos m) (pos n) h = ap pos (eqb→eq m n h)
    to (pos m) (negsuc n) h = absurd h
    to (negsuc m) (pos n) h = absurd h
    to (negsuc m) (negsuc n) h = ap negsuc (eqb→eq m n h)

not_right : {A : Type 0} (b : Bool) → T b ↔ A → T (not b) ↔ (¬ A)
not_right b i = ((λ h x. T_not b h (i.1 x)), (λ h. not_T b (λ x. h (i.0 x))))

pub compares_right : (s : Sign) (a b : ℤ) → T (compares s a b) ↔ Compares s a b
compares_right AtMost a b = ((λ h. record { le = h }), (λ h. h.le))
compares_right Below a b = ((λ h. record { lt = h }), (λ h. h.lt))
compares_right AtLeast a b = ((λ h. record { le = h }), (λ h. h.le))
compares_right Above a b = ((λ h. record { lt = h }), (λ h. h.lt))
compares_right Equal a b = eq_z_right a b
compares_right Differ a b = not_right (eq_z a b) (eq_z_right a b)

pub is_right_lem : (v : Assignment) (c : Comparison) → T (is_right v c) ↔ ComparisonHolds v c
is_right_lem v c = compares_right c.sign (value_e v c.left) (value_e v c.right)

pub and_right : (p q : Bool) → T (p && q) ↔ (T p × T q)
and_right true q = ((λ h. (tt, h)), (λ h. h.1))
and_right false q = ((λ h. absurd h), (λ h. h.0))

in_right : (low high z : ℤ) → T (le_z low z && le_z z high) ↔ In (range low high) z
in_right low high z =
    let i = and_right (le_z low z) (le_z z high) in
    ((λ h. record { above = record { le = (i.0 h).0 }; below = record { le = (i.0 h).1 } }), (λ h. i.1 (h.above.le, h.below.le)))

either : {A B : Type 0} (p q : Bool) → T p ↔ A → T q ↔ B → T (p || q) ↔ (A ⊎ B)
either true q i j = ((λ h. inl (i.0 tt)), (λ h. tt))
either {A} {B} false q i j = ((λ h. inr (j.0 h)), from)
  where
    from : A ⊎ B → T q
    from (inl a) = absurd (i.1 a)
    from (inr b) = j.1 b

any_right : (f : Comparison → Bool) (Q : Comparison → Type 0) → ((c : Comparison) → T (f c) ↔ Q c)
    → (cs : List Comparison) → T (any_of f cs) ↔ OneOf Q cs
any_right f Q i [] = ((λ h. h), (λ h. h))
any_right f Q i (c ∷ cs) = either (f c) (any_of f cs) (i c) (any_right f Q i cs)

-- an assignment obeys a line exactly if the test says so
pub obeys_line_lem : (top : ℕ) (v : Assignment) (l : Line) → T (obeys_line top v l) ↔ ObeysLine top v l
obeys_line_lem top v (ranged n low high) = in_right low high (v n)
obeys_line_lem top v (default n) = in_right (pos 0) (pos top) (v n)
obeys_line_lem top v (must d ds) = either false (any_of (is_right v) (d ∷ ds)) ((λ h. h), (λ h. h)) (any_right (is_right v) (ComparisonHolds v) (is_right_lem v) (d ∷ ds))
obeys_line_lem top v (when c cs d ds) =
    either (any_of (λ x. not (is_right v x)) (c ∷ cs)) (any_of (is_right v) (d ∷ ds))
    (any_right (λ x. not (is_right v x)) (λ x. ¬ ComparisonHolds v x) (λ x. not_right (is_right v x) (is_right_lem v x)) (c ∷ cs))
    (any_right (is_right v) (ComparisonHolds v) (is_right_lem v) (d ∷ ds))
