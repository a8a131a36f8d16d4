-- The clauses of a rule say that one of the things it asks is so: each literal bounds a difference, and of two clauses only the place of the equality demand differs.
use mathlib.Core.Path.{◌≡◌, refl, subst}
use mathlib.Core.Bool.{Bool, true, false}
use mathlib.Core.List.{List, [], ◌∷◌}
use mathlib.Core.Logic.{◌⊎◌, inl, inr, ⊎_elim}
use Prim.Native.Nat.{ℕ, zero, suc, ◌+◌, ◌≤◌}
use native.Mathlib.Omega.{arith}
use lib.IntN.{ℤ, ◌-ℤ◌}
use lib.Signed.{lt_z, ◌<ℤ◌}
use Rattle.whole.specs.Lists.{AllOf, OneOf}
use Rattle.whole.specs.Ranges.{Point}
use Rattle.whole.proofs.Kit.{ints, minus}
use Rattle.problem.specs.Problem.{True}
use Rattle.problem.specs.declared.Literal.{Literal}
use Rattle.sheet.specs.Meaning.{Compares}
use Rattle.sheet.specs.declared.Sign.{Sign}
use Rattle.sheet.specs.declared.Sign.TheVariants.{AtMost, Below, AtLeast, Above, Equal, Differ}
use Rattle.meaning.specs.Plain.{Asked}
use Rattle.meaning.specs.Translation.{size_of, place_in, gap_of, Turn, first, second, literals_for, equal, equalities, clause_of, one_or_two}
use Rattle.meaning.proofs.Definitions.{opened}
use Rattle.meaning.proofs.Elements.{one_left, one_right, one_split}
use Rattle.meaning.proofs.PlainValues.{value}
use Rattle.meaning.proofs.Pieces.{Shows}
use Rattle.meaning.proofs.TreeValues.{at_place, gap_values, first_shows, rest_shows}

-- what is asked is so
abbrev pub Answers : Point → Asked → Type 0
Answers p a = Compares a.sign (value p a.left) (value p a.right)

pub order : (a b : ℤ) → (a <ℤ b) ⊎ ((a ≡ b) ⊎ (b <ℤ a))
order a b = go (lt_z a b) refl (lt_z b a) refl
  where
    go : (x : Bool) → lt_z a b ≡ x → (y : Bool) → lt_z b a ≡ y → (a <ℤ b) ⊎ ((a ≡ b) ⊎ (b <ℤ a))
    go true e y f = inl (omega ints)
    go false e true f = inr (inr (omega ints))
    go false e false f = inr (inl (omega ints))

-- the literals are the same in both turns, but for an equality demand
turn_free : (t u : Turn) (s : Sign) (q : ℕ) → equal s ≡ 0 → literals_for t s q ≡ literals_for u s q
unfolding opened
turn_free t u AtMost q e = refl
turn_free t u Below q e = refl
turn_free t u AtLeast q e = refl
turn_free t u Above q e = refl
turn_free t u Equal q e = absurd (omega arith)
turn_free t u Differ q e = refl

-- ---- the literals of a comparison, where quantity q holds the difference
module _ (p : Point) (q : ℕ) (a b : ℤ) (is : p q ≡ a -ℤ b) where
  literals_there : (t : Turn) (s : Sign) → Compares s a b → OneOf (True p) (literals_for t s q)
  unfolding opened
  literals_there t AtMost h = inl (omega (ints, minus a b))
  literals_there t Below h = inl (omega (ints, minus a b))
  literals_there t AtLeast h = inl (omega (ints, minus a b))
  literals_there t Above h = inl (omega (ints, minus a b))
  literals_there first Equal h = inl (omega (ints, minus a b))
  literals_there second Equal h = inl (omega (ints, minus a b))
  literals_there t Differ h =
      ⊎_elim (λ k. inl (omega (ints, minus a b))) (⊎_elim (λ e. absurd (h e)) (λ k. inr (inl (omega (ints, minus a b))))) (order a b)

  -- both turns together say it
  literals_back : (s : Sign) → OneOf (True p) (literals_for first s q) → OneOf (True p) (literals_for second s q) → Compares s a b
  unfolding opened
  literals_back AtMost (inl h) i = omega (ints, minus a b)
  literals_back Below (inl h) i = omega (ints, minus a b)
  literals_back AtLeast (inl h) i = omega (ints, minus a b)
  literals_back Above (inl h) i = omega (ints, minus a b)
  literals_back Equal (inl h) (inl i) = omega (ints, minus a b)
  literals_back Differ (inl h) i = λ e. omega (ints, minus a b)
  literals_back Differ (inr (inl h)) i = λ e. omega (ints, minus a b)
  literals_back AtMost (inr h) i = elim h [ ]
  literals_back Below (inr h) i = elim h [ ]
  literals_back AtLeast (inr h) i = elim h [ ]
  literals_back Above (inr h) i = elim h [ ]
  literals_back Equal (inl h) (inr i) = elim i [ ]
  literals_back Equal (inr h) i = elim h [ ]
  literals_back Differ (inr (inr h)) i = elim h [ ]

  -- and each alone, if it is no equality demand
  literals_alone : (t : Turn) (s : Sign) → equal s ≡ 0 → OneOf (True p) (literals_for t s q) → Compares s a b
  literals_alone t s e h =
      literals_back s (subst (OneOf (True p)) (turn_free t first s q e) h) (subst (OneOf (True p)) (turn_free t second s q e) h)

is_equal : (s : Sign) → (equal s ≡ 0) ⊎ (equal s ≡ 1)
unfolding opened
is_equal AtMost = inl refl
is_equal Below = inl refl
is_equal AtLeast = inl refl
is_equal Above = inl refl
is_equal Equal = inr refl
is_equal Differ = inl refl

-- ---- the clauses of a rule, where p shows the differences from k on
module _ (p : Point) where
  pub clause_there : (t : Turn) (k : ℕ) (asked : List Asked) → Shows p k (gap_values p asked) → OneOf (Answers p) asked → OneOf (True p) (clause_of t k asked)
  unfolding opened
  clause_there t k [] h i = elim i [ ]
  clause_there t k (a ∷ more) h (inl i) =
      one_left (True p) (literals_for t a.sign (place_in k (gap_of a))) (clause_of t (k + size_of (gap_of a)) more)
      (literals_there p (place_in k (gap_of a)) _ _ (at_place p k (gap_of a) (first_shows p k a more h)) t a.sign i)
  clause_there t k (a ∷ more) h (inr i) =
      one_right (True p) (literals_for t a.sign (place_in k (gap_of a))) (clause_of t (k + size_of (gap_of a)) more)
      (clause_there t (k + size_of (gap_of a)) more (rest_shows p k a more h) i)

  split : (t : Turn) (k : ℕ) (a : Asked) (more : List Asked) → OneOf (True p) (clause_of t k (a ∷ more)) → OneOf (True p) (literals_for t a.sign (place_in k (gap_of a))) ⊎ OneOf (True p) (clause_of t (k + size_of (gap_of a)) more)
  unfolding opened
  split t k a more h = one_split (True p) (literals_for t a.sign (place_in k (gap_of a))) (clause_of t (k + size_of (gap_of a)) more) h

  clause_alone : (t : Turn) (k : ℕ) (asked : List Asked) → equalities asked ≡ 0 → Shows p k (gap_values p asked) → OneOf (True p) (clause_of t k asked) → OneOf (Answers p) asked
  unfolding opened
  clause_alone t k [] e h i = elim i [ ]
  clause_alone t k (a ∷ more) e h i =
      ⊎_elim
      (λ j. inl (literals_alone p (place_in k (gap_of a)) _ _ (at_place p k (gap_of a) (first_shows p k a more h)) t a.sign (omega arith) j))
      (λ j. inr (clause_alone t (k + size_of (gap_of a)) more (omega arith) (rest_shows p k a more h) j))
      (split t k a more i)

  -- one turn's literal here, and another's further on
  mixed : (t u : Turn) (k : ℕ) (a : Asked) (more : List Asked) → equalities (a ∷ more) ≤ 1 → Shows p k (gap_values p (a ∷ more)) → OneOf (True p) (literals_for t a.sign (place_in k (gap_of a))) → OneOf (True p) (clause_of u (k + size_of (gap_of a)) more) → OneOf (Answers p) (a ∷ more)
  unfolding opened
  mixed t u k a more l h i j =
      ⊎_elim
      (λ e. inl (literals_alone p (place_in k (gap_of a)) _ _ (at_place p k (gap_of a) (first_shows p k a more h)) t a.sign e i))
      (λ e. inr (clause_alone u (k + size_of (gap_of a)) more (omega arith) (rest_shows p k a more h) j))
      (is_equal a.sign)

  clause_both : (k : ℕ) (asked : List Asked) → equalities asked ≤ 1 → Shows p k (gap_values p asked) → OneOf (True p) (clause_of first k asked) → OneOf (True p) (clause_of second k asked) → OneOf (Answers p) asked
  unfolding opened
  clause_both k [] l h i j = elim i [ ]
  clause_both k (a ∷ more) l h i j = go (split first k a more i) (split second k a more j) (clause_both (k + size_of (gap_of a)) more (omega arith) (rest_shows p k a more h))
    where
      L : Turn → Type 0
      L t = OneOf (True p) (literals_for t a.sign (place_in k (gap_of a)))

      R : Turn → Type 0
      R t = OneOf (True p) (clause_of t (k + size_of (gap_of a)) more)

      go : L first ⊎ R first → L second ⊎ R second → (R first → R second → OneOf (Answers p) more) → OneOf (Answers p) (a ∷ more)
      go (inl x) (inl y) f = inl (literals_back p (place_in k (gap_of a)) _ _ (at_place p k (gap_of a) (first_shows p k a more h)) a.sign x y)
      go (inl x) (inr y) f = mixed first second k a more l h x y
      go (inr x) (inl y) f = mixed second first k a more l h y x
      go (inr x) (inr y) f = inr (f x y)

  pub turns_back : (n k : ℕ) (asked : List Asked) → equalities asked ≡ n → n ≤ 1 → Shows p k (gap_values p asked) → AllOf (OneOf (True p)) (one_or_two n (clause_of first k asked) (clause_of second k asked)) → OneOf (Answers p) asked
  unfolding opened
  turns_back zero k asked e l h i = clause_alone first k asked e h i.0
  turns_back (suc n) k asked e l h i = clause_both k asked (omega arith) h i.0 i.1.0

  pub turns_there : (n : ℕ) (a b : List Literal) → OneOf (True p) a → OneOf (True p) b → AllOf (OneOf (True p)) (one_or_two n a b)
  unfolding opened
  turns_there zero a b h i = (h, tt)
  turns_there (suc n) a b h i = (h, (i, tt))
