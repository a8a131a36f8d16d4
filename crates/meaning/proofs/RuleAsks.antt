-- A rule is met exactly if one of the things it asks is so: a condition is false exactly if its opposite is true, and plain trees keep the values.
use mathlib.Core.Path.{◌≡◌, refl}
use mathlib.Core.Bool.{Bool, true, false, ◌&&◌}
use mathlib.Core.List.{List, [], ◌∷◌, ◌++◌, map}
use mathlib.Core.Logic.{inl, inr, ⊎_elim}
use Prim.Native.Nat.{ℕ}
use lib.ListN.{length}
use lib.IntN.{ℤ}
use lib.Signed.{le_z, lt_z, ◌≤ℤ◌, ◌<ℤ◌}
use Rattle.whole.specs.Lists.{OneOf}
use Rattle.whole.specs.Ranges.{Point}
use Rattle.whole.proofs.Kit.{ints}
use Rattle.sheet.specs.Grammar.{Comparison}
use Rattle.sheet.specs.Meaning.{Assignment, value_e, Compares, ComparisonHolds, Met}
use Rattle.sheet.specs.declared.Sign.{Sign}
use Rattle.sheet.specs.declared.Sign.TheVariants.{AtMost, Below, AtLeast, Above, Equal, Differ}
use Rattle.meaning.specs.Plain.{plain_e, named_e, plain_c, opposite, denied}
use Rattle.meaning.specs.Grounds.{named_all}
use Rattle.meaning.proofs.Tests.{both_on}
use Rattle.meaning.proofs.Elements.{all_join, one_left, one_right, one_split}
use Rattle.meaning.proofs.PlainValues.{Agrees, value, names_e, value_e_lem}
use Rattle.meaning.proofs.TreeValues.{Named}
use Rattle.meaning.proofs.RuleClauses.{Answers, order}

-- ---- opposites
not_le : (a b : ℤ) → ¬ (a ≤ℤ b) → b <ℤ a
not_le a b f = go (le_z a b) refl
  where
    go : (x : Bool) → le_z a b ≡ x → b <ℤ a
    go true e = absurd (f (omega ints))
    go false e = omega ints

not_lt : (a b : ℤ) → ¬ (a <ℤ b) → b ≤ℤ a
not_lt a b f = go (lt_z a b) refl
  where
    go : (x : Bool) → lt_z a b ≡ x → b ≤ℤ a
    go true e = absurd (f (omega ints))
    go false e = omega ints

deny : (s : Sign) (a b : ℤ) → ¬ Compares s a b → Compares (opposite s) a b
deny AtMost a b f = not_le a b f
deny Below a b f = not_lt a b f
deny AtLeast a b f = not_le b a f
deny Above a b f = not_lt b a f
deny Equal a b f = f
deny Differ a b f = ⊎_elim (λ h. absurd (f (λ e. omega ints))) (⊎_elim (λ e. e) (λ h. absurd (f (λ e. omega ints)))) (order a b)

denies : (s : Sign) (a b : ℤ) → Compares (opposite s) a b → ¬ Compares s a b
denies AtMost a b f g = omega ints
denies Below a b f g = omega ints
denies AtLeast a b f g = omega ints
denies Above a b f g = omega ints
denies Equal a b f g = f g
denies Differ a b f g = g f

-- ---- comparisons whose names were declared
module _ (ns : List ℕ) (c : Comparison) (cs : List Comparison) (h : named_all ns (c ∷ cs) ≡ true) where
  named_first : (named_e ns c.left ≡ true) × (named_e ns c.right ≡ true)
  unfolding named_all
  named_first = both_on (named_e ns c.left) (named_e ns c.right) (both_on (named_e ns c.left && named_e ns c.right) (named_all ns cs) h).0

  named_rest : named_all ns cs ≡ true
  unfolding named_all
  named_rest = (both_on (named_e ns c.left && named_e ns c.right) (named_all ns cs) h).1

module _ (ns : List ℕ) where
  plain_named : (cs : List Comparison) → named_all ns cs ≡ true → Named (length ns) (map (plain_c ns) cs)
  plain_named [] h = tt
  plain_named (c ∷ cs) h =
      let n = named_first ns c cs h in
      ((names_e ns c.left n.0, names_e ns c.right n.1), plain_named cs (named_rest ns c cs h))

  denied_named : (cs : List Comparison) → named_all ns cs ≡ true → Named (length ns) (map denied (map (plain_c ns) cs))
  denied_named [] h = tt
  denied_named (c ∷ cs) h =
      let n = named_first ns c cs h in
      ((names_e ns c.left n.0, names_e ns c.right n.1), denied_named cs (named_rest ns c cs h))

  pub asks_named : (cs ds : List Comparison) → named_all ns cs ≡ true → named_all ns ds ≡ true → Named (length ns) (map denied (map (plain_c ns) cs) ++ map (plain_c ns) ds)
  asks_named cs ds h k = all_join _ (map denied (map (plain_c ns) cs)) (map (plain_c ns) ds) (denied_named cs h) (plain_named ds k)

module _ (ns : List ℕ) (v : Assignment) (p : Point) (agrees : Agrees ns v p) where
  same_left : (c : Comparison) (cs : List Comparison) (h : named_all ns (c ∷ cs) ≡ true) → value p (plain_e ns c.left) ≡ value_e v c.left
  same_left c cs h = value_e_lem ns v p agrees c.left (named_first ns c cs h).0

  same_right : (c : Comparison) (cs : List Comparison) (h : named_all ns (c ∷ cs) ≡ true) → value p (plain_e ns c.right) ≡ value_e v c.right
  same_right c cs h = value_e_lem ns v p agrees c.right (named_first ns c cs h).1

  right_there : (cs : List Comparison) → named_all ns cs ≡ true → OneOf (ComparisonHolds v) cs → OneOf (Answers p) (map (plain_c ns) cs)
  right_there [] h i = elim i [ ]
  right_there (c ∷ cs) h (inl k) = inl (rw (same_left c cs h, same_right c cs h) k)
  right_there (c ∷ cs) h (inr k) = inr (right_there cs (named_rest ns c cs h) k)

  right_back : (cs : List Comparison) → named_all ns cs ≡ true → OneOf (Answers p) (map (plain_c ns) cs) → OneOf (ComparisonHolds v) cs
  right_back [] h i = elim i [ ]
  right_back (c ∷ cs) h (inl k) = inl (rw (← same_left c cs h, ← same_right c cs h) k)
  right_back (c ∷ cs) h (inr k) = inr (right_back cs (named_rest ns c cs h) k)

  off_there : (cs : List Comparison) → named_all ns cs ≡ true → OneOf (λ c. ¬ ComparisonHolds v c) cs → OneOf (Answers p) (map denied (map (plain_c ns) cs))
  off_there [] h i = elim i [ ]
  off_there (c ∷ cs) h (inl k) = inl (rw (same_left c cs h, same_right c cs h) (deny c.sign _ _ k))
  off_there (c ∷ cs) h (inr k) = inr (off_there cs (named_rest ns c cs h) k)

  off_back : (cs : List Comparison) → named_all ns cs ≡ true → OneOf (Answers p) (map denied (map (plain_c ns) cs)) → OneOf (λ c. ¬ ComparisonHolds v c) cs
  off_back [] h i = elim i [ ]
  off_back (c ∷ cs) h (inl k) = inl (rw (← same_left c cs h, ← same_right c cs h) (denies c.sign _ _ k))
  off_back (c ∷ cs) h (inr k) = inr (off_back cs (named_rest ns c cs h) k)

  pub met_asked : (cs ds : List Comparison) → named_all ns cs ≡ true → named_all ns ds ≡ true → Met v cs ds → OneOf (Answers p) (map denied (map (plain_c ns) cs) ++ map (plain_c ns) ds)
  met_asked cs ds h k (inl i) = one_left (Answers p) (map denied (map (plain_c ns) cs)) (map (plain_c ns) ds) (off_there cs h i)
  met_asked cs ds h k (inr i) = one_right (Answers p) (map denied (map (plain_c ns) cs)) (map (plain_c ns) ds) (right_there ds k i)

  pub asked_met : (cs ds : List Comparison) → named_all ns cs ≡ true → named_all ns ds ≡ true → OneOf (Answers p) (map denied (map (plain_c ns) cs) ++ map (plain_c ns) ds) → Met v cs ds
  asked_met cs ds h k i =
      ⊎_elim (λ j. inl (off_back cs h j)) (λ j. inr (right_back ds k j)) (one_split (Answers p) (map denied (map (plain_c ns) cs)) (map (plain_c ns) ds) i)
