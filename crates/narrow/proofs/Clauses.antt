-- A clause's cut: a literal that is true at a point of the box is not false of it, so it is among the positions that are left, and where it is the only one the point is in its range.
use mathlib.Core.Path.{◌≡◌, refl}
use mathlib.Core.Logic.{◌⊎◌, inl, inr, ⊎_elim}
use mathlib.Core.List.{List, [], ◌∷◌}
use mathlib.Core.Bool.{Bool, true, false, cond}
use Prim.Native.Nat.{ℕ, ◌<◌}
use Rattle.whole.proofs.Kit.{ints}
use Rattle.whole.specs.Lists.{OneOf}
use Rattle.whole.specs.Ranges.{Point}
use Rattle.problem.specs.Problem.{Box, low_at, Inside, True}
use Rattle.problem.specs.declared.Literal.{Literal}
use Rattle.problem.specs.declared.Literal.TheVariants.{AtMost, AtLeast}
use Rattle.narrow.specs.Narrowing.{is_false, open_of, literal_cut, unit_cut, clause_step}
use Rattle.narrow.specs.Named.{quantity_of, PlacedIn}
use Rattle.narrow.proofs.Boxes.{Single}
use Rattle.narrow.proofs.Cuts.{Quiet, Allows}
use Rattle.narrow.proofs.Steps.{LosesNone}

module _ (n : ℕ) (p : Point) where
  -- the literal's quantity is among the first n, and it is true
  abbrev Meets : Literal → Type 0
  Meets l = (quantity_of l < n) × True p l

  module _ (b : Box) (i : Inside n p b) where
    not_false : (l : Literal) → Meets l → is_false b l ≡ false
    not_false (AtMost q c) h = omega (ints, i.each q h.0)
    not_false (AtLeast q c) h = omega (ints, i.each q h.0)

    literal_allows : (l : Literal) → Meets l → Allows n p (literal_cut b l)
    literal_allows (AtMost q c) h = let j = i.each q h.0 in (h.0, omega ints)
    literal_allows (AtLeast q c) h = let j = i.each q h.0 in (h.0, omega ints)

    some_open : (ls : List Literal) → PlacedIn n ls → OneOf (True p) ls → OneOf Meets (open_of b ls)
    unfolding open_of
    some_open [] hs s = s
    some_open (l ∷ ls) hs (inl t) = let f = not_false l (hs.0, t) in rw f (inl (hs.0, t))
    some_open (l ∷ ls) hs (inr s) = go (is_false b l) (some_open ls hs.1 s)
      where
        go : (t : Bool) → OneOf Meets (open_of b ls) → OneOf Meets (cond t (open_of b ls) (l ∷ open_of b ls))
        go true r = r
        go false r = inr r

    unit_allows : (ls : List Literal) → OneOf Meets ls → Allows n p (unit_cut b ls)
    unit_allows [] s = s
    unit_allows (l ∷ []) (inl h) = literal_allows l h
    unit_allows (l ∷ []) (inr s) = absurd s
    unit_allows (l ∷ (m ∷ ls)) s = tt

  pub clause_sound : (ls : List Literal) → PlacedIn n ls → OneOf (True p) ls → LosesNone n p (clause_step ls)
  clause_sound ls hs s b i = unit_allows b i (open_of b ls) (some_open b i ls hs s)

-- ---- at one point's box a literal that is not false is true
module _ (b : Box) (o : Single b) where
  is_true : (l : Literal) → is_false b l ≡ false → True (low_at b) l
  is_true (AtMost q c) e = omega ints
  is_true (AtLeast q c) e = omega (ints, o q)

  some_or_none : (ls : List Literal) → OneOf (True (low_at b)) ls ⊎ (open_of b ls ≡ [])
  unfolding open_of
  some_or_none [] = inr refl
  some_or_none (l ∷ ls) = go (is_false b l) refl (some_or_none ls)
    where
      go : (t : Bool) → is_false b l ≡ t → OneOf (True (low_at b)) ls ⊎ (open_of b ls ≡ []) → (True (low_at b) l ⊎ OneOf (True (low_at b)) ls) ⊎ (cond t (open_of b ls) (l ∷ open_of b ls) ≡ [])
      go true e r = ⊎_elim (λ s. inl (inr s)) inr r
      go false e r = inl (inl (is_true l e))

  pub clause_point : (ls : List Literal) → Quiet b (clause_step ls b) → OneOf (True (low_at b)) ls
  clause_point ls h = ⊎_elim (λ s. s) (λ e. absurd (rw e at h)) (some_or_none ls)
