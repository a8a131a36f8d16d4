-- The helpers' values depend on the declared quantities only, and behind these a point may have any list of values: so it extends, and in one way.
use mathlib.Core.Path.{◌≡◌, refl, sym, ap, ap₂, subst, ◌∙◌}
use mathlib.Core.Bool.{Bool, true, false, cond}
use mathlib.Core.List.{List, [], ◌∷◌, ◌++◌}
use Prim.Native.Nat.{ℕ, ◌+◌, ◌-◌, ◌≤◌}
use native.Mathlib.Omega.{arith}
use native.Mathlib.Nat.{add-sub_cancel_left}
use lib.Dec.{ltb}
use lib.ListN.{length, get_or}
use lib.IntN.{ℤ, pos, ◌*ℤ◌}
use borrow.Author.Tests.{lt-ltb, le-ltb, ltb-true, ltb-false}
use Rattle.whole.specs.Ranges.{Point}
use Rattle.problem.specs.Order.{Alike}
use Rattle.meaning.specs.Plain.{Tree, constant, quantity, binary, square, Asked}
use Rattle.meaning.specs.Translation.{gap_of}
use Rattle.meaning.proofs.Elements.{each_at, each_from}
use Rattle.meaning.proofs.PlainValues.{result, value, Names}
use Rattle.meaning.proofs.Pieces.{Shows}
use Rattle.meaning.proofs.TreeValues.{values, gap_values, Named}

module _ (n : ℕ) (p p' : Point) (same : Alike n p p') where
  pub value_same : (t : Tree) → Names n t → value p t ≡ value p' t
  value_same (constant k) u = refl
  value_same (quantity q) u = same q u
  value_same (binary o a b) u = ap₂ (result o) (value_same a u.0) (value_same b u.1)
  value_same (square a) u = ap (λ (z : ℤ). z *ℤ z) (value_same a u)

  values_same : (t : Tree) → Names n t → values p t ≡ values p' t
  values_same (constant k) u = refl
  values_same (quantity q) u = refl
  values_same (binary o a b) u = rw (values_same a u.0, values_same b u.1, value_same a u.0, value_same b u.1)
  values_same (square a) u = rw (values_same a u, value_same a u)

  pub gap_values_same : (asked : List Asked) → Named n asked → gap_values p asked ≡ gap_values p' asked
  gap_values_same [] u = refl
  gap_values_same (a ∷ more) u = ap₂ ◌++◌ (values_same (gap_of a) u.0) (gap_values_same more u.1)

-- behind the first n values, those of a list
abbrev pub extension : ℕ → Point → List ℤ → Point
extension n p zs q = cond (ltb q n) (p q) (get_or zs (q - n) (pos 0))

pub extension_same : (n : ℕ) (p : Point) (zs : List ℤ) → Alike n (extension n p zs) p
extension_same n p zs q h = rw (lt-ltb q n h)

pub extension_shows : (n : ℕ) (p : Point) (zs : List ℤ) → Shows (extension n p zs) n zs
extension_shows n p zs = each_from (λ q z. extension n p zs q ≡ z) zs (pos 0) n (λ i l. rw (le-ltb (n + i) n (omega arith), add-sub_cancel_left n i))

-- two points that show the same list from n on, and are alike up to n, are alike as far as the list goes
pub alike_on : (p p' : Point) (n m : ℕ) (xs ys : List ℤ) → xs ≡ ys → n + length xs ≡ m → Shows p n xs → Shows p' n ys → Alike n p p' → Alike m p p'
alike_on p p' n m xs ys e f h i same q l = go (ltb q n) refl
  where
    j : Shows p' n xs
    j = subst (Shows p' n) (sym e) i

    go : (x : Bool) → ltb q n ≡ x → p q ≡ p' q
    go true g = same q (ltb-true q n g)
    go false g =
        let k : n ≤ q = ltb-false q n g in
        let w : n + (q - n) ≡ q = omega arith in
        rw w at (each_at (λ q z. p q ≡ z) xs (pos 0) n (q - n) (omega arith) h ∙ sym (each_at (λ q z. p' q ≡ z) xs (pos 0) n (q - n) (omega arith) j))
