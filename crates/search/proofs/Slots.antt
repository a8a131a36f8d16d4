-- Where the boxes lie: slot j is the w numbers from j * w on, and the boxes that wait are those in the slots below s, the last first. What is
-- written at or past slot s changes none of these.
use mathlib.Core.Path.{◌≡◌, refl, sym, ap, ◌∙◌}
use mathlib.Core.List.{List, [], ◌∷◌, ◌++◌, append_assoc}
use Prim.Native.Nat.{ℕ, zero, suc, ◌+◌, ◌-◌, ◌*◌, ◌≤◌}
use native.Mathlib.Nat.{suc-mul}
use native.Mathlib.Omega.{arith}
use lib.ListN.{length, take, drop}
use lib.Seq.{take-take, take_at, drop_at, drop-drop, length-take-le}
use lib.IntN.{ℤ}
use borrow.Rule.Slice.PartMut.{mid_of, put_mid, take_put}
use Rattle.problem.specs.Problem.{Box}

unfoldable pub stack_of : ℕ → ℕ → List ℤ → List Box
stack_of w zero l = []
stack_of w (suc s) l = mid_of (s * w) w l ∷ stack_of w s l

pub stack_length : (w s : ℕ) (l : List ℤ) → length (stack_of w s l) ≡ s
unfolding stack_of
stack_length w zero l = refl
stack_length w (suc s) l = ap suc (stack_length w s l)

pub stack_none : (w : ℕ) (l : List ℤ) → stack_of w 0 l ≡ []
unfolding stack_of
stack_none w l = refl

pub stack_more : (w s : ℕ) (l : List ℤ) → stack_of w (suc s) l ≡ mid_of (s * w) w l ∷ stack_of w s l
unfolding stack_of
stack_more w s l = refl

-- ---- what lies before a place
mid_take : (j w a : ℕ) (l : List ℤ) → j + w ≤ a → mid_of j w (take a l) ≡ mid_of j w l
mid_take zero w a l h = take-take w a l (omega arith)
mid_take (suc j) w zero l h = absurd (omega arith)
mid_take (suc j) w (suc a) [] h = refl
mid_take (suc j) w (suc a) (x ∷ l) h = mid_take j w a l (omega arith)

stack_take : (w s a : ℕ) (l : List ℤ) → s * w ≤ a → stack_of w s (take a l) ≡ stack_of w s l
unfolding stack_of
stack_take w zero a l h = refl
stack_take w (suc s) a l h =
    let e = suc-mul s w in
    ap (λ (x : Box). x ∷ stack_of w s (take a l)) (mid_take (s * w) w a l (omega arith))
    ∙ ap (λ (xs : List Box). mid_of (s * w) w l ∷ xs) (stack_take w s a l (omega arith))

pub stack_put : (w s k : ℕ) (l ys : List ℤ) → s * w ≤ length l → stack_of w s (put_mid (s * w) k l ys) ≡ stack_of w s l
stack_put w s k l ys h =
    sym (stack_take w s (s * w) (put_mid (s * w) k l ys) (omega arith))
    ∙ ap (λ (x : List ℤ). stack_of w s x) (take_put (s * w) k l ys h)
    ∙ stack_take w s (s * w) l (omega arith)

-- ---- what was put at a place: one box, or two behind one another
pub mid_put : (a k j : ℕ) (l ys : List ℤ) → a ≤ length l → length ys ≡ j → mid_of a j (put_mid a k l ys) ≡ ys
mid_put a k j l ys h e =
    ap (λ (x : List ℤ). take j x) (drop_at (take a l) (ys ++ drop k (drop a l)) a (length-take-le a l h))
    ∙ take_at ys (drop k (drop a l)) j e

module _ (a k w : ℕ) (l xs ys : List ℤ) (h : a ≤ length l) (e : length xs ≡ w) where
  from : drop a (put_mid a k l (xs ++ ys)) ≡ xs ++ (ys ++ drop k (drop a l))
  from = drop_at (take a l) ((xs ++ ys) ++ drop k (drop a l)) a (length-take-le a l h) ∙ append_assoc xs ys (drop k (drop a l))

  pub mid_put_first : mid_of a w (put_mid a k l (xs ++ ys)) ≡ xs
  mid_put_first = ap (λ (x : List ℤ). take w x) from ∙ take_at xs (ys ++ drop k (drop a l)) w e

  pub mid_put_second : length ys ≡ w → mid_of (a + w) w (put_mid a k l (xs ++ ys)) ≡ ys
  mid_put_second f =
      ap (λ (x : List ℤ). take w x) (sym (drop-drop w a (put_mid a k l (xs ++ ys))) ∙ ap (λ (x : List ℤ). drop w x) from ∙ drop_at xs (ys ++ drop k (drop a l)) w e)
      ∙ take_at ys (drop k (drop a l)) w f

-- ---- lists that are the same from a place on are the same from a later place on
pub drop_far : (a b : ℕ) (xs ys : List ℤ) → a ≤ b → drop a xs ≡ drop a ys → drop b xs ≡ drop b ys
drop_far a b xs ys g e =
    let z : a + (b - a) ≡ b = omega arith in
    ap (λ (m : ℕ). drop m xs) (sym z) ∙ sym (drop-drop (b - a) a xs) ∙ ap (λ (x : List ℤ). drop (b - a) x) e
    ∙ drop-drop (b - a) a ys ∙ ap (λ (m : ℕ). drop m ys) z
