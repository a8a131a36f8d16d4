-- A list filled from the front: one element more at the seam fills it by one; and what stands in front of a part that came back changed.
use mathlib.Core.Path.{◌≡◌, sym, ap, ◌∙◌}
use mathlib.Core.List.{List, [], ◌∷◌, ◌++◌}
use Prim.Native.Nat.{ℕ, suc, ◌+◌, ◌≤◌, ◌<◌}
use native.Mathlib.Numerals.{add-one}
use lib.ListN.{length, get_or, take, drop, set, length-append}
use lib.Seq.{length-take-le, drop-cons, take-append-add, take-append-le, append_snoc, set-append_seam}
use borrow.Rule.Slice.PartMut.{put_mid}

-- ---- one element more at the seam
pub fill_next : {A : Type 0} (xs old : List A) (n : ℕ) (v d : A) → n ≡ length xs → length xs < length old → set (xs ++ drop (length xs) old) n v ≡ (xs ++ (v ∷ [])) ++ drop (length (xs ++ (v ∷ []))) old
fill_next {A} xs old n v d e h =
    let m : length (xs ++ (v ∷ [])) ≡ suc (length xs) = length-append xs (v ∷ []) ∙ add-one (length xs) in
    ap (λ (k : ℕ). set (xs ++ drop (length xs) old) k v) e
    ∙ ap (λ (l : List A). set (xs ++ l) (length xs) v) (drop-cons old (length xs) d h)
    ∙ set-append_seam xs (get_or old (length xs) d) (drop (suc (length xs)) old) v
    ∙ sym (append_snoc xs v (drop (suc (length xs)) old))
    ∙ ap (λ (k : ℕ). (xs ++ (v ∷ [])) ++ drop k old) (sym m)

-- ---- the front of a list whose rest came back changed
pub part_front : {A : Type 0} (a k m : ℕ) (xs ys : List A) → a ≤ length xs → m ≤ length ys → take (a + m) (put_mid a k xs ys) ≡ take a xs ++ take m ys
part_front {A} a k m xs ys h l =
    let n : length (take a xs) ≡ a = length-take-le a xs h in
    let post = drop k (drop a xs) in
    ap (λ (i : ℕ). take (i + m) (take a xs ++ (ys ++ post))) (sym n)
    ∙ take-append-add (take a xs) (ys ++ post) m
    ∙ ap (λ (z : List A). take a xs ++ z) (take-append-le m ys post l)
