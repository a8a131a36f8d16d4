-- The names written at the front of their list: a letter more at the seam of a slot, and a slot more behind those before.
use mathlib.Core.Path.{◌≡◌, refl, sym, ap, ◌∙◌}
use mathlib.Core.List.{List, [], ◌∷◌, ◌++◌, append_assoc, append-nil}
use Prim.Native.Nat.{ℕ, zero, suc, ◌+◌, ◌-◌, ◌*◌, ◌/◌, ◌%◌, ◌≤◌, ◌<◌}
use native.Mathlib.Numerals.{add-one}
use native.Mathlib.Omega.{arith}
use lib.ListN.{length, get_or, take, drop, set, length-append}
use lib.Seq.{length-take-le, drop-drop, take-suc, take_at, drop_at}
use borrow.Author.Tests.{ne_eqb}
use borrow.Rule.Slice.PartMut.{put_mid}
use Rattle.meaning.specs.Lists.{letters_of, padded, name_bytes}
use Rattle.translate.specs.Translate.{filled}
use Rattle.translate.specs.inner.Letters.{Letters}
use Rattle.meaning.proofs.FlatLists.{names_append, names_length, letters_length, padded_length}
use Rattle.lines.proofs.Filling.{fill_next}

-- ---- a part more at the seam
fill_part : {A : Type 0} (xs ys old : List A) (a e : ℕ) → a ≡ length xs → e ≡ a + length ys → put_mid a (e - a) (filled xs old) ys ≡ filled (xs ++ ys) old
fill_part xs ys old a e p q =
    let k : e - a ≡ length ys = omega arith in
    let n : length xs + length ys ≡ length (xs ++ ys) = sym (length-append xs ys) in
    rw (k, take_at xs (drop (length xs) old) a (sym p), drop_at xs (drop (length xs) old) a (sym p), drop-drop (length ys) (length xs) old, n)
    (sym (append_assoc xs ys (drop (length (xs ++ ys)) old)))

-- ---- letters
module _ (k : ℕ) (old : List ℕ) where
  pub letters_done : (most : ℕ) → most ≡ 0 → Letters k most old old 0
  unfolding letters_of
  letters_done most e = rw e (record { count = refl; slot = refl })

  pub letters_none : (most : ℕ) → k ≡ 0 → Letters k most old old 0
  unfolding letters_of
  letters_none zero e = record { count = refl; slot = refl }
  letters_none (suc f) e = rw e (record { count = refl; slot = refl })

  pub letters_room : (most : ℕ) (new : List ℕ) (n : ℕ) → Letters k most old new n → n ≤ most
  letters_room most new n h = omega (arith, h.count, letters_length most k)

letters_step : (k f : ℕ) → (k ≡ 0 → ⊥) → letters_of (suc f) k ≡ letters_of f (k / 256) ++ (k % 256 ∷ [])
unfolding letters_of
letters_step k f z = rw (ne_eqb k 0 z)

pub letters_more : (k most : ℕ) (old new : List ℕ) (n : ℕ) → (most ≡ 0 → ⊥) → (k ≡ 0 → ⊥) → most ≤ length old → Letters (k / 256) (most - 1) old new n → Letters k most old (set new n (k % 256)) (n + 1)
letters_more k zero old new n m z h l = absurd (m refl)
letters_more k (suc f) old new n m z h l =
    let p : suc f - 1 ≡ f = omega arith in
    let q : Letters (k / 256) f old new n = rw p at l in
    let w = letters_of f (k / 256) in
    let short : length w < length old = omega (arith, letters_length f (k / 256)) in
    record {
      count = rw (letters_step k f z) (omega (arith, q.count, length-append w (k % 256 ∷ [])));
      slot = rw (letters_step k f z, q.slot) (fill_next w old n (k % 256) 0 q.count short);
    }

-- ---- one name more
module _ (keys names : List ℕ) (i : ℕ) (h : i < length keys) (fits : 8 * length keys ≤ length names) where
  pub names_next : (l new : List ℕ) (a e : ℕ) → a ≡ 8 * i → e ≡ a + 8 → l ≡ filled (name_bytes (take i keys)) names → new ≡ padded (get_or keys i 0) → put_mid a (e - a) l new ≡ filled (name_bytes (take (i + 1) keys)) names
  unfolding name_bytes
  names_next l new a e p q r s =
      let n : length (name_bytes (take i keys)) ≡ 8 * i = names_length (take i keys) ∙ ap (λ (k : ℕ). 8 * k) (length-take-le i keys (omega arith)) in
      let m : take (i + 1) keys ≡ take i keys ++ (get_or keys i 0 ∷ []) = rw add-one (take-suc keys i 0 h) in
      let w : name_bytes (take (i + 1) keys) ≡ name_bytes (take i keys) ++ padded (get_or keys i 0) =
      ap name_bytes m ∙ names_append (take i keys) (get_or keys i 0 ∷ []) ∙ ap (λ (x : List ℕ). name_bytes (take i keys) ++ x) (append-nil (padded (get_or keys i 0))) in
      rw (r, s, w) (fill_part (name_bytes (take i keys)) (padded (get_or keys i 0)) names a e (p ∙ sym n) (q ∙ ap (λ (k : ℕ). a + k) (sym (padded_length (get_or keys i 0)))))

pub names_none : (names : List ℕ) → names ≡ filled (name_bytes []) names
unfolding name_bytes
names_none names = refl
