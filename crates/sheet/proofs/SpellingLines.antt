-- A line is read exactly if its tokens spell a tree, and then as that tree; so no line spells two. By the same of its comparisons; the number that
-- bounds the reading of a line, 8 for each token and 8, is enough for each part.
use mathlib.Core.Path.{◌≡◌, refl, sym, ◌∙◌, ap, ap₂}
use mathlib.Core.List.{List, [], ◌∷◌, ◌++◌, append-nil}
use mathlib.Core.Bool.{Bool, true, false, cond, ◌&&◌, true≢false}
use mathlib.Core.Option.{Option, none, some}
use mathlib.Core.Logic.{◌↔◌}
use Prim.Native.Nat.{ℕ, zero, suc, ◌+◌, ◌*◌, ◌≤◌}
use native.Mathlib.Omega.{arith}
use lib.ListN.{length, length-append}
use lib.IntN.{ℤ, pos, negsuc}
use lib.Dec.{eqb, lit<}
use borrow.Author.Tests.{ne_eqb, eqb-true}
use Rattle.whole.specs.Lists.{AllOf}
use Rattle.sheet.specs.Tokens.{tokens_of}
use Rattle.sheet.specs.Grammar.{Comparison, Line, ranged, default, must, when, spell_all, signed, spell_line}
use Rattle.sheet.specs.Reading.{token_no, payload, rest_of, head_no, Read, whole, all_f, signed_of, is_signed, read_range, as_must, as_when, then_of, read_line}
use Rattle.sheet.specs.inner.Contents.{Proper}
use Rattle.sheet.specs.declared.Mark.TheVariants.{Range, Must, If, Then, And, Or}
use Rattle.sheet.specs.declared.Token.{Token}
use Rattle.sheet.specs.declared.Token.TheVariants.{Number, Negative, Name, Fixed, Bad}
use Rattle.sheet.proofs.Heads.{mark_above, is_name, headed}
use Rattle.sheet.proofs.Contents.{proper_tokens}
use Rattle.sheet.proofs.Spelling.{impossible, EndE}
use Rattle.sheet.proofs.SpellingComparisons.{all_sound, mark_ends, all_complete}

-- the numbers of a range line
signed_back : (z : ℤ) → signed_of (signed z) ≡ z
signed_back (pos n) = refl
signed_back (negsuc n) = ap negsuc (omega arith)

signed_is : (z : ℤ) → is_signed (signed z) ≡ true
signed_is (pos n) = refl
signed_is (negsuc n) = refl

signed_spelt : (t : Token) → Proper t → is_signed t ≡ true → t ≡ signed (signed_of t)
signed_spelt (Number n) f h = refl
signed_spelt (Negative zero) f h = absurd (omega (arith, f.0))
signed_spelt (Negative (suc n)) f h = ap (λ (k : ℕ). Negative (suc k)) (omega arith)
signed_spelt (Name n) f h = absurd (true≢false (sym h))
signed_spelt (Fixed m) f h =
    let a = mark_above m in
    absurd (true≢false (sym h ∙ rw (ne_eqb (token_no (Fixed m)) 1 (λ z. omega arith), ne_eqb (token_no (Fixed m)) 3 (λ z. omega arith))))
signed_spelt Bad f h = absurd (true≢false (sym h))

range_read : (n : ℕ) (low high : ℤ) → read_range (Name n ∷ signed low ∷ signed high ∷ []) ≡ some (ranged n low high)
unfolding read_range
range_read n low high = rw (signed_is low, signed_is high, signed_back low, signed_back high)

range_spelt : (ts : List Token) → AllOf Proper ts → (l : Line) → read_range ts ≡ some l → Fixed Range ∷ ts ≡ spell_line l
unfolding read_range spell_line
range_spelt [] f l h = impossible l h
range_spelt (n ∷ []) f l h = by (eqb (token_no n) 2) refl h
  where
    by : (p : Bool) → eqb (token_no n) 2 ≡ p → cond p (some (default (payload n))) none ≡ some l → Fixed Range ∷ n ∷ [] ≡ spell_line l
    by true x g =
        let e : default (payload n) ≡ l = cc in
        ap (λ (t : Token). Fixed Range ∷ t ∷ []) (is_name n (eqb-true (token_no n) 2 x)) ∙ ap spell_line e
    by false x g = impossible l g
range_spelt (n ∷ (a ∷ [])) f l h = impossible l h
range_spelt (n ∷ (a ∷ (b ∷ []))) f l h = by (eqb (token_no n) 2) (is_signed a) (is_signed b) refl refl refl h
  where
    by : (p q r : Bool) → eqb (token_no n) 2 ≡ p → is_signed a ≡ q → is_signed b ≡ r
        → cond (p && (q && r)) (some (ranged (payload n) (signed_of a) (signed_of b))) none ≡ some l
        → Fixed Range ∷ n ∷ a ∷ b ∷ [] ≡ spell_line l
    by true true true x y z g =
        let e : ranged (payload n) (signed_of a) (signed_of b) ≡ l = cc in
        ap (λ (t : Token). Fixed Range ∷ t ∷ a ∷ b ∷ []) (is_name n (eqb-true (token_no n) 2 x))
        ∙ ap₂ (λ (t u : Token). Fixed Range ∷ Name (payload n) ∷ t ∷ u ∷ []) (signed_spelt a f.1.0 y) (signed_spelt b f.1.1.0 z)
        ∙ ap spell_line e
    by true true false x y z g = impossible l g
    by true false r x y z g = impossible l g
    by false q r x y z g = impossible l g
range_spelt (n ∷ (a ∷ (b ∷ (t ∷ ts)))) f l h = impossible l h

-- what is read whole leaves no token
whole_inv : {A : Type 0} (o : Read A) (a : A) → whole o ≡ some a → o ≡ some (a, [])
whole_inv none a h = impossible a h
whole_inv (some (b, [])) a h = let e : b ≡ a = cc in rw e
whole_inv (some (b, (t ∷ ts))) a h = impossible a h

must_spelt : (k : ℕ) (ts : List Token) (l : Line) → as_must (whole (all_f k 21 ts)) ≡ some l → Fixed Must ∷ ts ≡ spell_line l
unfolding spell_line
must_spelt k ts l h = by (whole (all_f k 21 ts)) refl h
  where
    by : (o : Option (Comparison × List Comparison)) → whole (all_f k 21 ts) ≡ o → as_must o ≡ some l → Fixed Must ∷ ts ≡ spell_line l
    by none x g = impossible l g
    by (some p) x g =
        let e : must p.0 p.1 ≡ l = cc in
        ap (λ (us : List Token). Fixed Must ∷ us) (all_sound Or k ts p [] (whole_inv (all_f k 21 ts) p x) ∙ append-nil (spell_all Or p.0 p.1))
        ∙ ap spell_line e

then_spelt : (k : ℕ) (c : Comparison × List Comparison) (ts : List Token) (l : Line) → as_when c (whole (all_f k 21 ts)) ≡ some l
    → Fixed If ∷ (spell_all And c.0 c.1 ++ (Fixed Then ∷ ts)) ≡ spell_line l
unfolding spell_line
then_spelt k c ts l h = by (whole (all_f k 21 ts)) refl h
  where
    by : (o : Option (Comparison × List Comparison)) → whole (all_f k 21 ts) ≡ o → as_when c o ≡ some l
        → Fixed If ∷ (spell_all And c.0 c.1 ++ (Fixed Then ∷ ts)) ≡ spell_line l
    by none x g = impossible l g
    by (some d) x g =
        let e : when c.0 c.1 d.0 d.1 ≡ l = cc in
        ap (λ (us : List Token). Fixed If ∷ (spell_all And c.0 c.1 ++ (Fixed Then ∷ us)))
        (all_sound Or k ts d [] (whole_inv (all_f k 21 ts) d x) ∙ append-nil (spell_all Or d.0 d.1))
        ∙ ap spell_line e

when_spelt : (k : ℕ) (ts : List Token) (l : Line) → then_of k (all_f k 20 ts) ≡ some l → Fixed If ∷ ts ≡ spell_line l
when_spelt k ts l h = by (all_f k 20 ts) refl h
  where
    on : (p : (Comparison × List Comparison) × List Token) (b : Bool) → eqb (head_no p.1) 19 ≡ b → all_f k 20 ts ≡ some p
        → cond b (as_when p.0 (whole (all_f k 21 (rest_of p.1)))) none ≡ some l → Fixed If ∷ ts ≡ spell_line l
    on p true y x g =
        ap (λ (us : List Token). Fixed If ∷ us)
        (all_sound And k ts p.0 p.1 x
        ∙ ap (λ (us : List Token). spell_all And p.0.0 p.0.1 ++ us) (headed p.1 Then (eqb-true (head_no p.1) 19 y)))
        ∙ then_spelt k p.0 (rest_of p.1) l g
    on p false y x g = impossible l g

    by : (o : Read (Comparison × List Comparison)) → all_f k 20 ts ≡ o → then_of k o ≡ some l → Fixed If ∷ ts ≡ spell_line l
    by none x g = impossible l g
    by (some p) x g = on p (eqb (head_no p.1) 19) refl x g

rest_proper : (ts : List Token) → AllOf Proper ts → AllOf Proper (rest_of ts)
rest_proper [] f = tt
rest_proper (t ∷ ts) f = f.1

-- what is read is spelt by its tree
pub spelt_read : (ts : List Token) → AllOf Proper ts → (l : Line) → read_line ts ≡ some l → ts ≡ spell_line l
unfolding read_line
spelt_read ts f l = by (eqb (head_no ts) 16) (eqb (head_no ts) 17) (eqb (head_no ts) 18) refl refl refl
  where
    k : ℕ
    k = 8 * length ts + 8

    us : List Token
    us = rest_of ts

    by : (p q r : Bool) → eqb (head_no ts) 16 ≡ p → eqb (head_no ts) 17 ≡ q → eqb (head_no ts) 18 ≡ r
        → cond p (read_range us) (cond q (as_must (whole (all_f k 21 us))) (cond r (then_of k (all_f k 20 us)) none)) ≡ some l
        → ts ≡ spell_line l
    by true q r x y z g = headed ts Range (eqb-true (head_no ts) 16 x) ∙ range_spelt us (rest_proper ts f) l g
    by false true r x y z g = headed ts Must (eqb-true (head_no ts) 17 y) ∙ must_spelt k us l g
    by false false true x y z g = headed ts If (eqb-true (head_no ts) 18 z) ∙ when_spelt k us l g
    by false false false x y z g = impossible l g

-- a line's end ends an expression
end_ends : EndE []
unfolding EndE
end_ends = omega arith

-- the demands at a line's end
demands_read : (d : Comparison) (ds : List Comparison) (k : ℕ) → 8 * length (spell_all Or d ds) + 8 ≤ k → all_f k 21 (spell_all Or d ds) ≡ some ((d, ds), [])
demands_read d ds k b = rw (append-nil (spell_all Or d ds)) at (all_complete Or (lit< tt) d ds k [] end_ends (λ z. omega arith) b)

-- the tree that is spelt is read
pub read_spelt : (l : Line) → read_line (spell_line l) ≡ some l
unfolding read_line read_range spell_line
read_spelt (ranged n low high) = range_read n low high
read_spelt (default n) = refl
read_spelt (must d ds) = rw (demands_read d ds (8 * length (Fixed Must ∷ spell_all Or d ds) + 8) (omega arith))
read_spelt (when c cs d ds) =
    let ts = Fixed Then ∷ spell_all Or d ds in
    let k = 8 * length (Fixed If ∷ (spell_all And c cs ++ ts)) + 8 in
    let len = length-append (spell_all And c cs) ts in
    rw (
      all_complete And (lit< tt) c cs k ts (mark_ends Then (spell_all Or d ds) (lit< tt)) (λ z. omega arith) (omega arith),
      demands_read d ds k (omega arith),
    )

-- no tokens spell two lines
pub spells_one : (t u : Line) → spell_line t ≡ spell_line u → t ≡ u
spells_one t u h = let e : read_line (spell_line t) ≡ read_line (spell_line u) = ap read_line h in cc (read_spelt t, read_spelt u)

-- a line of text is read as a tree exactly if it is the tree's spelling
pub reads_exactly : (l : List ℕ) (t : Line) → (read_line (tokens_of l) ≡ some t) ↔ (tokens_of l ≡ spell_line t)
reads_exactly l t = (spelt_read (tokens_of l) (proper_tokens l) t, (λ e. ap read_line e ∙ read_spelt t))

-- a line of text that is not read is the spelling of no tree
pub not_read : (l : List ℕ) → read_line (tokens_of l) ≡ none → (t : Line) → tokens_of l ≡ spell_line t → ⊥
not_read l h t e = impossible t (sym h ∙ (reads_exactly l t).1 e)
