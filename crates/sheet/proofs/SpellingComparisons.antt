-- Comparisons, alone and with a mark between them, are read exactly where they are spelt: each side is, and a sign, `and`, `or` or `then` ends
-- an expression.
use mathlib.Core.Path.{◌≡◌, refl, sym, ◌∙◌, ap}
use mathlib.Core.List.{List, [], ◌∷◌, ◌++◌, append_assoc, append-nil}
use mathlib.Core.Bool.{Bool, true, false, cond, ◌&&◌}
use mathlib.Core.Option.{none, some}
use Prim.Native.Nat.{ℕ, zero, suc, ◌+◌, ◌-◌, ◌*◌, ◌≤◌, ◌<◌}
use native.Mathlib.Omega.{arith}
use lib.ListN.{length, length-append}
use lib.Dec.{eqb, leb}
use borrow.Author.Tests.{eq-eqb, ne_eqb, eqb-true, leb-true, le-leb}
use Rattle.sheet.specs.Grammar.{Expr, Comparison, spell_e, mark_for, spell_c, spell_all}
use Rattle.sheet.specs.Reading.{token_no, rest_of, head_no, and_then, expr_f, sign_of, compared, comparison_f, more_f, all_f}
use Rattle.sheet.specs.declared.Mark.{Mark}
use Rattle.sheet.specs.declared.Token.{Token}
use Rattle.sheet.specs.declared.Token.TheVariants.{Fixed}
use Rattle.sheet.specs.declared.Sign.{Sign}
use Rattle.sheet.specs.declared.Sign.TheVariants.{AtMost, Below, AtLeast, Above, Equal, Differ}
use Rattle.sheet.proofs.Heads.{behind}
use Rattle.sheet.proofs.Spelling.{impossible, then_inv, same, SpeltBy, EndE, sound, complete}

-- a sign's mark is read as the sign, and stands for it
sign_back : (s : Sign) → sign_of (token_no (Fixed (mark_for s))) ≡ s
sign_back AtMost = refl
sign_back Below = refl
sign_back AtLeast = refl
sign_back Above = refl
sign_back Equal = refl
sign_back Differ = refl

sign_low : (s : Sign) → 10 ≤ token_no (Fixed (mark_for s))
sign_low AtMost = omega arith
sign_low Below = omega arith
sign_low AtLeast = omega arith
sign_low Above = omega arith
sign_low Equal = omega arith
sign_low Differ = omega arith

sign_high : (s : Sign) → token_no (Fixed (mark_for s)) ≤ 15
sign_high AtMost = omega arith
sign_high Below = omega arith
sign_high AtLeast = omega arith
sign_high Above = omega arith
sign_high Equal = omega arith
sign_high Differ = omega arith

sign_number : (i : ℕ) → i ≤ 5 → token_no (Fixed (mark_for (sign_of (10 + i)))) ≡ 10 + i
sign_number zero h = refl
sign_number (suc zero) h = refl
sign_number (suc (suc zero)) h = refl
sign_number (suc (suc (suc zero))) h = refl
sign_number (suc (suc (suc (suc zero)))) h = refl
sign_number (suc (suc (suc (suc (suc zero))))) h = refl
sign_number (suc (suc (suc (suc (suc (suc i)))))) h = absurd (omega arith)

sign_of_lem : (n : ℕ) → 10 ≤ n → n ≤ 15 → n ≡ token_no (Fixed (mark_for (sign_of n)))
sign_of_lem n l h = let e : n ≡ 10 + (n - 10) = omega arith in rw e (sym (sign_number (n - 10) (omega arith)))

-- what stands behind the left side: a sign and the right side
behind_sound : (k : ℕ) (l : Expr) (us : List Token) (c : Comparison) (rest : List Token)
    → cond (leb 10 (head_no us) && leb (head_no us) 15) (and_then (expr_f k (rest_of us)) (compared l (head_no us))) none ≡ some (c, rest)
    → spell_e l ++ us ≡ spell_c c ++ rest
unfolding spell_c
behind_sound k l us c rest = by (leb 10 (head_no us)) (leb (head_no us) 15) refl refl
  where
    by : (p q : Bool) → leb 10 (head_no us) ≡ p → leb (head_no us) 15 ≡ q
        → cond (p && q) (and_then (expr_f k (rest_of us)) (compared l (head_no us))) none ≡ some (c, rest)
        → spell_e l ++ us ≡ spell_c c ++ rest
    by true true x y g =
        let s = sign_of (head_no us) in
        let i = then_inv (expr_f k (rest_of us)) (compared l (head_no us)) (c, rest) g in
        behind (spell_e l) us (spell_e i.0) i.1 (mark_for s) (sign_of_lem (head_no us) (leb-true 10 (head_no us) x) (leb-true (head_no us) 15 y))
        (sound k (rest_of us) i.0 i.1 i.2)
        ∙ same spell_c (record { left = l; sign = s; right = i.0 }) c i.1 rest i.3
    by true false x y g = impossible (c, rest) g
    by false q x y g = impossible (c, rest) g

comparison_sound : (k : ℕ) → SpeltBy spell_c (comparison_f k)
unfolding comparison_f
comparison_sound k ts c rest h =
    let i = then_inv (expr_f k ts) _ (c, rest) h in
    sound k ts i.0 i.1 i.2 ∙ behind_sound k i.0 i.1 c rest i.3

-- a sign ends an expression
sign_ends : (s : Sign) (ts : List Token) → EndE (Fixed (mark_for s) ∷ ts)
unfolding EndE
sign_ends s ts = omega (arith, sign_low s)

comparison_complete : (c : Comparison) (k : ℕ) (rest : List Token) → EndE rest → 8 * length (spell_c c) + 6 ≤ k
    → comparison_f k (spell_c c ++ rest) ≡ some (c, rest)
unfolding comparison_f spell_c
comparison_complete c k rest h b =
    let m = Fixed (mark_for c.sign) in
    let len = length-append (spell_e c.left) (m ∷ spell_e c.right) in
    rw (
      append_assoc (spell_e c.left) (m ∷ spell_e c.right) rest,
      complete c.left k (m ∷ (spell_e c.right ++ rest)) (sign_ends c.sign _) (omega arith),
      complete c.right k rest h (omega arith),
      le-leb 10 (token_no m) (sign_low c.sign),
      le-leb (token_no m) 15 (sign_high c.sign),
      sign_back c.sign,
    )

-- ---- comparisons with a mark between them

-- those behind the first
spell_more : Mark → List Comparison → List Token
spell_more m [] = []
spell_more m (c ∷ cs) = Fixed m ∷ (spell_c c ++ spell_more m cs)

spell_all_lem : (m : Mark) (c : Comparison) (cs : List Comparison) → spell_all m c cs ≡ spell_c c ++ spell_more m cs
unfolding spell_all spell_more
spell_all_lem m c [] = sym (append-nil (spell_c c))
spell_all_lem m c (d ∷ ds) = rw (spell_all_lem m d ds)

joined : (ts us vs ws : List Token) → us ≡ vs ++ ws → ts ++ us ≡ (ts ++ vs) ++ ws
joined ts us vs ws e = ap (λ (xs : List Token). ts ++ xs) e ∙ sym (append_assoc ts vs ws)

more_sound : (m : Mark) (k : ℕ) → SpeltBy (spell_more m) (more_f k (token_no (Fixed m)))
unfolding more_f spell_more
more_sound m zero ts cs rest h = impossible (cs, rest) h
more_sound m (suc k) ts cs rest h = by (eqb (head_no ts) n) refl (more_sound m k) h
  where
    n : ℕ
    n = token_no (Fixed m)

    by : (p : Bool) → eqb (head_no ts) n ≡ p → SpeltBy (spell_more m) (more_f k n)
        → cond p (and_then (comparison_f k (rest_of ts)) (λ c us. and_then (more_f k n us) (λ ds vs. some (c ∷ ds, vs)))) (some ([], ts)) ≡ some (cs, rest)
        → ts ≡ spell_more m cs ++ rest
    by true x more g =
        let i = then_inv (comparison_f k (rest_of ts)) (λ c us. and_then (more_f k n us) (λ ds vs. some (c ∷ ds, vs))) (cs, rest) g in
        let j = then_inv (more_f k n i.1) (λ ds vs. some (i.0 ∷ ds, vs)) (cs, rest) i.3 in
        behind [] ts (spell_c i.0 ++ spell_more m j.0) j.1 m (eqb-true (head_no ts) n x)
        (comparison_sound k (rest_of ts) i.0 i.1 i.2
        ∙ joined (spell_c i.0) i.1 (spell_more m j.0) j.1 (more i.1 j.0 j.1 j.2))
        ∙ same (spell_more m) (i.0 ∷ j.0) cs j.1 rest j.3
    by false x more g = same (spell_more m) [] cs ts rest g

-- comparisons, the first and the others, as one
abbrev pub spell_pair : Mark → Comparison × List Comparison → List Token
spell_pair m p = spell_all m p.0 p.1

pub all_sound : (m : Mark) (k : ℕ) → SpeltBy (spell_pair m) (all_f k (token_no (Fixed m)))
unfolding all_f
all_sound m k ts p rest h =
    let i = then_inv (comparison_f k ts) _ (p, rest) h in
    let j = then_inv (more_f k (token_no (Fixed m)) i.1) (λ cs end. some ((i.0, cs), end)) (p, rest) i.3 in
    comparison_sound k ts i.0 i.1 i.2
    ∙ joined (spell_c i.0) i.1 (spell_more m j.0) j.1 (more_sound m k i.1 j.0 j.1 j.2)
    ∙ ap (λ (us : List Token). us ++ j.1) (sym (spell_all_lem m i.0 j.0))
    ∙ same (spell_pair m) (i.0, j.0) p j.1 rest j.3

-- a mark behind the signs of sums, products and squares ends an expression; so do the comparisons behind the first
pub mark_ends : (m : Mark) (ts : List Token) → 9 < token_no (Fixed m) → EndE (Fixed m ∷ ts)
unfolding EndE
mark_ends m ts h = omega arith

more_ends : (m : Mark) (cs : List Comparison) (rest : List Token) → 9 < token_no (Fixed m) → EndE rest → EndE (spell_more m cs ++ rest)
unfolding spell_more
more_ends m [] rest h e = e
more_ends m (c ∷ cs) rest h e = mark_ends m ((spell_c c ++ spell_more m cs) ++ rest) h

more_complete : (m : Mark) → 9 < token_no (Fixed m) → (cs : List Comparison) (k : ℕ) (rest : List Token)
    → EndE rest → (head_no rest ≡ token_no (Fixed m) → ⊥)
    → 8 * length (spell_more m cs) + 8 ≤ k → more_f k (token_no (Fixed m)) (spell_more m cs ++ rest) ≡ some (cs, rest)
unfolding more_f spell_more
more_complete m h cs zero rest e n b = absurd (omega arith)
more_complete m h [] (suc k) rest e n b = rw (ne_eqb (head_no rest) (token_no (Fixed m)) n)
more_complete m h (c ∷ cs) (suc k) rest e n b =
    let len = length-append (spell_c c) (spell_more m cs) in
    rw (
      append_assoc (spell_c c) (spell_more m cs) rest,
      eq-eqb (token_no (Fixed m)) (token_no (Fixed m)) refl,
      comparison_complete c k (spell_more m cs ++ rest) (more_ends m cs rest h e) (omega arith),
      more_complete m h cs k rest e n (omega arith),
    )

pub all_complete : (m : Mark) → 9 < token_no (Fixed m) → (c : Comparison) (cs : List Comparison) (k : ℕ) (rest : List Token)
    → EndE rest → (head_no rest ≡ token_no (Fixed m) → ⊥)
    → 8 * length (spell_all m c cs) + 8 ≤ k → all_f k (token_no (Fixed m)) (spell_all m c cs ++ rest) ≡ some ((c, cs), rest)
unfolding all_f
all_complete m h c cs k rest e n b =
    let len = length-append (spell_c c) (spell_more m cs) in
    let all = ap length (spell_all_lem m c cs) in
    rw (
      spell_all_lem m c cs,
      append_assoc (spell_c c) (spell_more m cs) rest,
      comparison_complete c k (spell_more m cs ++ rest) (more_ends m cs rest h e) (omega arith),
      more_complete m h cs k rest e n (omega arith),
    )
