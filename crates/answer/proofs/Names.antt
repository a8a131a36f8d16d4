-- A name is declared by a token that went through the test of its letters, so the names of an accepted sheet are 1 to 8 lower-case letters.
use mathlib.Core.Path.{◌≡◌, refl, subst}
use mathlib.Core.List.{List, [], ◌∷◌, map}
use Prim.Native.Nat.{ℕ}
use Rattle.whole.specs.Lists.{AllOf}
use Rattle.sheet.specs.Tokens.{pieces_of, token_of, tokens_of}
use Rattle.sheet.specs.Grammar.{Line, ranged, default, must, when, spell_line}
use Rattle.sheet.specs.declared.Token.{Token}
use Rattle.sheet.specs.declared.Token.TheVariants.{Name}
use Rattle.meaning.specs.Draft.{Draft, blank, after}
use Rattle.meaning.specs.Grounds.{read, top_of, outcome_of}
use Rattle.meaning.proofs.Elements.{all_join}
use Rattle.meaning.proofs.Faultless.{text_read}
use Rattle.meaning.proofs.NameLetters as letters
use Rattle.meaning.proofs.LineInduction.{by_lines}

-- a name of some piece of 1 to 8 lower-case letters
pub record Lettered (n : ℕ) : Type 0 where
  pub word : List ℕ
  pub letters : letters.Lettered word n

-- a token, if it is a name
abbrev Spelt : Token → Type 0
Spelt t = (n : ℕ) → t ≡ Name n → Lettered n

pieces_spelt : (ws : List (List ℕ)) → AllOf Spelt (map token_of ws)
pieces_spelt [] = tt
pieces_spelt (w ∷ ws) = (λ n e. record { word = w; letters = letters.name_lettered w n e }, pieces_spelt ws)

tokens_spelt : (l : List ℕ) (ts : List Token) → tokens_of l ≡ ts → AllOf Spelt ts
unfolding tokens_of
tokens_spelt l ts e = subst (AllOf Spelt) e (pieces_spelt (pieces_of l))

-- ---- sheets: a line more
lettered_after : (top : ℕ) (s : Draft) (t : List ℕ) (l : Line) → AllOf Lettered s.names → tokens_of t ≡ spell_line l → AllOf Lettered (after top s l).names
unfolding after spell_line
lettered_after top s t (ranged n low high) h e = all_join Lettered s.names (n ∷ []) h ((tokens_spelt t _ e).1.0 n refl, tt)
lettered_after top s t (default n) h e = all_join Lettered s.names (n ∷ []) h ((tokens_spelt t _ e).1.0 n refl, tt)
lettered_after top s t (must d ds) h e = h
lettered_after top s t (when c cs d ds) h e = h

pub names_lettered : (t : List ℕ) (s : Draft) → outcome_of t ≡ read s → AllOf Lettered s.names
names_lettered t s e =
    let r = text_read t s e in
    (by_lines (top_of r.version) (λ ls s. AllOf Lettered s.names) (λ ls s t l h spelt f. lettered_after (top_of r.version) s t l h spelt) _ 2 blank s [] tt r.lines).2
