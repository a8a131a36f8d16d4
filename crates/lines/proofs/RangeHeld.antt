-- A range line: before the first rule no helper stands behind the declared quantities, so the new range put at the end of the front makes the lists hold the sheet with the line.
use mathlib.Core.Path.{◌≡◌, sym, ap, ◌∙◌}
use mathlib.Core.Bool.{false}
use mathlib.Core.List.{List, [], ◌∷◌, ◌++◌, append-nil}
use Prim.Native.Nat.{ℕ, ◌+◌, ◌*◌, ◌≤◌}
use native.Mathlib.Omega.{arith}
use lib.IntN.{ℤ}
use lib.ListN.{take, length-append}
use Rattle.whole.specs.declared.Range.{Range}
use Rattle.meaning.specs.Translation.{Piece}
use Rattle.meaning.specs.Lists.{range_list}
use Rattle.meaning.specs.Draft.{Draft, declare}
use Rattle.lines.specs.inner.Stored.{Stored}
use Rattle.lines.specs.declared.parts.Progress.{Progress}
use Rattle.meaning.proofs.FlatLists.{ranges_append}
use Rattle.lines.proofs.RuleDraft.{Proper}

-- the counts with a quantity more
pub record Declared (g g' : Progress) : Type 0 where
  pub declared : g'.declared ≡ g.declared + 1
  pub quantities : g'.quantities ≡ g.quantities + 1
  pub primitives : g'.primitives ≡ g.primitives
  pub clauses : g'.clauses ≡ g.clauses
  pub literals : g'.literals ≡ g.literals
  pub ruled : g'.ruled ≡ g.ruled

module _ {s : Draft} {g g' : Progress} {rs ps ns ls : List ℤ} {keys : List ℕ} (stored : Stored s g rs ps ns ls keys) (proper : Proper s) (rs' : List ℤ) (keys' : List ℕ) (n : ℕ) (r : Range) where
  pub stored_declared : s.ruled ≡ false → Declared g g' → g'.quantities ≤ 128 → take (2 * g'.quantities) rs' ≡ take (2 * g.quantities) rs ++ (r.low ∷ (r.high ∷ [])) → take g'.declared keys' ≡ take g.declared keys ++ (n ∷ []) → Stored (declare s n r) g' rs' ps ns ls keys'
  unfolding range_list
  stored_declared u a few e f =
      let z = ap (λ (m : Piece). m.ranges) (proper.unruled u) in
      let i : s.declared ++ s.made.ranges ≡ s.declared = ap (λ (m : List Range). s.declared ++ m) z ∙ append-nil s.declared in
      let j : s.declared ++ (r ∷ []) ++ s.made.ranges ≡ s.declared ++ (r ∷ []) = ap (λ (m : List Range). s.declared ++ (r ∷ []) ++ m) z ∙ append-nil (s.declared ++ (r ∷ [])) in
      let d = length-append s.declared (r ∷ []) in
      let k = length-append s.names (n ∷ []) in
      record {
        declared = omega (arith, a.declared, stored.declared);
        alike = omega (arith, stored.alike);
        quantities = omega (arith, a.quantities, stored.quantities);
        primitives = a.primitives ∙ stored.primitives;
        clauses = a.clauses ∙ stored.clauses;
        literals = a.literals ∙ stored.literals;
        ruled = a.ruled ∙ stored.ruled;
        range_front =
            e ∙ ap (λ (m : List ℤ). m ++ (r.low ∷ (r.high ∷ []))) (stored.range_front ∙ ap range_list i)
            ∙ sym (ap range_list j ∙ ranges_append s.declared (r ∷ []));
        primitive_front = rw a.primitives stored.primitive_front;
        length_front = rw a.clauses stored.length_front;
        literal_front = rw a.literals stored.literal_front;
        key_front = f ∙ ap (λ (m : List ℕ). m ++ (n ∷ [])) stored.key_front;
        few = few;
      }
