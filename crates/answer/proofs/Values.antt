-- The values printed are the front of the point buffer: what is said of the whole buffer by its declared part is said of them.
use mathlib.Core.Path.{◌≡◌, refl, sym, ap, subst, ◌∙◌}
use mathlib.Core.List.{List, [], ◌∷◌, ◌++◌}
use Prim.Native.Nat.{ℕ, ◌<◌}
use native.Mathlib.Omega.{arith}
use lib.IntN.{ℤ, pos}
use lib.ListN.{length, take}
use lib.Seq.{get_or-take}
use lib.Signed.{◌<ℤ◌}
use Rattle.search.specs.Demand2.{point_at}
use Rattle.sheet.specs.Grammar.{Line}
use Rattle.meaning.specs.Demand3.{Extends}
use Rattle.meaning.proofs.NamePlaces.{Distinct}
use Rattle.answer.specs.Output.{value_line, value_lines}
use Rattle.answer.specs.Sheets.{in_order, by_point, NoneObeysBefore}

pub lines_front : (ns : List ℕ) (zs : List ℤ) → value_lines ns (take (length ns) zs) ≡ value_lines ns zs
unfolding value_lines
lines_front [] zs = refl
lines_front (n ∷ ns) [] = refl
lines_front (n ∷ ns) (z ∷ zs) = ap (λ (l : List ℕ). value_line n z ++ l) (lines_front ns zs)

front_at : (n : ℕ) (p : List ℤ) (q : ℕ) → q < n → point_at (take n p) q ≡ point_at p q
front_at n p q l = get_or-take n p q (pos 0) l

pub front_extends : (ns : List ℕ) → Distinct ns → (p : List ℤ) → Extends ns (by_point ns (take (length ns) p)) (point_at p)
front_extends ns d p q l = sym (front_at (length ns) p q l) ∙ ap (point_at (take (length ns) p)) (sym (d.found q l))

pub front_before : (top : ℕ) (ls : List Line) (ns : List ℕ) (p : List ℤ) → NoneObeysBefore top ls ns p → NoneObeysBefore top ls ns (take (length ns) p)
front_before top ls ns p h v o b =
    h v o
    (record {
      place = b.place;
      counted = b.counted;
      alike = λ q l. b.alike q l ∙ front_at (length ns) p q (omega (arith, b.counted));
      less = subst (λ (z : ℤ). in_order ns v b.place <ℤ z) (front_at (length ns) p b.place b.counted) b.less;
    })
