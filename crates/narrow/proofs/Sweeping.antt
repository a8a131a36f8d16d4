-- Steps done part by part: the steps left, from the box in hand, come to what all steps come to from the first box; a part more takes its steps off their front.
use mathlib.Core.Path.{◌≡◌, sym, ap, ap₂, subst, ◌∙◌}
use mathlib.Core.Bool.{false}
use mathlib.Core.List.{List, [], ◌∷◌, ◌++◌, map}
use Prim.Native.Nat.{ℕ, ◌+◌, ◌*◌, ◌/◌, ◌^◌, ◌≤◌, ◌<◌}
use native.Mathlib.Omega.{arith}
use lib.ListN.{length, get_or, take, drop, length-take, length-drop, drop_of_length-le}
use lib.IntN.{ℤ, pos, ◌*ℤ◌, nat_abs}
use lib.Dec.{T}
use lib.Signed.{le_z, mag, non_neg, ◌≤ℤ◌}
use mir.Syntax.{w64}
use mir.Val.{Fits}
use Rattle.whole.proofs.Kit.{ints, plus, at, got, index}
use Rattle.problem.specs.Problem.{Box, quantities}
use Rattle.problem.specs.Lists.{primitive_of, primitives_of, literal_of, literals_of, clauses_of}
use Rattle.problem.specs.Grounds.{total, bad_literals}
use Rattle.problem.specs.inner.Placed.{Placed, Readable, primitive_at}
use Rattle.problem.specs.declared.Primitive.{Primitive}
use Rattle.problem.specs.declared.Literal.{Literal}
use Rattle.problem.proofs.Tests.{by_bool}
use Rattle.problem.proofs.Lists.{primitives_at, primitives_end, literals_take, literals_drop}
use Rattle.problem.proofs.Placing.{PrimitivePlaced, primitive_placed, LiteralPlaced, literal_placed, literals_clear, literals_clear_to, Left, left_sign, left_room, left_on, clauses_at}
use Rattle.narrow.specs.Cuts.{Swept, Step, steps}
use Rattle.narrow.specs.Narrowing.{primitive_steps, clause_step}
use Rattle.narrow.specs.Named.{quantity_of}
use Rattle.narrow.specs.Sweep.{all_steps, sweep_steps, sweep_of}
use Rattle.narrow.specs.inner.Done.{Has, Sited, Fine, swept_as, left_as, Done, Sweeps}
use Rattle.narrow.specs.inner.Clause.{Lits}
use Rattle.std.specs.Prelude.{Bool, Result, Ok, Err, IsErr}
use Rattle.narrow.specs.declared.Emptied.{Emptied}
use Rattle.narrow.specs.declared.Status.{Status}
use Rattle.narrow.proofs.Cutting.{left_empty}
use Rattle.narrow.proofs.Steps.{steps_append, steps_empty}

-- ---- some of the steps done
pub record Going (all rest : List Step) (c₀ : Bool) (b₀ : Box) (c : Bool) (b : Box) : Type 0 where
  pub says : steps (left_as (Ok c) b) rest ≡ steps (left_as (Ok c₀) b₀) all
  pub fine : Fine b
  pub long : length b ≡ length b₀

module _ {all rest : List Step} {c₀ c : Bool} {b₀ b : Box} (g : Going all rest c₀ b₀ c b) where
  done_so : {ss : List Step} (ts : List Step) {r : Result Bool Emptied} {b' : Box} → rest ≡ ss ++ ts → Done ss c b r b' → steps (left_as r b') ts ≡ steps (left_as (Ok c₀) b₀) all
  done_so {ss} ts e d = ap (λ (x : Swept). steps x ts) d.says ∙ sym (steps_append (left_as (Ok c) b) ss ts) ∙ ap (steps (left_as (Ok c) b)) (sym e) ∙ g.says

  pub going_on : {ss ts : List Step} {c' : Bool} {b' : Box} → rest ≡ ss ++ ts → Done ss c b (Ok c') b' → length b' ≡ length b → Going all ts c₀ b₀ c' b'
  going_on {ss} {ts} e d l = record { says = done_so ts e d; fine = d.fine; long = l ∙ g.long }

  -- an empty range ends them
  pub going_empty : {ss : List Step} (ts : List Step) {n : Emptied} {b' : Box} → rest ≡ ss ++ ts → Done ss c b (Err n) b' → {r : Result Bool Emptied} → IsErr r → Done all c₀ b₀ r b'
  going_empty {ss} ts {n} {b'} e d {r} f = record { says = left_empty r b' f ∙ sym (steps_empty ts) ∙ done_so ts e d; fine = d.fine }

  pub going_end : rest ≡ [] → Done all c₀ b₀ (Ok c) b
  going_end e = record { says = ap (steps (left_as (Ok c) b)) (sym e) ∙ g.says; fine = g.fine }

-- ---- primitives
-- the steps of the primitives from place i on
abbrev pub primitives_left : List ℤ → ℕ → List Step
primitives_left ps i = all_steps (primitives_of (drop (4 * i) ps))

pub primitives_on : (ps : List ℤ) (i : ℕ) (p : Primitive) → p ≡ primitive_at ps i → i < length ps / 4 → primitives_left ps i ≡ primitive_steps p ++ primitives_left ps (i + 1)
unfolding all_steps
primitives_on ps i p e h = ap all_steps (primitives_at ps i (omega arith)) ∙ ap (λ (x : Primitive). primitive_steps x ++ primitives_left ps (i + 1)) (sym e)

pub primitives_none : (ps : List ℤ) (i : ℕ) → length ps / 4 ≤ i → primitives_left ps i ≡ []
unfolding all_steps
primitives_none ps i h = ap all_steps (primitives_end ps i (omega arith))

sited_of : (b : Box) (k z x y : ℤ) → Has b (nat_abs z) → Has b (nat_abs x) → (k ≤ℤ pos 2 → Has b (nat_abs y)) → Sited b (primitive_of k z x y)
sited_of b k z x y hz hx hy =
    by_bool (le_z k (pos 1))
    (λ t. rw t (hz, (hx, hy (omega ints))))
    (λ f. by_bool (le_z k (pos 2)) (λ t. rw (f, t) (hz, (hx, hy (omega ints)))) (λ u. rw (f, u) (hz, hx)))

module _ {n : ℕ} {ps ns ls : List ℤ} (placed : Placed n ps ns ls) (i : ℕ) (h : i < length ps / 4) where
  at_place : PrimitivePlaced n ps i
  at_place = primitive_placed n ps placed.primitives i (omega arith)

  pub primitive_readable : Readable ps i
  primitive_readable = at_place.readable

  pub primitive_sited : (b : Box) → n ≤ quantities b → (p : Primitive) → p ≡ primitive_at ps i → Sited b p
  primitive_sited b l p e =
      let s = at_place in
      subst (Sited b) (sym e)
      (sited_of b (get_or ps (4 * i) (pos 0)) (get_or ps (4 * i + 1) (pos 0)) (get_or ps (4 * i + 2) (pos 0)) (get_or ps (4 * i + 3) (pos 0)) (omega arith) (omega arith) (λ k. omega (arith, s.y k)))

-- ---- clauses
-- the steps of the clauses from place i on, whose literals are those left
abbrev pub clauses_left : List ℤ → ℕ → List ℤ → List Step
clauses_left ns i left = map clause_step (clauses_of (drop i ns) (literals_of left))

-- none of the literals left is bad, and they are as many as the lengths left say, and no more than there may be
pub record Ahead (n : ℕ) (ns : List ℤ) (i : ℕ) (left : List ℤ) : Type 0 where
  pub counted : Left ns left i 0
  pub clear : bad_literals n left ≡ false
  pub short : length left ≤ 3072

pub clauses_none : (ns : List ℤ) (i : ℕ) (left : List ℤ) → length ns ≤ i → clauses_left ns i left ≡ []
unfolding clauses_of
clauses_none ns i left h = ap (λ (l : List ℤ). map clause_step (clauses_of l (literals_of left))) (drop_of_length-le ns h)

has_of : (b : Box) (q s c : ℤ) → Has b (nat_abs q) → Has b (quantity_of (literal_of q s c))
has_of b q s c h = by_bool (le_z s (pos 0)) (λ t. rw t h) (λ f. rw f h)

-- literals that lie ahead, taken for themselves
left_from : {ns ls : List ℤ} {i from : ℕ} → from ≤ length ls → Left ns ls i from → Left ns (drop from ls) i 0
left_from {ns} {ls} {i} {from} h l = record {
  signs = l.signs;
  sums = let e = l.sums in let d = length-drop from ls in omega (ints, plus (pos from) (pos 3 *ℤ total (drop i ns)), plus (pos 0) (pos 3 *ℤ total (drop i ns)));
}

module _ {n : ℕ} {ns : List ℤ} {i : ℕ} {left : List ℤ} (a : Ahead n ns i left) (h : i < length ns) (s : mag (get_or ns i (pos 0)) < 2 ^ 63) where
  -- the length of the clause at place i, as the machine reads it
  abbrev m : ℕ
  m = nat_abs (at (get_or ns i (pos 0)))

  m_is : m ≡ nat_abs (get_or ns i (pos 0))
  m_is = ap nat_abs (got (get_or ns i (pos 0)) s)

  pub ahead_cast : T (non_neg (at (get_or ns i (pos 0)))) × Fits w64 m
  ahead_cast = index (get_or ns i (pos 0)) (record { sfits = s }) (left_sign a.counted h)

  pub ahead_room : 3 * m ≤ length left
  ahead_room = let e = m_is in omega (arith, left_room a.counted h)

  pub ahead_fits : 3 * m < 2 ^ 64
  ahead_fits = let r = ahead_room in omega (arith, a.short)

  -- the literals of the clause, and those behind it
  module _ {front back : List ℤ} (f : front ≡ take (3 * m) left) (g : back ≡ drop (3 * m) left) where
    pub ahead_on : Ahead n ns (i + 1) back
    ahead_on = rw g (record {
      counted = left_from ahead_room (subst (λ (k : ℕ). Left ns left (i + 1) k) (let e = m_is in let t : 0 + 3 * nat_abs (get_or ns i (pos 0)) ≡ 3 * m = omega arith in t) (left_on a.counted h));
      clear = literals_clear n left a.clear m;
      short = let t = a.short in simp length-drop (omega arith);
    })

    pub clauses_on : clauses_left ns i left ≡ clause_step (literals_of front) ∷ clauses_left ns (i + 1) back
    clauses_on = rw (f, g) (
        ap (map clause_step) first
        ∙ ap₂ (λ (x y : List Literal). clause_step x ∷ map clause_step (clauses_of (drop (i + 1) ns) y)) (sym (literals_take m left)) (sym (literals_drop m left))
        )
      where
        first : clauses_of (drop i ns) (literals_of left) ≡ take m (literals_of left) ∷ clauses_of (drop (i + 1) ns) (drop m (literals_of left))
        first = subst (λ (k : ℕ). clauses_of (drop i ns) (literals_of left) ≡ take k (literals_of left) ∷ clauses_of (drop (i + 1) ns) (drop k (literals_of left))) (sym m_is) (clauses_at ns i (literals_of left) h)

    pub ahead_lits : (b : Box) → n ≤ quantities b → Lits b front (length front / 3)
    ahead_lits b l =
        let k = long in
        record {
          long = omega arith;
          readable = λ j v. (placed j v).readable;
          has = λ j v. has_of b (get_or front (3 * j) (pos 0)) (get_or front (3 * j + 1) (pos 0)) (get_or front (3 * j + 2) (pos 0)) (omega (arith, (placed j v).quantity));
        }
      where
        long : length front ≡ 3 * m
        long = let r = ahead_room in rw f (simp length-take (omega arith))

        placed : (j : ℕ) → j < length front / 3 → LiteralPlaced n front j
        placed j v = let k = long in literal_placed n front (rw f (literals_clear_to n m left a.clear)) j (omega arith)

-- ---- a whole sweep, as a status says it
pub sweep_done : {ps : List Primitive} {cs : List (List Literal)} {b₀ b : Box} {r : Result Bool Emptied} → Done (sweep_steps ps cs) false b₀ r b → {s : Status} → swept_as s b ≡ left_as r b → Sweeps ps cs b₀ s b
unfolding sweep_of
sweep_done d e = record { says = e ∙ d.says; fine = d.fine }
