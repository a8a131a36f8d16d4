-- Demand 2 and room, for every sweep and choice under the laws. The boxes that wait and the one in hand hold every satisfying point, in the
-- order of their points, and each lies as deep below the starting box as there are boxes behind it; every step keeps this.
use mathlib.Core.Path.{◌≡◌, sym, ◌∙◌}
use mathlib.Core.Logic.{⊎_elim, ◌⊎◌, inl, inr}
use mathlib.Core.List.{List, [], ◌∷◌}
use Prim.Native.Nat.{ℕ, ◌+◌, ◌≤◌}
use native.Mathlib.Omega.{arith}
use lib.ListN.{length}
use Rattle.std.specs.Prelude.{Option, Some}
use Rattle.whole.specs.Ranges.{Point}
use Rattle.problem.specs.Problem.{Box, low_at, Inside}
use Rattle.problem.specs.Order.{Before}
use Rattle.narrow.specs.Cuts.{Swept, empty, changed, unchanged}
use Rattle.narrow.specs.Parts.{Part}
use Rattle.search.specs.Search.{lower_part, upper_part, Outcome, stopped, found, none, run}
use Rattle.search.specs.Depth.{depth}
use Rattle.search.specs.inner.Laws.{Lawful, Lossless, Ordered}
use Rattle.search.proofs.Splits.{Splits, part_self, part_trans, in_part, lows_in, lower_part_lem, upper_part_lem, halves_all, halves_order}
use Rattle.search.proofs.Order.{before_asym, above}
use Rattle.search.proofs.Deep.{depth_le, lower_deep, upper_deep}
use Rattle.search.proofs.Run.{boxes_of, Kept, kept, Quiet, quiet, resume}

-- p is in one of the boxes
abbrev pub Among : ℕ → Point → List Box → Type 0
Among n p [] = ⊥
Among n p (b ∷ bs) = Inside n p b ⊎ Among n p bs

-- every point of a box is before every point of those behind it
abbrev pub InOrder : ℕ → List Box → Type 0
InOrder n [] = Unit {0}
InOrder n (b ∷ bs) = ((p p' : Point) → Inside n p b → Among n p' bs → Before n p p') × InOrder n bs

-- the boxes are parts of the starting box, and each lies as deep below it as there are boxes behind
abbrev pub Stack : ℕ → ℕ → Box → List Box → Type 0
Stack n lead start [] = Unit {0}
Stack n lead start (b ∷ bs) = Part n start b × (depth lead b + length bs ≤ depth lead start) × Stack n lead start bs

module _ (n : ℕ) (start : Box) (Sat : Point → Type 0) where
  -- no satisfying point of the starting box comes before p
  abbrev pub Floor : Point → Type 0
  Floor p = (x : Point) → Inside n x start → Sat x → Before n x p → ⊥

  pub record First (p : Point) : Type 0 where
    pub inside : Inside n p start
    pub satisfies : Sat p
    pub first : Floor p

  -- none: no point of the starting box satisfies; found: the low ends are the smallest that does; stopped: none comes before the low ends
  abbrev pub Means : Outcome → Type 0
  Means (stopped c ws) = Floor (low_at c)
  Means (found c ws left) = First (low_at c)
  Means (none left) = (p : Point) → Inside n p start → Sat p → ⊥

-- no point of the boxes is before the low ends of the first
floor : {n : ℕ} {a c : Box} (ws : List Box) → Part n a c → InOrder n (c ∷ ws) → (p : Point) → Among n p (c ∷ ws) → Before n p (low_at c) → ⊥
floor {c = c} ws f o p h x = ⊎_elim (λ i. above (λ q k. (i.each q k).above) x) (λ k. before_asym x (o.0 (low_at c) p (lows_in f) k)) h

-- ---- under the first laws the boxes stay parts of the starting box, and there is room
module _ {sweep : Box → Swept} {choose : Box → Option ℕ} {n lead : ℕ} {start : Box} (law : Lawful sweep choose n lead start) where
  pub cuts : {c b : Box} → Part n start c → sweep c ≡ changed b → Part n c b
  cuts {c} f e = rw e at (law.shrinks c f)

  pub splits : {c c' : Box} (q : ℕ) → Part n start c → sweep c ≡ unchanged c' → choose c ≡ Some q → Splits n c q
  splits {c} {c'} q f e g = record { self = part_self f; less = omega (arith, law.leads c c' q f e g, law.leading); wide = law.wide c c' q f e g }

  pub stack_kept : Kept sweep choose (Stack n lead start)
  stack_kept =
      record {
        taken = λ c ws s e. s.2;
        cut = λ c b ws s e. let f = cuts s.0 e in (part_trans s.0 f, omega (arith, s.1, depth_le f lead law.leading), s.2);
        split = λ c c' q ws s e g.
            let z = splits q s.0 e g in
            let q< = law.leads c c' q s.0 e g in (
              part_trans s.0 (lower_part_lem z),
              omega (arith, s.1, lower_deep z lead law.leading q<),
              (part_trans s.0 (upper_part_lem z), omega (arith, s.1, upper_deep z lead law.leading q<), s.2),
            );
      }

  -- what each step keeps where the box in hand is a part of the starting box is kept
  module _ (J : List Box → Type 0)
      (taken : (c : Box) (ws : List Box) → Part n start c → sweep c ≡ empty → J (c ∷ ws) → J ws)
      (cut : (c b : Box) (ws : List Box) → Part n start c → sweep c ≡ changed b → J (c ∷ ws) → J (b ∷ ws))
      (split : (c c' : Box) (q : ℕ) (ws : List Box) → Part n start c → sweep c ≡ unchanged c' → choose c ≡ Some q → J (c ∷ ws) → J (lower_part c q ∷ upper_part c q ∷ ws)) where
    on_stack : (k : ℕ) (c : Box) (ws : List Box) → Stack n lead start (c ∷ ws) → J (c ∷ ws) → J (boxes_of (run sweep choose k c ws))
    on_stack k c ws s j = (kept sweep choose (λ bs. Stack n lead start bs × J bs) both k c ws (s, j)).1
      where
        both : Kept sweep choose (λ bs. Stack n lead start bs × J bs)
        both =
            record {
              taken = λ c ws s e. (stack_kept.taken c ws s.0 e, taken c ws s.0.0 e s.1);
              cut = λ c b ws s e. (stack_kept.cut c b ws s.0 e, cut c b ws s.0.0 e s.1);
              split = λ c c' q ws s e g. (stack_kept.split c c' q ws s.0 e g, split c c' q ws s.0.0 e g s.1);
            }

  -- no point is gained
  inside : (k : ℕ) (c : Box) (ws : List Box) → Stack n lead start (c ∷ ws) → (p : Point) → Among n p (boxes_of (run sweep choose k c ws)) → Among n p (c ∷ ws)
  inside k c₀ ws₀ s p =
      on_stack (λ bs. Among n p bs → Among n p (c₀ ∷ ws₀))
      (λ c ws f e on h. on (inr h))
      (λ c b ws f e on. ⊎_elim (λ i. on (inl (in_part (cuts f e) i))) (λ h. on (inr h)))
      (λ c c' q ws f e g on. let z = splits q f e g in ⊎_elim (λ i. on (inl (in_part (lower_part_lem z) i))) (⊎_elim (λ j. on (inl (in_part (upper_part_lem z) j))) (λ h. on (inr h))))
      k c₀ ws₀ s (λ h. h)

  module _ (fine : Part n start start) where
    pub begin : Stack n lead start (start ∷ [])
    begin = (fine, omega arith, tt)

    -- every box is a part of the starting box, with as many behind it as its depth leaves room for
    pub stack : (k : ℕ) → Stack n lead start (boxes_of (run sweep choose k start []))
    stack k = kept sweep choose (Stack n lead start) stack_kept k start [] begin

    -- every satisfying point of the starting box is in the box in hand or in one that waits; at none there is no box left
    pub cover : {Sat : Point → Type 0} → Lossless sweep n start Sat → (k : ℕ) (p : Point) → Inside n p start → Sat p → Among n p (boxes_of (run sweep choose k start []))
    cover {Sat} sound k p i sat =
        on_stack (λ bs. Among n p bs)
        (λ c ws f e. ⊎_elim (λ i. absurd (rw e at (sound.keeps c f p i sat))) (λ h. h))
        (λ c b ws f e. ⊎_elim (λ i. inl (rw e at (sound.keeps c f p i sat))) inr)
        (λ c c' q ws f e g. ⊎_elim (λ i. ⊎_elim inl (λ j. inr (inl j)) (halves_all (splits q f e g) p i)) (λ h. inr (inr h)))
        k start [] begin (inl i)

    module _ {Sat : Point → Type 0} (order : Ordered sweep choose n start Sat) where
      -- the boxes come in the order of their points
      pub in_order_lem : (k : ℕ) → InOrder n (boxes_of (run sweep choose k start []))
      in_order_lem k =
          on_stack (InOrder n)
          (λ c ws f e o. o.1)
          (λ c b ws f e o. ((λ p p' i. o.0 p p' (in_part (cuts f e) i)), o.1))
          (λ c c' q ws f e g o.
          let z = splits q f e g in (
            (λ p p' i. ⊎_elim (halves_order z (order.first c c' q f e g) p p' i) (o.0 p p' (in_part (lower_part_lem z) i))),
            ((λ p p' i. o.0 p p' (in_part (upper_part_lem z) i)), o.1),
          ))
          k start [] begin ((λ p p' i h. absurd h), tt)

      -- where two budgets stop, the larger's floor is not before the smaller's
      pub later : (k m : ℕ) {c c' : Box} {ws ws' : List Box} → run sweep choose k start [] ≡ stopped c ws → run sweep choose (k + m) start [] ≡ stopped c' ws' → Before n (low_at c') (low_at c) → ⊥
      later k m {c} {c'} {ws} e e' =
          let s = rw e at (stack k) in
          let t = rw e' at (stack (k + m)) in
          let on = rw (sym (resume sweep choose start [] k m e) ∙ e') at (inside m c ws s (low_at c')) in
          floor ws s.0 (rw e at (in_order_lem k)) (low_at c') (on (inl (lows_in t.0)))

      module _ (sound : Lossless sweep n start Sat) where
        pub demand2 : (budget : ℕ) → Means n start Sat (run sweep choose budget start [])
        demand2 budget = by (run sweep choose budget start []) (stack budget) (in_order_lem budget) (cover sound budget) (quiet sweep choose budget start [])
          where
            by : (o : Outcome) → Stack n lead start (boxes_of o) → InOrder n (boxes_of o) → ((p : Point) → Inside n p start → Sat p → Among n p (boxes_of o)) → Quiet sweep choose o → Means n start Sat o
            by (none left) s o held z = held
            by (found c ws left) s o held z =
                record {
                  inside = in_part s.0 (lows_in s.0);
                  satisfies = order.settled c z.0 s.0 z.1 z.2;
                  first = λ p i sat. floor ws s.0 o p (held p i sat);
                }
            by (stopped c ws) s o held z = λ p i sat. floor ws s.0 o p (held p i sat)

        -- a found point is not before any floor
        pub found_later : (k l : ℕ) {b c : Box} {bs ws : List Box} {left : ℕ} → run sweep choose k start [] ≡ stopped c ws → run sweep choose l start [] ≡ found b bs left → Before n (low_at b) (low_at c) → ⊥
        found_later k l {b = b} e e' =
            let f = rw e at (demand2 k) in
            let h = rw e' at (demand2 l) in
            f (low_at b) h.inside h.satisfies
