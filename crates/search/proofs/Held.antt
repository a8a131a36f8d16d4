-- The workspace holds the state of a search: the boxes that wait in their slots, the box in hand behind them, and past the room it needs what
-- it came with. Each thing that the loop does writes at the slot in hand or past it, and is one step of the run.
use mathlib.Core.Path.{◌≡◌, refl, sym, ap, ◌∙◌, subst}
use mathlib.Core.List.{List, [], ◌∷◌, ◌++◌}
use Prim.Native.Nat.{ℕ, suc, ◌+◌, ◌-◌, ◌*◌, ◌≤◌, ◌<◌, suc-le-suc}
use native.Mathlib.Nat.{suc-mul, zero-mul, mul-le-mul_right}
use native.Mathlib.Omega.{arith}
use native.Mathlib.Numerals.{add-one}
use lib.ListN.{length, take, drop, length-append, length-set}
use lib.Seq.{take-take, take_at}
use lib.IntN.{ℤ}
use borrow.Rule.Slice.PartMut.{mid_of, put_mid, same_len_mid, mid_len, drop_put, put_same}
use Rattle.std.specs.Prelude.{Option, Some, None}
use Rattle.problem.specs.Problem.{Box}
use Rattle.narrow.specs.Cuts.{Swept, empty, changed, unchanged}
use Rattle.narrow.specs.Parts.{Part}
use Rattle.search.specs.Search.{lower_part, upper_part, Outcome, stopped, found, none, run}
use Rattle.search.specs.Depth.{depth}
use Rattle.search.specs.inner.Laws.{Lawful}
use Rattle.search.proofs.Splits.{Splits}
use Rattle.search.proofs.Deep.{lower_deep}
use Rattle.search.proofs.Demand2.{begin, splits}
use Rattle.search.proofs.Going.{Going, go_cut, go_taken, go_split, end_none, end_found, end_stopped}
use Rattle.search.proofs.Slots.{stack_of, stack_length, stack_none, stack_more, stack_put, mid_put, mid_put_first, mid_put_second, drop_far}

-- slots of w numbers, with room for D + 1 of them in l₀
pub record Frame (sweep : Box → Swept) (choose : Box → Option ℕ) (n lead w : ℕ) (start : Box) (l₀ : List ℤ) : Type 0 where
  pub law : Lawful sweep choose n lead start
  pub fine : Part n start start
  pub some : 1 ≤ n
  pub wide : w ≡ 2 * n
  pub room : suc (depth lead start) * w ≤ length l₀

-- l holds the box in hand in slot s and those that wait below it, k sweeps are left, and the run gives o
pub record Held (sweep : Box → Swept) (choose : Box → Option ℕ) (n lead w : ℕ) (start : Box) (o : Outcome) (l₀ l : List ℤ) (k s : ℕ) : Type 0 where
  pub len : length l ≡ length l₀
  pub rest : drop (suc (depth lead start) * w) l ≡ drop (suc (depth lead start) * w) l₀
  pub going : Going sweep choose n lead start o k (mid_of (s * w) w l) (stack_of w s l)

going_at : {sweep : Box → Swept} {choose : Box → Option ℕ} {n lead : ℕ} {start : Box} {o : Outcome} {k : ℕ} {c c' : Box} {ws ws' : List Box} → c ≡ c' → ws ≡ ws' → Going sweep choose n lead start o k c ws → Going sweep choose n lead start o k c' ws'
going_at {sweep} {choose} {n} {lead} {start} {o} {k} {c} {c'} {ws} {ws'} e f g =
    subst (λ (x : List Box). Going sweep choose n lead start o k c' x) f (subst (λ (x : Box). Going sweep choose n lead start o k x ws) e g)

module _ {sweep : Box → Swept} {choose : Box → Option ℕ} {n lead w : ℕ} {start : Box} {l₀ : List ℤ} (f : Frame sweep choose n lead w start l₀) where
  -- the search begins with the starting box in the first slot
  pub held_start : (k : ℕ) (r : List ℤ) → l₀ ≡ start ++ r → Held sweep choose n lead w start (run sweep choose k start []) l₀ l₀ k 0
  held_start k r e =
      let first : start ≡ mid_of (0 * w) w l₀ =
      sym (ap (λ (m : ℕ). mid_of m w l₀) (zero-mul w) ∙ ap (λ (x : List ℤ). take w x) e ∙ take_at start r w (f.fine.long ∙ sym f.wide)) in
      record {
        len = refl;
        rest = refl;
        going = going_at first (sym (stack_none w l₀)) (record { stack = begin f.law f.fine; same = refl });
      }

  module _ {o : Outcome} {l : List ℤ} {k s : ℕ} (h : Held sweep choose n lead w start o l₀ l k s) where
    below : s ≤ depth lead start
    below = omega (arith, h.going.stack.1, stack_length w s l)

    slot_top : s * w + w ≤ suc (depth lead start) * w
    slot_top = omega (arith, mul-le-mul_right w (suc-le-suc below), suc-mul s w)

    -- the slot in hand lies in the workspace
    pub slot_in : s * w + w ≤ length l
    slot_in = omega (arith, slot_top, h.len, f.room)

    width_is : s * w + w - s * w ≡ w
    width_is = omega arith

    -- it holds the box in hand, as the code takes it
    pub here_is : mid_of (s * w) (s * w + w - s * w) l ≡ mid_of (s * w) w l
    here_is = ap (λ (m : ℕ). mid_of (s * w) m l) width_is

    pub here_part : Part n start (mid_of (s * w) (s * w + w - s * w) l)
    here_part = subst (Part n start) (sym here_is) h.going.stack.0

    -- no sweep is left
    pub stopped_is : k ≡ 0 → o ≡ stopped (mid_of (s * w) (s * w + w - s * w) l) (stack_of w s l)
    stopped_is z =
        end_stopped (subst (λ (m : ℕ). Going sweep choose n lead start o m (mid_of (s * w) (s * w + w - s * w) l) (stack_of w s l)) z (going_at (sym here_is) refl h.going))

    module _ (ys : List ℤ) (kept : length ys ≡ length (mid_of (s * w) (s * w + w - s * w) l)) where
      ys_long : length ys ≡ w
      ys_long = kept ∙ here_part.long ∙ sym f.wide

      pub put_len : length (put_mid (s * w) (s * w + w - s * w) l ys) ≡ length l₀
      put_len = same_len_mid (s * w) (s * w + w - s * w) l ys kept ∙ h.len

      pub put_rest : drop (suc (depth lead start) * w) (put_mid (s * w) (s * w + w - s * w) l ys) ≡ drop (suc (depth lead start) * w) l₀
      put_rest =
          drop_far (s * w + w) (suc (depth lead start) * w) _ l slot_top
          (drop_put (s * w) (s * w + w) l ys (omega arith) slot_in (omega (arith, ys_long)))
          ∙ h.rest

      put_stack : stack_of w s (put_mid (s * w) (s * w + w - s * w) l ys) ≡ stack_of w s l
      put_stack = stack_put w s (s * w + w - s * w) l ys (omega (arith, slot_in))

      put_here : mid_of (s * w) w (put_mid (s * w) (s * w + w - s * w) l ys) ≡ ys
      put_here = mid_put (s * w) (s * w + w - s * w) w l ys (omega (arith, slot_in)) ys_long

  -- ---- after a sweep of the box in hand, which left ys in its slot
  module _ {o : Outcome} {l : List ℤ} {j s : ℕ} (h : Held sweep choose n lead w start o l₀ l (suc j) s) where
    hand : Going sweep choose n lead start o (suc j) (mid_of (s * w) (s * w + w - s * w) l) (stack_of w s l)
    hand = going_at (sym (here_is h)) refl h.going

    pub none_is : s ≡ 0 → empty ≡ sweep (mid_of (s * w) (s * w + w - s * w) l) → o ≡ none j
    none_is z e = end_none f.law (going_at refl (ap (λ (m : ℕ). stack_of w m l) z ∙ stack_none w l) hand) (sym e)

    module _ (ys : List ℤ) (kept : length ys ≡ length (mid_of (s * w) (s * w + w - s * w) l)) where
      -- a range changed: the same slot, one sweep less
      pub held_changed : changed ys ≡ sweep (mid_of (s * w) (s * w + w - s * w) l) → Held sweep choose n lead w start o l₀ (put_mid (s * w) (s * w + w - s * w) l ys) j s
      held_changed e =
          record {
            len = put_len h ys kept;
            rest = put_rest h ys kept;
            going = going_at (sym (put_here h ys kept)) (sym (put_stack h ys kept)) (go_cut f.law ys hand (sym e));
          }

      -- empty: the box stored last is in hand
      pub held_taken : (s ≡ 0 → ⊥) → empty ≡ sweep (mid_of (s * w) (s * w + w - s * w) l) → Held sweep choose n lead w start o l₀ (put_mid (s * w) (s * w + w - s * w) l ys) j (s - 1)
      held_taken ne e =
          let z : s ≡ suc (s - 1) = omega arith in
          let x = put_mid (s * w) (s * w + w - s * w) l ys in
          let st : stack_of w s l ≡ mid_of ((s - 1) * w) w x ∷ stack_of w (s - 1) x = sym (put_stack h ys kept) ∙ ap (λ (m : ℕ). stack_of w m x) z ∙ stack_more w (s - 1) x in
          record {
            len = put_len h ys kept;
            rest = put_rest h ys kept;
            going = go_taken f.law (going_at refl st hand) (sym e);
          }

      -- nothing changed: the workspace is as it was
      pub held_same : ys ≡ mid_of (s * w) (s * w + w - s * w) l → Held sweep choose n lead w start o l₀ (put_mid (s * w) (s * w + w - s * w) l ys) (suc j) s
      held_same e = subst (λ (x : List ℤ). Held sweep choose n lead w start o l₀ x (suc j) s) (sym (ap (put_mid (s * w) (s * w + w - s * w) l) e ∙ put_same (s * w) (s * w + w - s * w) l)) h

      pub same_here : ys ≡ mid_of (s * w) (s * w + w - s * w) l → mid_of (s * w) (s * w + w - s * w) (put_mid (s * w) (s * w + w - s * w) l ys) ≡ mid_of (s * w) (s * w + w - s * w) l
      same_here e = ap (mid_of (s * w) (s * w + w - s * w)) (ap (put_mid (s * w) (s * w + w - s * w) l) e ∙ put_same (s * w) (s * w + w - s * w) l)

    -- ---- nothing changed, so that the choice decides
    module _ {c' : Box} (sw : sweep (mid_of (s * w) (s * w + w - s * w) l) ≡ unchanged c') where
      pub found_is : None ≡ choose (mid_of (s * w) (s * w + w - s * w) l) → o ≡ found (mid_of (s * w) (s * w + w - s * w) l) (stack_of w s l) j
      found_is e = end_found f.law hand sw (sym e)

      module _ (q : ℕ) (op : Some q ≡ choose (mid_of (s * w) (s * w + w - s * w) l)) where
        abbrev b : Box
        b = mid_of (s * w) (s * w + w - s * w) l

        pub can_split : Splits n (mid_of (s * w) (s * w + w - s * w) l) q
        can_split = splits f.law q (here_part h) sw (sym op)

        next_top : s * w + w + w ≤ suc (depth lead start) * w
        next_top =
            let lt : s < depth lead start = omega (arith, lower_deep can_split lead f.law.leading (f.law.leads _ _ q (here_part h) sw (sym op)), hand.stack.1, stack_length w s l) in
            omega (arith, mul-le-mul_right w (suc-le-suc lt), suc-mul s w, suc-mul (suc s) w)

        -- there is a slot behind the one in hand
        pub next_in : s * w + w + w ≤ length l
        next_in = omega (arith, next_top, h.len, f.room)

        pub two_long : length (mid_of (s * w) (s * w + w + w - s * w) l) ≡ w + w
        two_long = let z : s * w + w + w - s * w ≡ w + w = omega arith in mid_len (s * w) (s * w + w + w) l next_in ∙ z

        pub first_is : take w (mid_of (s * w) (s * w + w + w - s * w) l) ≡ mid_of (s * w) (s * w + w - s * w) l
        first_is = take-take w (s * w + w + w - s * w) (drop (s * w) l) (omega arith) ∙ sym (here_is h)

        -- the upper part waits in the slot, and the lower part behind it is in hand
        module _ (zs : List ℤ) (ez : zs ≡ upper_part (mid_of (s * w) (s * w + w - s * w) l) q ++ lower_part (mid_of (s * w) (s * w + w - s * w) l) q) where
          b_long : length b ≡ w
          b_long = (here_part h).long ∙ sym f.wide

          u_long : length (upper_part b q) ≡ w
          u_long = (simp length-set) ∙ b_long

          v_long : length (lower_part b q) ≡ w
          v_long = (simp length-set) ∙ b_long

          zs_long : length zs ≡ w + w
          zs_long = ap length ez ∙ length-append (upper_part b q) (lower_part b q) ∙ omega (arith, u_long, v_long)

          abbrev both : List ℤ
          both = put_mid (s * w) (s * w + w + w - s * w) l zs

          at_in : s * w ≤ length l
          at_in = omega (arith, next_in)

          as_put : both ≡ put_mid (s * w) (s * w + w + w - s * w) l (upper_part b q ++ lower_part b q)
          as_put = ap (λ (x : List ℤ). put_mid (s * w) (s * w + w + w - s * w) l x) ez

          lower_here : mid_of ((s + 1) * w) w both ≡ lower_part b q
          lower_here =
              ap (λ (m : ℕ). mid_of m w both) (ap (λ (m : ℕ). m * w) (add-one s) ∙ suc-mul s w)
              ∙ ap (λ (x : List ℤ). mid_of (s * w + w) w x) as_put
              ∙ mid_put_second (s * w) (s * w + w + w - s * w) w l (upper_part b q) (lower_part b q) at_in u_long v_long

          upper_waits : stack_of w (s + 1) both ≡ upper_part b q ∷ stack_of w s l
          upper_waits =
              ap (λ (m : ℕ). stack_of w m both) (add-one s) ∙ stack_more w s both
              ∙ ap (λ (x : Box). x ∷ stack_of w s both) (ap (λ (x : List ℤ). mid_of (s * w) w x) as_put ∙ mid_put_first (s * w) (s * w + w + w - s * w) w l (upper_part b q) (lower_part b q) at_in u_long)
              ∙ ap (λ (x : List Box). upper_part b q ∷ x) (stack_put w s (s * w + w + w - s * w) l zs at_in)

          pub held_split : Held sweep choose n lead w start o l₀ (put_mid (s * w) (s * w + w + w - s * w) l zs) j (s + 1)
          held_split =
              record {
                len = same_len_mid (s * w) (s * w + w + w - s * w) l zs (zs_long ∙ sym two_long) ∙ h.len;
                rest =
                    drop_far (s * w + w + w) (suc (depth lead start) * w) _ l next_top
                    (drop_put (s * w) (s * w + w + w) l zs (omega arith) next_in (omega (arith, zs_long)))
                    ∙ h.rest;
                going = going_at (sym lower_here) (sym upper_waits) (go_split f.law q hand sw (sym op));
              }

-- one sweep of those left
pub held_one : {sweep : Box → Swept} {choose : Box → Option ℕ} {n lead w : ℕ} {start : Box} {o : Outcome} {l₀ l : List ℤ} {k s : ℕ}
    → (k ≡ 0 → ⊥) → Held sweep choose n lead w start o l₀ l k s → Held sweep choose n lead w start o l₀ l (suc (k - 1)) s
held_one {sweep} {choose} {n} {lead} {w} {start} {o} {l₀} {l} {k} {s} ne h = let z : k ≡ suc (k - 1) = omega arith in subst (λ (m : ℕ). Held sweep choose n lead w start o l₀ l m s) z h

-- a sweep changed nothing: the box is still in hand, and one of the sweeps left is for what is chosen now
pub record Settled (sweep : Box → Swept) (choose : Box → Option ℕ) (n lead w : ℕ) (start : Box) (o : Outcome) (l₀ l : List ℤ) (k s : ℕ) : Type 0 where
  pub held : Held sweep choose n lead w start o l₀ l (suc k) s
  pub swept : sweep (mid_of (s * w) (s * w + w - s * w) l) ≡ unchanged (mid_of (s * w) (s * w + w - s * w) l)

pub settled : {sweep : Box → Swept} {choose : Box → Option ℕ} {n lead w : ℕ} {start : Box} {o : Outcome} {l₀ l : List ℤ} {k s : ℕ}
    → Frame sweep choose n lead w start l₀ → Held sweep choose n lead w start o l₀ l (suc k) s
    → (ys : List ℤ) → length ys ≡ length (mid_of (s * w) (s * w + w - s * w) l) → ys ≡ mid_of (s * w) (s * w + w - s * w) l → unchanged ys ≡ sweep (mid_of (s * w) (s * w + w - s * w) l)
    → Settled sweep choose n lead w start o l₀ (put_mid (s * w) (s * w + w - s * w) l ys) k s
settled {sweep} f h ys kept was told =
    let here = same_here f h ys kept was in
    record { held = held_same f h ys kept was; swept = ap sweep here ∙ sym told ∙ ap unchanged (was ∙ sym here) }
