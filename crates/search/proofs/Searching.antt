-- What the search's loop begins with, hands on and owes: the lists were judged, so every part of the starting box can be swept and split; and
-- what the workspace holds past the slots is what it came with.
use mathlib.Core.Path.{◌≡◌, sym, ap, ◌∙◌, subst}
use mathlib.Core.List.{List, ◌++◌}
use Prim.Native.Nat.{ℕ, suc, ◌+◌, ◌-◌, ◌*◌, ◌/◌, ◌≤◌, ◌<◌}
use native.Mathlib.Nat.{suc-mul}
use native.Mathlib.Omega.{arith}
use lib.ListN.{length, take, drop, length-append, length-drop}
use lib.Seq.{drop_at}
use lib.IntN.{ℤ, pos}
use borrow.Rule.Slice.PartMut.{mid_of, put_mid}
use Rattle.std.specs.Prelude.{Option, Some, None}
use Rattle.whole.proofs.Kit.{ints}
use Rattle.problem.specs.Problem.{Box, quantities}
use Rattle.problem.specs.Lists.{primitives_of, literals_of, clauses_of, problem_of}
use Rattle.problem.specs.inner.Placed.{Placed}
use Rattle.narrow.specs.Cuts.{unchanged}
use Rattle.narrow.specs.Sweep.{sweep_of}
use Rattle.narrow.specs.inner.Done.{Fine}
use Rattle.narrow.specs.Parts.{Part}
use Rattle.narrow.proofs.SweepLaws.{sweep_same}
use Rattle.search.specs.Search.{lower_part, upper_part, Outcome, found, lowest, search_of}
use Rattle.search.specs.Depth.{depth, room_of}
use Rattle.search.specs.Solve.{answered, point_of}
use Rattle.search.specs.inner.Ready.{Started, Ready, Searched}
use Rattle.search.specs.inner.Steps.{Splittable}
use Rattle.search.specs.declared.Solved.{Solved}
use Rattle.search.proofs.Splits.{Splits}
use Rattle.search.proofs.Instance.{start_part}
use Rattle.search.proofs.Leads.{sweep_leads}
use Rattle.search.proofs.Slots.{stack_of, drop_far}
use Rattle.search.proofs.Held.{Frame, Held, held_start, here_part, Settled, settled, found_is, can_split, next_in, two_long, first_is, held_split}

-- ---- a part of the starting box
part_count : {n : ℕ} {a b : Box} → Part n a b → quantities b ≡ n
part_count {n} {a} {b} f = let e = f.long in let z : length b / 2 ≡ n = omega arith in z

module _ {rs b : List ℤ} (f : Part (quantities rs) rs b) where
  -- every range of it can be computed with
  pub part_fine : Started rs → Fine b
  part_fine s = record { good = λ q h. let q< : q < quantities rs = omega (arith, f.long) in omega (ints, s.good q q<, f.low q q<, f.filled q q<, f.high q q<) }

  -- the choice among its quantities is the choice among all
  pub part_chosen : {o : Option ℕ} → o ≡ lowest (quantities b) b → o ≡ lowest (quantities rs) b
  part_chosen e = e ∙ ap (λ (n : ℕ). lowest n b) (part_count f)

  -- it has the quantities that primitives and literals name
  pub part_placed : {ps ns ls : List ℤ} → Placed (quantities rs) ps ns ls → Placed (quantities b) ps ns ls
  part_placed {ps} {ns} {ls} p = subst (λ (n : ℕ). Placed n ps ns ls) (sym (part_count f)) p

  -- and two slots with it in the first can be split
  pub part_splits : Started rs → (w q : ℕ) (l : List ℤ) → w ≡ 2 * quantities rs → length l ≡ w + w → take w l ≡ b → Splits (quantities rs) b q → Splittable l w q
  part_splits s w q l e long first z =
      record {
        long = long;
        inside = omega (arith, z.less);
        good = rw first ((part_fine s).good q (omega (arith, f.long, z.less)));
      }

-- ---- the starting box is copied into the first slot, as ys
module _ {rs ps ns ls : List ℤ} {lead : ℕ} {p₀ w₀ : List ℤ} (r : Ready rs ps ns ls lead p₀ w₀) where
  -- D + 1 slots
  room_is : room_of lead rs ≡ suc (depth lead rs) * length rs
  room_is =
      let d = depth lead rs in
      let z : room_of lead rs ≡ suc d * (2 * quantities rs) = omega arith in
      z ∙ ap (λ (k : ℕ). suc d * k) (sym r.started.long)

  pub width_in : length rs ≤ length w₀
  width_in = omega (arith, r.room, room_is, suc-mul (depth lead rs) (length rs))

  module _ (ys : List ℤ) (e : ys ≡ rs) where
    pub copied_long : length (ys ++ drop (length rs) w₀) ≡ length w₀
    copied_long = length-append ys (drop (length rs) w₀) ∙ omega (arith, ap length e, length-drop (length rs) w₀, width_in)

    pub frame : Frame (sweep_of (primitives_of ps) (clauses_of ns (literals_of ls))) (lowest (quantities rs)) (quantities rs) lead (length rs) rs (ys ++ drop (length rs) w₀)
    frame =
        record {
          law = sweep_leads rs ps ns ls (record { started = r.started; placed = r.placed }) (pos lead) r.leads;
          fine = start_part r.started;
          some = r.started.some;
          wide = r.started.long;
          room = omega (arith, r.room, room_is, copied_long);
        }

    pub begins : (k : ℕ) → Held (sweep_of (primitives_of ps) (clauses_of ns (literals_of ls))) (lowest (quantities rs)) (quantities rs) lead (length rs) rs (search_of (problem_of rs ps ns ls) k) (ys ++ drop (length rs) w₀) (ys ++ drop (length rs) w₀) k 0
    begins k = held_start frame k (drop (length rs) w₀) (ap (λ (x : List ℤ). x ++ drop (length rs) w₀) e)

    -- ---- a sweep that changed nothing leaves b, the box in hand as it was
    module _ {o : Outcome} {l : List ℤ} {k s : ℕ} (h : Held (sweep_of (primitives_of ps) (clauses_of ns (literals_of ls))) (lowest (quantities rs)) (quantities rs) lead (length rs) rs o (ys ++ drop (length rs) w₀) l (suc k) s)
        (b : List ℤ) (kept : length b ≡ length (mid_of (s * length rs) (s * length rs + length rs - s * length rs) l))
        (told : unchanged b ≡ sweep_of (primitives_of ps) (clauses_of ns (literals_of ls)) (mid_of (s * length rs) (s * length rs + length rs - s * length rs) l)) where
      abbrev after : List ℤ
      after = put_mid (s * length rs) (s * length rs + length rs - s * length rs) l b

      abbrev here : Box
      here = mid_of (s * length rs) (s * length rs + length rs - s * length rs) after

      pub stays : Settled (sweep_of (primitives_of ps) (clauses_of ns (literals_of ls))) (lowest (quantities rs)) (quantities rs) lead (length rs) rs o (ys ++ drop (length rs) w₀) (put_mid (s * length rs) (s * length rs + length rs - s * length rs) l b) k s
      stays = settled frame h b kept (sweep_same _ _ _ _ (sym told)) told

      -- nothing in it is open: found
      pub found_here : None ≡ lowest (quantities here) here → o ≡ found here (stack_of (length rs) s after) k
      found_here is = found_is frame stays.held stays.swept (part_chosen (here_part frame stays.held) is)

      -- quantity q is open: the two slots from here on are in the workspace, can be split, and hold the two parts after it
      module _ {q : ℕ} (is : Some q ≡ lowest (quantities here) here) where
        open_here : Some q ≡ lowest (quantities rs) here
        open_here = part_chosen (here_part frame stays.held) is

        pub next_here : s * length rs + length rs + length rs ≤ length after
        next_here = next_in frame stays.held stays.swept q open_here

        first_here : take (length rs) (mid_of (s * length rs) (s * length rs + length rs + length rs - s * length rs) after) ≡ here
        first_here = first_is frame stays.held stays.swept q open_here

        pub splits_here : Splittable (mid_of (s * length rs) (s * length rs + length rs + length rs - s * length rs) after) (length rs) q
        splits_here = part_splits (here_part frame stays.held) r.started (length rs) q _ frame.wide (two_long frame stays.held stays.swept q open_here) first_here (can_split frame stays.held stays.swept q open_here)

        pub split_here : {zs : List ℤ}
            → zs ≡ upper_part (take (length rs) (mid_of (s * length rs) (s * length rs + length rs + length rs - s * length rs) after)) q
            ++ lower_part (take (length rs) (mid_of (s * length rs) (s * length rs + length rs + length rs - s * length rs) after)) q
            → Held (sweep_of (primitives_of ps) (clauses_of ns (literals_of ls))) (lowest (quantities rs)) (quantities rs) lead (length rs) rs o (ys ++ drop (length rs) w₀) (put_mid (s * length rs) (s * length rs + length rs + length rs - s * length rs) after zs) k (s + 1)
        split_here {zs} parts = held_split frame stays.held stays.swept q open_here zs (parts ∙ ap (λ (x : List ℤ). upper_part x q ++ lower_part x q) first_here)

    -- ---- and at each end of the search
    pub ends : (k : ℕ) (l p : List ℤ) (s : Solved) (o : Outcome) → drop (suc (depth lead rs) * length rs) l ≡ drop (suc (depth lead rs) * length rs) (ys ++ drop (length rs) w₀)
        → search_of (problem_of rs ps ns ls) k ≡ o → s ≡ answered k o → p ≡ point_of o p₀ → Searched rs ps ns ls lead k p₀ w₀ p l s
    ends k l p s o rest is result point =
        record {
          result = result ∙ ap (answered k) (sym is);
          point = point ∙ ap (λ (x : Outcome). point_of x p₀) (sym is);
          rest =
              rw room_is
              (rest
              ∙ drop_far (length rs) (suc (depth lead rs) * length rs) (ys ++ drop (length rs) w₀) w₀ (omega (arith, suc-mul (depth lead rs) (length rs)))
              (drop_at ys (drop (length rs) w₀) (length rs) (ap length e)));
        }
