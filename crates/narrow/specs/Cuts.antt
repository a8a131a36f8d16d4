-- Cuts, and how they follow one another: document 01, "Narrowing one constraint". "Cut" means intersect; a range with low above high is
-- empty and ends the sweep at once; each cut uses the ranges as the earlier cuts left them.
use Rattle.std.specs.Prelude.{cond, List, [], ◌∷◌, ℕ, ◌+◌, ◌*◌, set}
use Rattle.std.specs.Int.Signed.{lt_z}
use Rattle.whole.specs.Numbers.{min_z, max_z}
use Rattle.whole.specs.Ranges.{range}
use Rattle.whole.specs.declared.Range.{Range}
use Rattle.problem.specs.Problem.{Box, range_at}

-- what two ranges have in common
abbrev pub meet_of : Range → Range → Range
meet_of a b = range (max_z a.low b.low) (min_z a.high b.high)

-- the box with another range for quantity q
abbrev pub put_at : Box → ℕ → Range → Box
put_at b q r = set (set b (2 * q) r.low) (2 * q + 1) r.high

-- what has become of a box: a range is empty; a range changed and the box is now b; none did and it is still b
pub data Swept : Type 0 where
  empty : Swept
  changed : Box → Swept
  unchanged : Box → Swept

-- the range of quantity q becomes the new one, which lies in the old one
unfoldable pub cut_to : ℕ → Range → Range → Box → Swept
cut_to q old new b =
    cond (lt_z new.high new.low) empty
    (cond (lt_z old.low new.low) (changed (put_at b q new))
    (cond (lt_z new.high old.high) (changed (put_at b q new)) (unchanged b)))

-- cut quantity q to s
unfoldable pub cut_of : ℕ → Range → Box → Swept
cut_of q s b = cut_to q (range_at b q) (meet_of (range_at b q) s) b

-- what one step of a constraint asks of a box: nothing, that it is empty, or one cut
pub data Cut : Type 0 where
  stay : Cut
  void : Cut
  to : ℕ → Range → Cut

-- a step looks at the ranges and says its cut
abbrev pub Step : Type 0
Step = Box → Cut

abbrev pub act : Cut → Box → Swept
act stay b = unchanged b
act void b = empty
act (to q s) b = cut_of q s b

-- a range changed already
abbrev pub marked : Swept → Swept
marked empty = empty
marked (changed b) = changed b
marked (unchanged b) = changed b

-- one step more
abbrev pub next : Swept → Step → Swept
next empty s = empty
next (changed b) s = marked (act (s b) b)
next (unchanged b) s = act (s b) b

-- all steps in order
abbrev pub steps : Swept → List Step → Swept
steps r [] = r
steps r (s ∷ ss) = steps (next r s) ss
