-- A refusal is `refuses` of Solving.antt; otherwise the judgement makes the search ready, and what it leaves is cleared, by `solves`.
use borrow.Author.Rules.{rules}
use Rattle.search.proofs.Solving.{refuses, passed, leading_fits, budget_fits, searches, led, room_in, room_long, solves}
use Rattle.search.proofs.solve.Goals as goal

pub overflow_cast-leading : goal.overflow_cast-leading
overflow_cast-leading c = leading_fits (passed _ _ _ _ _ _ _ _ c.ranges.leading c.ranges.budget c.in_ok-judge.ensures)

pub overflow_cast-budget : goal.overflow_cast-budget
overflow_cast-budget c = budget_fits (passed _ _ _ _ _ _ _ _ c.ranges.leading c.ranges.budget c.in_ok-judge.ensures)

pub search-solved-requires : goal.search-solved-requires
search-solved-requires c = searches (passed _ _ _ _ _ _ _ _ c.ranges.leading c.ranges.budget c.in_ok-judge.ensures)

pub needed-needed-requires : goal.needed-needed-requires
needed-needed-requires c = led (passed _ _ _ _ _ _ _ _ c.ranges.leading c.ranges.budget c.in_ok-judge.ensures)

pub slice_bounds-fill-end : goal.slice_bounds-fill-end
slice_bounds-fill-end c =
    room_in (passed _ _ _ _ _ _ _ _ c.ranges.leading c.ranges.budget c.in_ok-judge.ensures) c.search-solved.new.work c.search-solved.auto.work c.needed-needed.ensures

pub slice_bounds-fill-end-2 : goal.slice_bounds-fill-end-2
slice_bounds-fill-end-2 c =
    room_long (passed _ _ _ _ _ _ _ _ c.ranges.leading c.ranges.budget c.in_ok-judge.ensures) c.search-solved.new.work c.search-solved.auto.work c.needed-needed.ensures

pub returns-in_err-judge : goal.returns-in_err-judge
returns-in_err-judge c = refuses _ _ _ _ _ _ _ _ c.ranges.leading c.ranges.budget c.in_err-judge.ensures (search rules)

pub returns : goal.returns
returns c =
    solves (passed _ _ _ _ _ _ _ _ c.ranges.leading c.ranges.budget c.in_ok-judge.ensures) c.search-solved.new.work c.search-solved.auto.work c.needed-needed.ensures
    c.search-solved.ensures (c.fill.ensures.after (λ y h. h))
