-- `narrow::square::cut_root` meets its contract: where the squares of both ends are at most z's high end, x lies between the roots; else an end moves.
use Rattle.narrow.proofs.Kept.{same, replaced_some}
use mathlib.Core.Logic.{inl, inr}
use Rattle.narrow.proofs.Rooted.{square_most, root_new, root_quiet, root_done}
use Rattle.narrow.proofs.square.cut_root.Goals as goal
use Rattle.narrow.proofs.square.cut_root.Goals.{then-times-most+else-times-most-2, else-times-most}

pub replace-requires-clause-fact_2 : goal.replace-requires-clause-fact_2
replace-requires-clause-fact_2 c k =
    let a = c.args in
    let x = c.range_at-old in
    let z = c.range_at-most in
    let t = c.times in
    let l = c.max in
    let h = c.min in
    (root_done a.x a.z a.changed a.frame.now.ends.now c.args.frame.now.fine c.requires.fact_1 x.ensures z.ensures (replaced_some k) c.requires.fact_3
    (elim c.if-times-most.branch [ then-times-most+else-times-most-2 w ↦ let u = w.times-then-times-most in inr (square_most x.result.high z.result.high u.result x.ensures.good.high z.ensures.good.high u.type_inv u.ensures w.if-times-most-2.false) | else-times-most w ↦ inl (square_most x.result.low z.result.high t.result x.ensures.good.low z.ensures.good.high t.type_inv t.ensures w.if-times-most.false) ])
    (root_new x.ensures.good z.ensures.good c.down-r.ensures l.type_inv l.ensures.value h.type_inv h.ensures.value)).fine

pub returns-then-times-most-2 : goal.returns-then-times-most-2
returns-then-times-most-2 c =
    let s = c in
    let a = s.args in
    let x = c.range_at-old in
    let z = c.range_at-most in
    let t = c.times in
    let u = c.times-then-times-most in
    record {
      kept = same;
      done = root_quiet a.x a.z a.changed a.frame.now.ends.now s.args.frame.now.fine s.requires.fact_1 x.ensures z.ensures
          (square_most x.result.low z.result.high t.result x.ensures.good.low z.ensures.good.high t.type_inv t.ensures c.if-times-most.true)
          (square_most x.result.high z.result.high u.result x.ensures.good.high z.ensures.good.high u.type_inv u.ensures c.if-times-most-2.true);
    }

pub returns : goal.returns
returns c =
    let a = c.args in
    let x = c.range_at-old in
    let z = c.range_at-most in
    let t = c.times in
    let l = c.max in
    let h = c.min in
    record {
      kept = c.replace.ensures.kept;
      done = root_done a.x a.z a.changed a.frame.now.ends.now c.args.frame.now.fine c.requires.fact_1 x.ensures z.ensures c.replace.ensures.value c.requires.fact_3
          (elim c.if-times-most.branch [ then-times-most+else-times-most-2 w ↦ let u = w.times-then-times-most in inr (square_most x.result.high z.result.high u.result x.ensures.good.high z.ensures.good.high u.type_inv u.ensures w.if-times-most-2.false) | else-times-most w ↦ inl (square_most x.result.low z.result.high t.result x.ensures.good.low z.ensures.good.high t.type_inv t.ensures w.if-times-most.false) ])
          (root_new x.ensures.good z.ensures.good c.down-r.ensures l.type_inv l.ensures.value h.type_inv h.ensures.value);
    }
