-- With no place or no letter left nothing is written; otherwise the last letter goes behind those of the name without it.
use native.Mathlib.Omega.{arith}
use Rattle.translate.proofs.NamesWritten.{letters_done, letters_none, letters_room, letters_more}
use Rattle.translate.proofs.name.+letters.Goals.{then-most-eq0-via-then-most-eq0, then-most-eq0-via-else-most-eq0+then-name-eq0}
use Rattle.translate.proofs.name.+letters.Goals as goal

pub returns-then-most-eq0 : goal.returns-then-most-eq0
returns-then-most-eq0 t c =
    elim c.then-most-eq0.branch [
      | then-most-eq0-via-then-most-eq0 w ↦ letters_done _ _ _ w.if-most-eq0.true
      | then-most-eq0-via-else-most-eq0+then-name-eq0 w ↦ letters_none _ _ _ w.if-name-eq0.true
    ]

pub bounds-slot-at : goal.bounds-slot-at
bounds-slot-at t c = omega (arith, c.letters-at.auto.slot, letters_room _ _ _ _ _ c.letters-at.ensures)

pub returns : goal.returns
returns t c = letters_more _ _ _ _ _ c.if-most-eq0.false c.if-name-eq0.false (omega arith) c.letters-at.ensures
