-- The letters that may still be written fall with each call.
use Rattle.translate.proofs.name.+letters.Given as goal

abbrev pub decreases-letters : goal.decreases-letters
decreases-letters l = l.most
