-- Between the cursor that was given and the one that was come to there is no piece.
use Rattle.definitions.specs.Reading.{Context}
use Rattle.rules.specs.Cursors.{Sound, todo}
use Rattle.rules.proofs.Onto.{Onto}
use Rattle.rules.proofs.next_piece.Given as goal

abbrev pub invariant-loop-piece : goal.invariant-loop-piece
invariant-loop-piece l = (ctx : Context) → Sound ctx l.rules l.initial.at → Onto ctx l.rules l.initial.at l.at

abbrev pub decreases-loop-piece : goal.decreases-loop-piece
decreases-loop-piece l = todo l.at
