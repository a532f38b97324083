-- The next tuple is the one that the lemmas of the moves name.
use Rattle.std.proofs.Common.{sym, subst, arith}
use Rattle.walk.proofs.Moves.{Steps, move_second, move_first, move_none}
use Rattle.walk.proofs.tuples.next.Goals as goal

pub returns-then-room-gt0 : goal.returns-then-room-gt0
returns-then-room-gt0 c = move_second c.args.w c.requires (omega arith)

pub returns-then-room-gt0-2 : goal.returns-then-room-gt0-2
returns-then-room-gt0-2 c = subst (Steps c.args.w c.requires) (sym c.refilled.ensures) (move_first c.args.w c.requires (omega arith) (omega arith))

pub returns : goal.returns
returns c = move_none c.args.w c.requires (omega arith) (omega arith)
