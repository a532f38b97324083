-- Every number is a multiple of 1.
use Rattle.std.proofs.Common.{arith}
use Rattle.walk.proofs.rows.until.Goals as goal

pub returns-then-d-eq1 : goal.returns-then-d-eq1
returns-then-d-eq1 c = record { times = c.args.k; whole = rw c.if-d-eq1.true (omega arith); short = c.requires.0 }
