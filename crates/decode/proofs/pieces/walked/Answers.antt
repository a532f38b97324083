-- `decode::pieces::walked` meets its contract.
use Rattle.walk.specs.Walks.{Over}
use Rattle.walk.specs.Comparisons.{Walking, none_left}
use Rattle.decode.proofs.pieces.walked.Goals as goal

pub returns-then-held : goal.returns-then-held
unfolding Walking Over
returns-then-held c = rw c.if-held.true (tt, none_left _)
