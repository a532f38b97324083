-- `decode::axioms::holds_from` meets its contract.
use Rattle.std.proofs.Common.{rules}
use Rattle.decode.specs.Axioms.{rises}
use Rattle.decode.proofs.axioms.holds_from.Goals as goal

pub returns-then-not-is_on : goal.returns-then-not-is_on
unfolding rises
returns-then-not-is_on c = search rules

pub returns-else-not-is_on : goal.returns-else-not-is_on
unfolding rises
returns-else-not-is_on c = search rules
