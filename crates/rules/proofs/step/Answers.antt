-- `rules::step` meets its contract.
use Rattle.rules.proofs.Steps.{ends}
use Rattle.rules.proofs.step.Goals as goal

pub returns : goal.returns
returns c = λ ctx s. ends ctx _ _ c.if-c-gt0.false c.if-c-gt0-2.false
