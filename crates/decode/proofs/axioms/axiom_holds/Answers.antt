-- `decode::axioms::axiom_holds` meets its contract.
use Rattle.std.proofs.Common.{not, sym, ap, ◌∙◌, arith}
use Rattle.decode.specs.Axioms.{axiom_test, axiom_rises}
use Rattle.decode.proofs.axioms.axiom_holds.Goals as goal

pub returns-in-0 : goal.returns-in-0
unfolding axiom_test
returns-in-0 c = rw c.in-0.is (ap not c.is_on.ensures)

pub returns-in-1 : goal.returns-in-1
unfolding axiom_test
returns-in-1 c = rw c.in-1.is c.is_on-in-1.ensures

pub returns-in_default : goal.returns-in_default
returns-in_default c = c.holds_from.ensures ∙ sym (axiom_rises _ _ _ _ (omega arith))
