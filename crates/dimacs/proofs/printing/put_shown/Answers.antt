-- The line and the numbers after it are what is shown of the answer.
use Rattle.text.specs.Puts.{retold}
use Rattle.dimacs.specs.Shown.{shown_done, shown_refused}
use Rattle.dimacs.proofs.printing.put_shown.Goals as goal

pub returns-in-Ok : goal.returns-in-Ok
returns-in-Ok c = rw c.in-Ok.is (retold _ _ _ _ _ (shown_done c.in-Ok.sizes c.args.list.now) c.put_cnf.ensures)

pub returns-in-Err : goal.returns-in-Err
returns-in-Err c = rw c.in-Err.is (retold _ _ _ _ _ (shown_refused c.in-Err.r c.args.list.now) c.put_refusal.ensures)
