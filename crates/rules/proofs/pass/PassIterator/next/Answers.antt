-- A step of the pass is the next piece, and it leaves the pass one step on.
use Rattle.std.proofs.Common.{rules, refl}
use Rattle.rules.specs.Cursors.{Came}
use Rattle.rules.proofs.pass.PassIterator.next.Goals as goal

pub returns-in_err-piece-clause-steps : goal.returns-in_err-piece-clause-steps
unfolding Came
returns-in_err-piece-clause-steps c = rw c.from_residual.ensures (refl, λ ctx s. c.in_err-piece.ensures ctx s)

pub returns-clause-steps : goal.returns-clause-steps
unfolding Came
returns-clause-steps c = (refl, λ ctx s. c.in_ok-piece.ensures ctx s)

pub returns-clause-goes : goal.returns-clause-goes
unfolding Came
returns-clause-goes c =
    let p = c.requires in
    let m = c.in_ok-piece.ensures p.0 p.1 in
    record { on = λ f. ((p.0, m.onward.sound), search rules, m.onward.less); keeps = (p.0, m.onward.sound); rests = search rules }
