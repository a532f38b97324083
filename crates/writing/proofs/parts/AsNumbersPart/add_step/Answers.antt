use Rattle.std.proofs.Common.{refl, arith, sym, length, length-set, to_z, w32, ◌+◌, ◌≤◌, ◌≡◌, set}
use Rattle.writing.specs.Adds.{retold, set_at, ◌then◌}
use Rattle.writing.specs.Axioms.{steps_length}
use Rattle.writing.proofs.Leads.{negated, step_words}
use Rattle.writing.proofs.parts.AsNumbersPart.add_step.Goals as goal

pub bounds-self-at : goal.bounds-self-at
bounds-self-at c = omega (arith, c.requires.1, steps_length c.args.number 1)

pub bounds-self-at-2 : goal.bounds-self-at-2
bounds-self-at-2 c = omega (arith, c.requires.1, steps_length c.args.number 1, length-set c.args.self.now.list.now c.args.at (negated c.args.number))

pub bounds-self-at-3 : goal.bounds-self-at-3
bounds-self-at-3 c =
    let list = c.args.self.now.list.now in
    let one = negated c.args.number in
    omega (arith, c.requires.1, steps_length c.args.number 1, length-set list c.args.at one, length-set (set list c.args.at one) (c.args.at + 1) (to_z w32 (c.args.number + 1)))

pub returns : goal.returns
returns c =
    let a = c.args.at in
    let list = c.args.self.now.list.now in
    let one = negated c.args.number in
    let two = to_z w32 (c.args.number + 1) in
    let fit : a + 3 ≤ length list = omega (arith, c.requires.1, steps_length c.args.number 1) in
    let twice : length (set (set list a one) (a + 1) two) ≡ length list = omega (arith, length-set list a one, length-set (set list a one) (a + 1) two) in
    (retold (sym (step_words c.args.number c.requires.0)) (set_at one a _ (a + 1) list (omega arith) (omega arith) (omega (arith, fit)) then set_at two (a + 1) _ (a + 2) _ (omega arith) (omega arith) (omega (arith, fit, length-set list a one)) then set_at _ (a + 2) _ _ _ (omega arith) (omega arith) (omega (arith, fit, twice))), refl)
