use Rattle.std.proofs.Common.{arith, ap₂, sym, subst, ◌+◌, ◌-◌, ◌≡◌}
use Rattle.writing.specs.Axioms.{steps_from, steps_none}
use Rattle.writing.specs.Parts.{Adding, begin, first_room, on, ended}
use Rattle.writing.proofs.Leads.{steps_next}
use Rattle.writing.proofs.axioms.put_steps.Goals as goal

pub loop-i-init : goal.loop-i-init
loop-i-init g c =
    let a = c.args in
    let i : a.first + 0 ≡ a.first = omega arith in
    let all : a.steps - 0 ≡ a.steps = omega arith in
    subst (λ s. Adding g.P.Part.room g.P.Part.adds (steps_from a.first a.steps) (steps_from (a.first + 0) (a.steps - 0)) a.at a.part.now a.at s) (sym c.taken-here.ensures)
    (begin g.met.P.Part.is a.at a.part.now (ap₂ steps_from i all) c.requires.1)

pub add_step-place-requires : goal.add_step-place-requires
add_step-place-requires g c =
    let i = c.loop-i.i in
    (omega (arith, c.requires.0), first_room g.met.P.Part.is c.loop-i.invariant _ _ (steps_next (c.args.first + i) (c.args.steps - i) (c.args.steps - (i + 1)) (c.args.first + (i + 1)) (omega arith) (omega arith) (omega (arith, c.requires.0))))

pub loop-i-preserved : goal.loop-i-preserved
loop-i-preserved g c =
    let i = c.loop-i.i in
    on g.met.P.Part.is c.loop-i.invariant _ _ (steps_next (c.args.first + i) (c.args.steps - i) (c.args.steps - (i + 1)) (c.args.first + (i + 1)) (omega arith) (omega arith) (omega (arith, c.requires.0))) c.add_step-place.ensures

pub returns : goal.returns
returns g c = ended g.met.P.Part.is c.loop-i.invariant (steps_none (c.args.first + c.loop-i.i) _ (omega arith))
