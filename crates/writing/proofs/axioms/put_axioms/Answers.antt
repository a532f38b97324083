use Rattle.std.proofs.Common.{◌-◌, arith}
use Rattle.writing.specs.Axioms.{steps_from}
use Rattle.writing.specs.Parts.{front_room, rest_room, both, room_at, adds_at}
use Rattle.writing.proofs.Leads.{axioms_on}
use Rattle.writing.proofs.axioms.put_axioms.Goals as goal

pub put_short-upper-requires : goal.put_short-upper-requires
put_short-upper-requires g c = front_room g.met.P.Part.is _ _ (axioms_on c.args.first c.args.width c.requires.1) c.requires.2

pub put_short-between-requires : goal.put_short-between-requires
put_short-between-requires g c =
    let L = g.met.P.Part.is in
    room_at L (omega arith) (L.front _ (steps_from c.args.first (c.args.width - 1)) c.put_short-upper.result _ (rest_room L _ _ (axioms_on c.args.first c.args.width c.requires.1) c.requires.2 c.put_short-upper.ensures))

pub put_steps-requires : goal.put_steps-requires
put_steps-requires g c =
    let L = g.met.P.Part.is in
    (omega (arith, c.requires.1), L.behind _ _ _ _ _ _ (rest_room L _ _ (axioms_on c.args.first c.args.width c.requires.1) c.requires.2 c.put_short-upper.ensures) (adds_at L (omega arith) c.put_short-between.ensures))

pub returns : goal.returns
returns g c =
    let L = g.met.P.Part.is in
    both L _ _ (axioms_on c.args.first c.args.width c.requires.1) c.put_short-upper.ensures (L.joined _ _ _ _ _ _ _ _ (adds_at L (omega arith) c.put_short-between.ensures) c.put_steps.ensures)
