use Rattle.std.proofs.Common.{[], ◌∷◌, pos, to_z, w32, ◌+◌, arith}
use Rattle.writing.specs.Parts.{front_room, rest_room, both, room_at, adds_at}
use Rattle.writing.proofs.Leads.{negated, step_words}
use Rattle.writing.proofs.parts.Part.add_step.Goals as goal

pub add-second-requires : goal.add-second-requires
add-second-requires g c = front_room g.met.Self.Part.is _ _ (step_words c.args.number c.requires.0) c.requires.1

pub add-end-requires : goal.add-end-requires
add-end-requires g c =
    let L = g.met.Self.Part.is in
    let two = to_z w32 (c.args.number + 1) in
    let room = rest_room L (negated c.args.number ∷ []) _ (step_words c.args.number c.requires.0) c.requires.1 c.add-second.ensures in
    room_at L (omega arith) (L.front (two ∷ []) (pos 0 ∷ []) c.add-second.result _ room)

pub add-requires : goal.add-requires
add-requires g c =
    let L = g.met.Self.Part.is in
    let two = to_z w32 (c.args.number + 1) in
    let room = rest_room L (negated c.args.number ∷ []) _ (step_words c.args.number c.requires.0) c.requires.1 c.add-second.ensures in
    room_at L (omega arith) (L.behind (two ∷ []) (pos 0 ∷ []) c.add-second.result _ c.add-end.result _ room (adds_at L (omega arith) c.add-end.ensures))

pub returns : goal.returns
returns g c =
    let L = g.met.Self.Part.is in
    let two = to_z w32 (c.args.number + 1) in
    let ended = L.joined (two ∷ []) (pos 0 ∷ []) c.add-second.result _ c.add-end.result _ _ _ (adds_at L (omega arith) c.add-end.ensures) (adds_at L (omega arith) c.add.ensures) in
    both L (negated c.args.number ∷ []) _ (step_words c.args.number c.requires.0) c.add-second.ensures ended
