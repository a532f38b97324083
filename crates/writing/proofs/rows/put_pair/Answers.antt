use Rattle.std.proofs.Common.{[], ◌∷◌, pos, to_z-of_z, subst, sym, arith}
use Rattle.writing.specs.Parts.{front_room, rest_room, both, room_at, adds_at}
use Rattle.writing.proofs.Leads.{clause_pair}
use Rattle.writing.proofs.rows.put_pair.Goals as goal

-- the numbers in their three parts
pub add-second-requires : goal.add-second-requires
add-second-requires g c = subst (λ y. g.P.Part.room c.args.part.now c.args.at (y ∷ [])) (sym (to_z-of_z c.ranges.y)) (front_room g.met.P.Part.is _ _ (clause_pair c.args.y c.args.z) c.requires)

pub add-end-requires : goal.add-end-requires
add-end-requires g c =
    let L = g.met.P.Part.is in
    let f = c.ranges.y in
    let a = simp to_z-of_z at c.add-second.ensures in
    let room = L.front (c.args.z ∷ []) (pos 0 ∷ []) _ _ (rest_room L (c.args.y ∷ []) _ (clause_pair c.args.y c.args.z) c.requires a) in
    room_at L (omega arith) (subst (λ z. g.P.Part.room c.add-second.new.self c.add-second.result (z ∷ [])) (sym (to_z-of_z c.ranges.z)) room)

pub add-requires : goal.add-requires
add-requires g c =
    let L = g.met.P.Part.is in
    let f = c.ranges.y in
    let h = c.ranges.z in
    let a = simp to_z-of_z at c.add-second.ensures in
    let b = simp to_z-of_z at c.add-end.ensures in
    let room = rest_room L (c.args.y ∷ []) _ (clause_pair c.args.y c.args.z) c.requires a in
    room_at L (omega arith) (L.behind (c.args.z ∷ []) (pos 0 ∷ []) c.add-second.result _ c.add-end.result _ room (adds_at L (omega arith) b))

pub returns : goal.returns
returns g c =
    let L = g.met.P.Part.is in
    let f = c.ranges.y in
    let h = c.ranges.z in
    let a = simp to_z-of_z at c.add-second.ensures in
    let b = simp to_z-of_z at c.add-end.ensures in
    both L (c.args.y ∷ []) _ (clause_pair c.args.y c.args.z) a (L.joined (c.args.z ∷ []) (pos 0 ∷ []) c.add-second.result _ c.add-end.result _ _ _ (adds_at L (omega arith) b) (adds_at L (omega arith) c.add.ensures))
