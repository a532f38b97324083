use Rattle.std.proofs.Common.{[], ◌∷◌, to_z-of_z}
use Rattle.writing.specs.Numbers.{clause, stays}
use Rattle.writing.specs.Parts.{front_room, rest_room, both}
use Rattle.writing.proofs.Leads.{as_words, clause_behind}
use Rattle.writing.proofs.rows.put_clause.Goals as goal

pub put_fixed-place-requires : goal.put_fixed-place-requires
put_fixed-place-requires g c = front_room g.met.P.Part.is _ _ (clause_behind (stays c.args.lead c.args.front) (c.args.y ∷ c.args.z ∷ [])) c.requires

pub put_pair-requires : goal.put_pair-requires
put_pair-requires g c =
    as_words (λ y z. g.P.Part.room c.put_fixed-place.new.part c.put_fixed-place.result (clause (y ∷ z ∷ []))) c.ranges.y c.ranges.z
    (rest_room g.met.P.Part.is (stays c.args.lead c.args.front) _ (clause_behind _ (c.args.y ∷ c.args.z ∷ [])) c.requires c.put_fixed-place.ensures)

pub returns : goal.returns
returns g c =
    let f = c.ranges.y in
    let h = c.ranges.z in
    let b = simp to_z-of_z at c.put_pair.ensures in
    both g.met.P.Part.is (stays c.args.lead c.args.front) _ (clause_behind _ (c.args.y ∷ c.args.z ∷ [])) c.put_fixed-place.ensures b
