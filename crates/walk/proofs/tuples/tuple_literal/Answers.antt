-- The term's literal at its place.
use Rattle.std.proofs.Common.{◌∙◌, sym, ap, get_or, rules, SFits, to_z-of_z}
use Rattle.std.specs.Int.{w32}
use Rattle.walk.specs.Slots.{slot_literal}
use Rattle.walk.proofs.Padding.{no_slot, slot_fair, place_fine, bound_inside, literal_read}
use Rattle.walk.proofs.tuples.tuple_literal.Goals as goal

pub bound-requires : goal.bound-requires
bound-requires c = place_fine c.args.c c.requires.0 c.args.w c.requires.1 c.args.i c.requires.2

pub literal-requires : goal.literal-requires
literal-requires c =
    let a = c.args in
    let f : SFits w32 c.bound.result = search rules in
    let b = bound_inside a.c c.requires.0 a.w c.requires.1 a.i c.requires.2 c.bound.result c.bound.ensures in
    simp to_z-of_z (slot_fair a.c c.requires.0 a.i c.requires.2, b.0, b.1)

pub returns : goal.returns
returns c =
    let a = c.args in
    let g : SFits w32 c.bound.result = search rules in
    to_z-of_z {w = w32} (search rules)
    ∙ (simp to_z-of_z at c.literal.ensures)
    ∙ ap (slot_literal (get_or a.c.slots a.i no_slot)) c.bound.ensures
    ∙ sym (literal_read a.c c.requires.0 a.w c.requires.1 a.i c.requires.2)
