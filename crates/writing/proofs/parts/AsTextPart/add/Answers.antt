use Rattle.std.proofs.Common.{refl, to_z-of_z, arith, ap, length}
use Rattle.definitions.specs.Dimacs.{entry}
use Rattle.writing.specs.Adds.{retold, put, no_room}
use Rattle.writing.specs.Parts.{entries-one}
use Rattle.writing.proofs.parts.AsTextPart.add.Goals as goal

pub overflow_add-next : goal.overflow_add-next
overflow_add-next c =
    let f = c.ranges.number in
    let e = simp to_z-of_z at c.entry_length.ensures in
    omega (arith, e, ap length (entries-one c.args.number), c.requires)

pub returns-then-self-next : goal.returns-then-self-next
returns-then-self-next c =
    let f = c.ranges.number in
    let e = simp to_z-of_z at c.entry_length.ensures in
    (retold (entries-one c.args.number) (no_room (entry c.args.number) _ _ _ e c.if-self-next.true), refl)

pub returns : goal.returns
returns c =
    let f = c.ranges.number in
    let e = simp to_z-of_z at c.entry_length.ensures in
    let p = simp to_z-of_z at c.put_entry.ensures in
    (retold (entries-one c.args.number) (put (entry c.args.number) c.args.at c.args.self.now.out.now _ _ (omega (arith, e, c.if-self-next.false)) p.0 p.1), refl)
