use Rattle.std.proofs.Common.{refl, to_z-of_z, arith}
use Rattle.writing.specs.Adds.{set_one}
use Rattle.writing.proofs.parts.AsNumbersPart.add.Goals as goal

pub returns : goal.returns
returns c = let f = c.ranges.number in simp to_z-of_z (set_one c.args.number c.args.at c.args.self.now.list.now (omega (arith, c.requires)), refl)
