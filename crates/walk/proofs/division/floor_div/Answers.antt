-- A fraction is that of the negated numbers.
use Rattle.std.proofs.Common.{pos, ◌∙◌, arith, rules, to_z-of_z}
use Rattle.std.specs.Int.{w32}
use Rattle.laws.specs.Whole.{whole, back}
use Rattle.laws.specs.Division.{floor_flip}
use Rattle.walk.proofs.Fits.{less_small}
use Rattle.walk.proofs.division.floor_div.Goals as goal

pub returns-then-a-lt0 : goal.returns-then-a-lt0
returns-then-a-lt0 c =
    let fa = c.ranges.a in
    let fb = c.ranges.b in
    let ma = less_small (pos 0) c.args.a (omega arith) (omega arith) in
    let mb = less_small (pos 0) c.args.b (omega arith) (omega arith) in
    to_z-of_z {w = w32} (search rules) ∙ (simp to_z-of_z at c.floor_positive.ensures) ∙ floor_flip c.args.b c.args.a (omega (whole, back fa))
