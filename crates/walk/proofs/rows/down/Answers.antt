-- The two cases of the offset before.
use Rattle.std.proofs.Common.{sym, pos, ◌-ℤ◌, arith, SFits, to_z-of_z}
use Rattle.std.specs.Int.{w32}
use Rattle.laws.specs.Whole.{abs_fits, abs_sub}
use Rattle.walk.proofs.Steps.{lower_at, lower_on}
use Rattle.walk.proofs.rows.down.Goals as goal

pub returns-then-r-d : goal.returns-then-r-d
returns-then-r-d c =
    let f : SFits w32 c.args.p.literal = abs_fits (omega (arith, c.requires.near)) in
    simp to_z-of_z (sym (lower_on c.args.p (omega arith)))

pub returns : goal.returns
returns c =
    let f : SFits w32 c.args.p.literal = abs_fits (omega (arith, c.requires.near)) in
    let g : SFits w32 (c.args.p.literal -ℤ pos 1) = abs_fits (omega (arith, abs_sub c.args.p.literal (pos 1), c.requires.near)) in
    simp to_z-of_z (sym (lower_at c.args.p (omega arith)))
