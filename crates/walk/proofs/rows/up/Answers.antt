-- The two cases of the next offset.
use Rattle.std.proofs.Common.{sym, pos, ◌+ℤ◌, arith, SFits, to_z-of_z}
use Rattle.std.specs.Int.{w32}
use Rattle.laws.specs.Whole.{abs_fits, abs_add}
use Rattle.walk.proofs.Steps.{raise_at, raise_on}
use Rattle.walk.proofs.rows.up.Goals as goal

pub returns-then-r-eq0 : goal.returns-then-r-eq0
returns-then-r-eq0 c =
    let f : SFits w32 c.args.p.literal = abs_fits (omega (arith, c.requires.near)) in
    let g : SFits w32 (c.args.p.literal +ℤ pos 1) = abs_fits (omega (arith, abs_add c.args.p.literal (pos 1), c.requires.near)) in
    simp to_z-of_z (sym (raise_at c.args.p c.if-r-eq0.true))

pub returns : goal.returns
returns c =
    let f : SFits w32 c.args.p.literal = abs_fits (omega (arith, c.requires.near)) in
    simp to_z-of_z (sym (raise_on c.args.p (omega arith)))
