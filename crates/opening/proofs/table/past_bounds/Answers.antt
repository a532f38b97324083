-- Each bound in its range, then the upper against the lower.
use Rattle.std.proofs.Common.{rules}
use mir.Syntax.{w32}
use mir.Val.{SFits}
use Rattle.definitions.specs.Reading.{read_bounds}
use Rattle.reader.proofs.Steps.{passed_on}
use Rattle.reader.proofs.Tests.{tested}
use Rattle.opening.proofs.table.past_bounds.Goals as goal

pub returns-in_err-lower : goal.returns-in_err-lower
unfolding read_bounds
returns-in_err-lower c = rw (passed_on _ c.from_residual.ensures.1, ← c.in_err-lower.ensures)

pub returns-in_err-upper : goal.returns-in_err-upper
unfolding read_bounds
returns-in_err-upper c =
    rw (passed_on _ c.from_residual-in_err-upper.ensures.1, ← c.in_ok-lower.ensures, ← c.in_err-upper.ensures)

pub returns-then-upper-lower : goal.returns-then-upper-lower
unfolding read_bounds
returns-then-upper-lower c =
    let f : SFits w32 c.in_ok-upper.upper.value = search rules in
    let g : SFits w32 c.in_ok-lower.lower.value = search rules in
    rw (← c.in_ok-lower.ensures, ← c.in_ok-upper.ensures, tested f g c.if-upper-lower.true)

pub returns : goal.returns
unfolding read_bounds
returns c =
    let f : SFits w32 c.in_ok-upper.upper.value = search rules in
    let g : SFits w32 c.in_ok-lower.lower.value = search rules in
    rw (← c.in_ok-lower.ensures, ← c.in_ok-upper.ensures, tested f g c.if-upper-lower.false)
