-- The range first, then that it is not 0.
use Rattle.std.proofs.Common.{ap, rules}
use mir.Syntax.{w32}
use mir.Val.{SFits, of_z}
use Rattle.laws.specs.Whole.{bits_is}
use Rattle.reader.proofs.Fields.{coefficient_is, not_zero}
use Rattle.reader.proofs.Steps.{passed_on}
use Rattle.reader.proofs.comparisons.past_coefficient.Goals as goal

pub returns-in_err-read : goal.returns-in_err-read
returns-in_err-read c =
    rw (passed_on _ c.from_residual.ensures.1, coefficient_is, ← c.in_err-read.ensures)

pub returns-then-read-eq0 : goal.returns-then-read-eq0
returns-then-read-eq0 c =
    let f : SFits w32 c.in_ok-read.read.value = search rules in
    rw (coefficient_is, ← c.in_ok-read.ensures, bits_is f c.if-read-eq0.true)

pub returns : goal.returns
returns c =
    rw (coefficient_is, ← c.in_ok-read.ensures, not_zero c.in_ok-read.read.value (λ e. c.if-read-eq0.false (ap (of_z w32) e)))
