-- What was read, within its range.
use Rattle.std.proofs.Common.{◌∙◌, ap}
use Rattle.reader.specs.Said.{said_got}
use Rattle.reader.proofs.Ranges.{number_ranged}
use Rattle.reader.proofs.checks.number_at.Goals as goal

pub returns : goal.returns
returns c =
    let a = c.args in
    ap said_got c.within.ensures ∙ number_ranged a.why a.width a.bytes.now a.at a.least a.most c.unsigned_at.result c.unsigned_at.ensures
