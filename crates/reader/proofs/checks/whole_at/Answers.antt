-- What was read, within its range.
use mir.Facts.{to_z-of_z}
use Rattle.reader.proofs.Ranges.{whole_ranged}
use Rattle.reader.proofs.checks.whole_at.Goals as goal

pub returns : goal.returns
returns c =
    let a = c.args in
    rw (c.within.ensures, to_z-of_z c.ranges.least, to_z-of_z c.ranges.most) (whole_ranged a.why a.width a.bytes.now a.at a.least a.most c.signed_at.result c.signed_at.ensures)
