-- A field with a range.
use Rattle.reader.specs.Parts.{whole_from, constant}
use Rattle.reader.proofs.comparisons.constant_at.Goals as goal

pub returns : goal.returns
unfolding whole_from constant
returns c = c.whole_at.ensures
