-- A field with a range.
use Rattle.definitions.specs.Reading.{bound}
use Rattle.reader.specs.Parts.{whole_from}
use Rattle.opening.proofs.table.bound_at.Goals as goal

pub returns : goal.returns
unfolding bound whole_from
returns c = c.whole_at.ensures
