-- A field with a range.
use Rattle.definitions.specs.Reading.{count}
use Rattle.reader.specs.Parts.{number_from}
use Rattle.opening.proofs.head.count_at.Goals as goal

pub returns : goal.returns
unfolding count number_from
returns c = c.number_at.ensures
