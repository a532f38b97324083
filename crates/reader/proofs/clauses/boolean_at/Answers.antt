-- A field with a range.
use Rattle.definitions.specs.Reading.{boolean}
use Rattle.reader.specs.Parts.{number_from}
use Rattle.reader.proofs.clauses.boolean_at.Goals as goal

pub returns : goal.returns
unfolding boolean number_from
returns c = c.number_at.ensures
