-- Every row of the table in specs/TextExamples.antt holds. It stands here so that a wrong definition is refused at this theorem.
use Rattle.std.specs.Prelude.{refl}
use Rattle.definitions.specs.Tools.{All}
use Rattle.definitions.specs.Open.{all_open}
use Rattle.definitions.specs.TextExamples.{Holds, table}

pub the_text_examples_hold : All Holds table
unfolding all_open
the_text_examples_hold = (refl, (refl, (refl, (refl, (refl, (refl, (refl, (refl, (refl, (refl, (refl, (refl, (refl, (refl, (refl, (refl, (refl, (refl, (refl, (refl, (refl, (refl, (refl, (refl, (refl, (refl, (refl, (refl, (refl, (refl, (refl, (refl, (refl, (refl, (refl, (refl, (refl, (refl, (refl, (refl, (refl, (refl, (refl, (refl, (refl, (refl, (refl, (refl, (refl, (refl, (refl, (refl, (refl, (refl, (refl, (refl, (refl, (refl, (refl, (refl, (refl, (refl, (refl, (refl, (refl, (refl, (refl, (refl, (refl, (refl, (refl, (refl, (refl, tt)))))))))))))))))))))))))))))))))))))))))))))))))))))))))))))))))))))))))
