use Rattle.std.proofs.Common.{arith}
use Rattle.definitions.specs.Dimacs.{ascii}
use Rattle.text.specs.Lines.{line-length}
use Rattle.dimacs.proofs.printing.put_refusal.Goals as goal

pub put_text_line-requires : goal.put_text_line-requires
put_text_line-requires c = omega (arith, c.requires, line-length (ascii "refused ") c.number_of.result c.detail_of.result)
