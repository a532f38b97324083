-- The line is made in the local bytes.
use Rattle.std.proofs.Common.{◌≡◌, ap, length, take, arith}
use Rattle.definitions.specs.Dimacs.{ascii}
use Rattle.text.specs.Puts.{put_text}
use Rattle.text.specs.Lines.{line, line-length}
use Rattle.writing.specs.Adds.{retold}
use Rattle.write_text.proofs.head.add_first_line.Goals as goal
use Rattle.write_text.proofs.head.add_first_line.Goals.{After-put_text_line-k}

line-put : (p : After-put_text_line-k) → take p.put_text_line-k.result p.put_text_line-k.new.out ≡ line (ascii "p cnf ") p.args.n p.args.m
line-put p = put_text (line (ascii "p cnf ") p.args.n p.args.m) _ p.put_text_line-k.result _ p.put_text_line-k.ensures

pub put_text_line-k-requires : goal.put_text_line-k-requires
put_text_line-k-requires c = omega (arith, line-length (ascii "p cnf ") c.args.n c.args.m)

pub add_bytes-requires : goal.add_bytes-requires
add_bytes-requires c = (
  omega (arith, c.put_text_line-k.ensures.0, line-length (ascii "p cnf ") c.args.n c.args.m, c.put_text_line-k.auto.out),
  omega (arith, ap length (line-put (goal.at.add_bytes-requires c).After-put_text_line-k), c.requires),
)

pub returns : goal.returns
returns c = retold (line-put (goal.at.returns c).After-put_text_line-k) c.add_bytes.ensures
