-- What is behind the row's last tuple is behind the row.
use Rattle.std.proofs.Common.{arith}
use Rattle.walk.specs.Comparisons.{walking_fine}
use Rattle.walk.proofs.Runs.{along_fine, behind}
use Rattle.walk.proofs.rows.after_row.Goals as goal

pub room-k-requires : goal.room-k-requires
room-k-requires c = (walking_fine c.args.c c.args.w c.requires).1.0.inside

pub next-requires : goal.next-requires
next-requires c = along_fine c.args.w (walking_fine c.args.c c.args.w c.requires) c.room-k.result (omega arith)

pub returns : goal.returns
returns c = behind c.args.c c.args.w c.requires c.room-k.result c.room-k.ensures c.next.result c.next.ensures
