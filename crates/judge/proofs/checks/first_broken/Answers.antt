-- The rules are the record's tail.
use Rattle.std.proofs.Common.{refl}
use Rattle.laws.specs.Boards.{board_of}
use Rattle.laws.specs.Reread.{context_of}
use Rattle.rules.specs.Known.{starts, clauses_known}
use Rattle.judge.proofs.checks.first_broken.Goals as goal

pub first_failing-requires : goal.first_failing-requires
first_failing-requires c =
    let l = c.requires.0 in
    rw (c.rules.ensures.rules, c.clauses.ensures.clauses) (record {
      ctx = context_of (board_of c.args.opened.now);
      suited = record { ints = l.ints; bools = l.bools; near = c.requires.1 };
      such = starts {s = c.args.opened.now} (record { opens = l.opens; tail = refl }) refl;
    })

pub returns : goal.returns
returns c =
    let known = clauses_known {s = c.args.opened.now} (record { opens = c.requires.0.opens; tail = refl }) refl in
    rw known at (rw (c.rules.ensures.rules, c.clauses.ensures.clauses) at c.first_failing.ensures)
