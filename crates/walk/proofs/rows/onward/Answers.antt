-- Both literals are stepped.
use Rattle.std.proofs.Common.{refl, sym, ap, drop}
use Rattle.walk.specs.Rows.{in_run, front_of, row_next}
use Rattle.walk.proofs.Runs.{raised_steady, lowered_steady}
use Rattle.walk.proofs.rows.onward.Goals as goal

pub returns : goal.returns
unfolding in_run
returns c =
    let run = c.args.run in
    rw (c.up.ensures, c.down.ensures) (
      record { rising = raised_steady run.y run.count c.requires.1 c.requires.0.rising; falling = lowered_steady run.z run.count c.requires.1 c.requires.0.falling },
      refl,
      sym (ap (drop 1) (row_next (front_of run.front) run.y run.z run.count c.requires.1)),
    )
