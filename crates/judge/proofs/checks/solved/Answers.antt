-- `judge::checks::solved` meets its contract: the first refusal met is the one given.
use Rattle.std.proofs.Common.{refl, sym}
use Rattle.laws.specs.Boards.{board_of}
use Rattle.judge.proofs.Checked.{solving_is, near}
use Rattle.judge.proofs.checks.solved.Goals as goal

pub returns-in-Some : goal.returns-in-Some
returns-in-Some c = solving_is (board_of c.args.opened.now) c.args.values.now c.args.booleans.now (sym c.in-Some.ensures) refl refl

pub returns-in-Some-first_outside : goal.returns-in-Some-first_outside
returns-in-Some-first_outside c =
    solving_is (board_of c.args.opened.now) c.args.values.now c.args.booleans.now (sym c.in_default.ensures) (sym c.in-Some-first_outside.ensures) refl

pub first_broken-requires : goal.first_broken-requires
first_broken-requires c = (c.requires, near _ _ _ c.requires (sym c.in_default-first_outside.ensures))

pub returns-in-Some-first_broken : goal.returns-in-Some-first_broken
returns-in-Some-first_broken c =
    solving_is (board_of c.args.opened.now) c.args.values.now c.args.booleans.now (sym c.in_default.ensures) (sym c.in_default-first_outside.ensures) (sym c.in-Some-first_broken.ensures)

pub returns : goal.returns
returns c =
    solving_is (board_of c.args.opened.now) c.args.values.now c.args.booleans.now (sym c.in_default.ensures) (sym c.in_default-first_outside.ensures) (sym c.in_default-first_broken.ensures)
