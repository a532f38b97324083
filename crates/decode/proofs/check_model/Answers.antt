-- `decode::check_model` meets its contract: the first refusal met is the one given.
use Rattle.std.proofs.Common.{refl}
use Rattle.laws.specs.Boards.{board_of}
use Rattle.decode.specs.Decoded.{checks_are}
use Rattle.decode.proofs.check_model.Goals as goal

pub returns-in-Some : goal.returns-in-Some
returns-in-Some c = checks_are (board_of c.args.opened.now) c.args.model.now c.in-Some.ensures refl

pub returns-in-Some-search_clauses : goal.returns-in-Some-search_clauses
returns-in-Some-search_clauses c = checks_are (board_of c.args.opened.now) c.args.model.now c.in_default.ensures c.in-Some-search_clauses.ensures

pub returns : goal.returns
returns c = checks_are (board_of c.args.opened.now) c.args.model.now c.in_default.ensures c.in_default-search_clauses.ensures
