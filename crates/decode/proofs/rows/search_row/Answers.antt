-- `decode::rows::search_row` meets its contract.
use Rattle.std.proofs.Common.{◌<◌, length, sym, ap, ◌∙◌, subst, arith}
use Rattle.definitions.specs.Tools.{All}
use Rattle.laws.specs.Mentions.{InList}
use Rattle.walk.specs.Rows.{in_run, row_some}
use Rattle.decode.specs.Rows.{run-held, front_numbered}
use Rattle.decode.proofs.rows.search_row.Goals as goal

pub front_holds-requires-in-Many : goal.front_holds-requires-in-Many
front_holds-requires-in-Many c =
    let e = c.in-Many.ensures in
    let some : 0 < length (in_run c.in-Many.run') = omega (arith, ap length e.1, row_some c.args.tails c.args.tuple) in
    (front_numbered c.in-Many.run' (length c.args.model.now) some (subst (All (All (InList (length c.args.model.now)))) (sym e.1) c.requires.2), c.requires.3)

pub returns-then-front_holds-2 : goal.returns-then-front_holds-2
returns-then-front_holds-2 c =
    rw (← c.in-Many.ensures.1) (run-held c.in-Many.run' c.args.model.now (sym c.front_holds-in-Many.ensures ∙ c.if-front_holds-2.true) c.args.number)
