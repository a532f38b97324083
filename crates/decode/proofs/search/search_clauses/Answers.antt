-- `decode::search::search_clauses` meets its contract: the axioms, then the rules at the values that the axioms tell.
use Rattle.std.proofs.Common.{◌∙◌, arith}
use mathlib.Core.List.{flatten}
use Rattle.definitions.specs.Encoding.{clauses, axioms}
use Rattle.laws.specs.Boards.{board_of, opens_recorded}
use Rattle.decode.specs.Given.{admitted, counts_small}
use Rattle.decode.specs.Truth.{tests}
use Rattle.decode.specs.Goes.{Goes, goes_start, goes_part, goes_fails}
use Rattle.decode.specs.Sums.{axioms_told, values_in, near_none}
use Rattle.decode.specs.Passes.{rule_tests, clauses_split, clauses_fit}
use Rattle.decode.proofs.search.search_clauses.Goals as goal
use Rattle.decode.proofs.search.search_clauses.Goals.{In-Ok}

-- the axioms hold: the rules are left
rules-left : (c : In-Ok) → let B = board_of c.args.opened.now in Goes 0 (tests B c.args.model.now (clauses B)) c.in-Ok.number (rule_tests B c.args.model.now)
rules-left c = goes_part (goes_start 0 _) _ _ (clauses_split (board_of c.args.opened.now) c.args.model.now) _ c.search_axioms.ensures c.in-Ok.is

pub write_values-requires : goal.write_values-requires
write_values-requires c = (c.requires, omega (arith, counts_small c.requires))

pub search_rules-requires : goal.search_rules-requires
search_rules-requires c =
    let B = board_of c.args.opened.now in
    let m = c.args.model.now in
    let o = admitted c.requires in
    let told = axioms_told B m o c.in-Ok.ensures.0 in
    let v = values_in B m o told _ _ (near_none 1024) (omega (arith, counts_small c.requires)) c.write_values.ensures in
    rw c.new.ensures (c.requires, told, v, omega (arith, (rules-left (goal.at.search_rules-requires c).In-Ok).count, clauses_fit B m (opens_recorded _ c.requires.opens)))

pub returns-in-Err : goal.returns-in-Err
returns-in-Err c =
    let B = board_of c.args.opened.now in
    let m = c.args.model.now in
    goes_fails (goes_start 0 _) (tests B m (flatten (axioms B))) (rule_tests B m) (clauses_split B m) _ c.search_axioms.ensures c.in-Err.is

pub returns-in-Ok : goal.returns-in-Ok
returns-in-Ok c = (rw c.new.ensures at c.search_rules.ensures) ∙ (rules-left (goal.at.returns-in-Ok c).In-Ok).same
