-- `decode::read_back` meets its contract: the lengths, the model, and what is written.
use Rattle.std.proofs.Common.{◌∙◌, arith}
use Rattle.std.proofs.lemmas.Result.{err_from_is_err_and}
use Rattle.laws.specs.Boards.{board_of}
use Rattle.laws.specs.Written.{written_all}
use Rattle.decode.specs.Given.{Given, bools_within}
use Rattle.decode.specs.Values.{values_length}
use Rattle.decode.specs.Decoded.{model_wrong, values_wrong, booleans_wrong, model_refused, model-accepted}
use Rattle.decode.proofs.read_back.Goals as goal
use Rattle.decode.proofs.read_back.Goals.{Else-booleans-bools}

-- the lengths are right
given : (c : Else-booleans-bools) → Given c.args.opened.now c.args.model.now
given c = record { opens = c.ints-ints.ensures.opens; long = c.if-model-n.false ∙ c.requires }

-- ---- the answers, in the order of the checks
pub returns-then-model-n : goal.returns-then-model-n
returns-then-model-n c =
    let a = c.args in
    rw c.requires (model_wrong (board_of a.opened.now) a.model.now a.values.now a.booleans.now (rw c.requires at c.if-model-n.true))

pub returns-then-values-ints : goal.returns-then-values-ints
returns-then-values-ints c =
    let a = c.args in
    let n = c.ints-ints.ensures.ints in
    rw n (values_wrong (board_of a.opened.now) a.model.now a.values.now a.booleans.now (c.if-model-n.false ∙ c.requires) (rw n at c.if-values-ints.true))

pub returns-then-booleans-bools : goal.returns-then-booleans-bools
returns-then-booleans-bools c =
    let a = c.args in
    let n = c.bools-bools.ensures.bools in
    rw n (booleans_wrong (board_of a.opened.now) a.model.now a.values.now a.booleans.now (c.if-model-n.false ∙ c.requires) (c.if-values-ints.false ∙ c.ints-ints.ensures.ints) (rw n at c.if-booleans-bools.true))

pub returns-in_err-check_model : goal.returns-in_err-check_model
returns-in_err-check_model c =
    let p = err_from_is_err_and c.from_residual.result c.from_residual.ensures.1 in
    rw (p.1, p.2) (model_refused _ _ _ _ (c.if-model-n.false ∙ c.requires) (c.if-values-ints.false ∙ c.ints-ints.ensures.ints) (c.if-booleans-bools.false ∙ c.bools-bools.ensures.bools) _ c.in_err-check_model.ensures)

pub returns : goal.returns
returns c =
    let m = values_length (board_of c.args.opened.now) c.args.model.now in
    model-accepted _ _ _ _ (c.if-model-n.false ∙ c.requires) (c.if-values-ints.false ∙ c.ints-ints.ensures.ints) (c.if-booleans-bools.false ∙ c.bools-bools.ensures.bools) _ _ c.in_ok-check_model.ensures
    (c.write_values.ensures ∙ written_all _ _ (omega (arith, m, c.ints-ints.ensures.ints, c.if-values-ints.false))) c.write_booleans.ensures

-- ---- what is called
pub check_model-requires : goal.check_model-requires
check_model-requires c = given c

pub write_values-requires : goal.write_values-requires
write_values-requires c = (given (goal.at.write_values-requires c).Else-booleans-bools, omega (arith, c.if-values-ints.false, c.ints-ints.ensures.ints))

pub write_booleans-requires : goal.write_booleans-requires
write_booleans-requires c = omega (arith, bools_within (given (goal.at.write_booleans-requires c).Else-booleans-bools), c.if-booleans-bools.false, c.bools-bools.ensures.bools)
