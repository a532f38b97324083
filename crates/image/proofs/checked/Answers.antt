-- `image::checked` meets its contract: the first refusal met is the one given.
use Rattle.std.proofs.Common.{sym, ◌∙◌}
use Rattle.std.proofs.lemmas.Result.{err_from_is_err_and}
use Rattle.judge.proofs.Judged.{long_enough}
use Rattle.image.proofs.Imaged.{lists_wrong, model_wrong, lists_right}
use Rattle.image.proofs.checked.Goals as goal

pub returns-in_err-lengths : goal.returns-in_err-lengths
returns-in_err-lengths c =
    let p = err_from_is_err_and c.from_residual.result c.from_residual.ensures.1 in
    rw (p.1, p.2) (lists_wrong _ _ _ _ (sym c.in_err-lengths.ensures))

pub returns-then-lent-sizes : goal.returns-then-lent-sizes
returns-then-lent-sizes c = model_wrong _ _ _ _ (sym c.in_ok-lengths.ensures) c.requires.1 c.if-lent-sizes.true

pub solved-requires : goal.solved-requires
solved-requires c = long_enough _ _ _ c.requires.0 (sym c.in_ok-lengths.ensures)

pub returns : goal.returns
returns c = c.solved.ensures ∙ lists_right _ _ _ _ (sym c.in_ok-lengths.ensures) c.requires.1 c.if-lent-sizes.false
