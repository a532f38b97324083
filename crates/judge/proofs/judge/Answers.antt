-- `judge::judge` meets its contract: the record, the lengths, then the checks.
use Rattle.std.proofs.Common.{refl, sym, ◌∙◌}
use Rattle.std.proofs.lemmas.Result.{err_from_is_err_and}
use Rattle.laws.specs.Boards.{board_of}
use Rattle.measure.specs.Told.{measured, not_measured}
use Rattle.judge.proofs.Judged.{judge_is, judge-not, long_enough}
use Rattle.judge.proofs.judge.Goals as goal

pub returns-in_err-measured : goal.returns-in_err-measured
returns-in_err-measured c =
    let p = err_from_is_err_and c.from_residual.result c.from_residual.ensures.1 in
    rw (p.1, p.2) (judge-not _ c.args.values.now c.args.booleans.now (not_measured _ (sym c.in_err-measured.ensures)))

pub new-requires : goal.new-requires
new-requires c = (measured _ (sym c.in_ok-measured.ensures)).opened

pub returns-in_err-lengths : goal.returns-in_err-lengths
returns-in_err-lengths c =
    let p = err_from_is_err_and c.from_residual-in_err-lengths.result c.from_residual-in_err-lengths.ensures.1 in
    let s = c.args.bytes.now in
    let m = measured s (sym c.in_ok-measured.ensures) in
    rw (p.1, p.2) (judge_is s _ _ (board_of s) m.board (rw c.new.ensures at (sym c.in_err-lengths.ensures)) refl)

pub solved-requires : goal.solved-requires
solved-requires c =
    let m = measured c.args.bytes.now (sym c.in_ok-measured.ensures) in
    long_enough _ _ _ (rw c.new.ensures m.opened.opens) (sym c.in_ok-lengths.ensures)

pub returns : goal.returns
returns c =
    let s = c.args.bytes.now in
    let m = measured s (sym c.in_ok-measured.ensures) in
    (rw c.new.ensures at c.solved.ensures) ∙ judge_is s _ _ (board_of s) m.board (rw c.new.ensures at (sym c.in_ok-lengths.ensures)) refl
