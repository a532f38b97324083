-- `closing::closing` meets its contract: the record, the checks, then the search.
use Rattle.std.proofs.Common.{sym, ap, ◌∙◌}
use Rattle.std.proofs.lemmas.Result.{err_from_is_err_and}
use Rattle.definitions.specs.Closing.{unfinished, after}
use Rattle.laws.specs.Boards.{board_of}
use Rattle.measure.specs.Told.{measured, not_measured}
use Rattle.slots.specs.Variables.{bounds_same}
use Rattle.closing.proofs.Checked.{known_then, record_refused, closing_is}
use Rattle.closing.proofs.closing.Goals as goal

pub returns-in_err-measured : goal.returns-in_err-measured
returns-in_err-measured c =
    let a = c.args in
    let p = err_from_is_err_and c.from_residual.result c.from_residual.ensures.1 in
    rw (p.1, p.2) (record_refused a.bytes.now a.variable a.replies.now (not_measured a.bytes.now (sym c.in_err-measured.ensures)))

pub new-requires : goal.new-requires
new-requires c = (measured _ (sym c.in_ok-measured.ensures)).opened

pub returns-in_err-checked : goal.returns-in_err-checked
returns-in_err-checked c =
    let a = c.args in
    let p = err_from_is_err_and c.from_residual-in_err-checked.result c.from_residual-in_err-checked.ensures.1 in
    let m = measured a.bytes.now (sym c.in_ok-measured.ensures) in
    let e = rw (c.ints.ensures.ints, c.new.ensures) at (sym c.in_err-checked.ensures) in
    rw (p.1, p.2) (sym (closing_is a.bytes.now a.variable a.replies.now (board_of a.bytes.now) m.board e))

pub bounds_of-requires : goal.bounds_of-requires
bounds_of-requires c =
    rw c.ints.ensures.ints at (known_then _ c.args.variable c.args.replies.now (sym c.in_ok-checked.ensures))

pub searched-requires : goal.searched-requires
searched-requires c = c.bounds_of.ensures.good

pub returns : goal.returns
returns c =
    let a = c.args in
    let m = measured a.bytes.now (sym c.in_ok-measured.ensures) in
    let e = rw (c.ints.ensures.ints, c.new.ensures) at (sym c.in_ok-checked.ensures) in
    c.searched.ensures ∙ ap (λ b. after (unfinished b b.hi) a.replies.now) (bounds_same _ _ _ (rw c.new.ensures at c.bounds_of.ensures)) ∙ sym (closing_is a.bytes.now a.variable a.replies.now (board_of a.bytes.now) m.board e)
