-- `image::image` meets its contract: the record, the checks, then the writing.
use Rattle.std.proofs.Common.{sym, ap, rules}
use Rattle.std.proofs.lemmas.Result.{err_from_is_err_and}
use Rattle.laws.specs.Boards.{board_of}
use Rattle.measure.specs.Told.{measured, not_measured}
use Rattle.image.proofs.Imaged.{writable, image_not, image_refused, image_written}
use Rattle.image.proofs.image.Goals as goal

pub returns-in_err-measured : goal.returns-in_err-measured
returns-in_err-measured c =
    let a = c.args in
    let p = err_from_is_err_and c.from_residual.result c.from_residual.ensures.1 in
    rw (p.1, p.2) (image_not a.bytes.now a.values.now a.booleans.now a.model.now _ (not_measured a.bytes.now (sym c.in_err-measured.ensures)))

pub new-requires : goal.new-requires
new-requires c = (measured _ (sym c.in_ok-measured.ensures)).opened

pub checked-requires : goal.checked-requires
checked-requires c =
    let m = measured c.args.bytes.now (sym c.in_ok-measured.ensures) in
    rw c.new.ensures (m.opened.opens, ap (λ t. t.n) m.totals)

pub returns-in_err-checked : goal.returns-in_err-checked
returns-in_err-checked c =
    let a = c.args in
    let p = err_from_is_err_and c.from_residual-in_err-checked.result c.from_residual-in_err-checked.ensures.1 in
    let m = measured a.bytes.now (sym c.in_ok-measured.ensures) in
    rw (p.1, p.2) (image_refused a.bytes.now a.values.now a.booleans.now a.model.now (board_of a.bytes.now) m.board _ (rw c.new.ensures at c.in_err-checked.ensures))

pub put_model-requires : goal.put_model-requires
put_model-requires c = search (rules, writable)

pub returns : goal.returns
returns c =
    let a = c.args in
    let m = measured a.bytes.now (sym c.in_ok-measured.ensures) in
    image_written a.bytes.now a.values.now a.booleans.now a.model.now (board_of a.bytes.now) m.board (rw c.new.ensures at c.in_ok-checked.ensures) _ (rw c.new.ensures at c.put_model.ensures)
