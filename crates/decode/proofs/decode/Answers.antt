-- `decode::decode` meets its contract: the record, then what is read back.
use Rattle.std.proofs.Common.{sym, ap}
use Rattle.std.proofs.lemmas.Result.{err_from_is_err_and}
use Rattle.measure.specs.Told.{measured, not_measured}
use Rattle.decode.specs.Decoded.{decode_is, decode_refused}
use Rattle.decode.proofs.decode.Goals as goal

pub returns-in_err-measured : goal.returns-in_err-measured
returns-in_err-measured c =
    let a = c.args in
    let p = err_from_is_err_and c.from_residual.result c.from_residual.ensures.1 in
    rw (p.1, p.2) (decode_refused a.bytes.now a.model.now a.values.now a.booleans.now _ (not_measured a.bytes.now (sym c.in_err-measured.ensures)))

pub new-requires : goal.new-requires
new-requires c = (measured _ (sym c.in_ok-measured.ensures)).opened

pub read_back-requires : goal.read_back-requires
read_back-requires c = let m = measured c.args.bytes.now (sym c.in_ok-measured.ensures) in rw c.new.ensures (ap (λ t. t.n) m.totals)

pub returns : goal.returns
returns c =
    let a = c.args in
    let m = measured a.bytes.now (sym c.in_ok-measured.ensures) in
    rw (decode_is a.bytes.now a.model.now a.values.now a.booleans.now m) (rw c.new.ensures at c.read_back.ensures)
