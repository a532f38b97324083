-- From the answer of `measure` to that of `compile`.
use Rattle.std.proofs.Common.{sym, ap, arith}
use Rattle.std.proofs.lemmas.Result.{err_from_is_err_and}
use Rattle.laws.specs.Boards.{board_of}
use Rattle.laws.specs.Sizes.{K_is}
use Rattle.measure.specs.Told.{measured}
use Rattle.compile.proofs.Compiled.{too_short, compiled, unmeasured}
use Rattle.compile.proofs.compile.Goals as goal

pub returns-in_err-measured : goal.returns-in_err-measured
returns-in_err-measured c =
    let p = err_from_is_err_and c.from_residual.result c.from_residual.ensures.1 in
    rw (p.1, p.2) (unmeasured _ _ _ _ (sym c.in_err-measured.ensures))

pub returns-then-list-sizes : goal.returns-then-list-sizes
returns-then-list-sizes c = too_short _ _ _ (sym c.in_ok-measured.ensures) c.if-list-sizes.true

pub new-requires : goal.new-requires
new-requires c = (measured _ (sym c.in_ok-measured.ensures)).opened

pub put_list-k-requires : goal.put_list-k-requires
put_list-k-requires c =
    let m = measured c.args.bytes.now (sym c.in_ok-measured.ensures) in
    rw c.new.ensures (omega (arith, ap (λ z. z.k) m.totals, K_is (board_of c.args.bytes.now)))

pub returns : goal.returns
returns c =
    let m = measured c.args.bytes.now (sym c.in_ok-measured.ensures) in
    let w = rw c.new.ensures at c.put_list-k.ensures in
    compiled _ _ _ (sym c.in_ok-measured.ensures) c.if-list-sizes.false _ _ w.0 w.1
