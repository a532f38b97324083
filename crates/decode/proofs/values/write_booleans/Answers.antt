-- `decode::values::write_booleans` meets its contract.
use Rattle.std.proofs.Common.{◌≡◌, ◌<◌, length, get_or, take, set, ap, ◌∙◌, arith, length-take-le}
use Rattle.laws.specs.Written.{written_none, written-take, written_all}
use Rattle.decode.proofs.values.write_booleans.Goals as goal

pub loop-i-init : goal.loop-i-init
loop-i-init c = written_none _

pub loop-i-preserved : goal.loop-i-preserved
loop-i-preserved c =
    let m = c.args.model.now in
    let i = c.loop-i.i in
    let l : i < length c.args.booleans.now = c.loop-i-test.true in
    ap (λ z. set z i (get_or m i 0)) c.loop-i.invariant ∙ written-take 0 m c.args.booleans.now i (omega (arith, l, c.requires)) (omega (arith, l))

pub returns : goal.returns
returns c =
    let m = c.args.model.now in
    let i = c.loop-i.i in
    let e : i ≡ length c.args.booleans.now = omega (arith, c.loop-i.auto.i-end, c.loop-i-test.false) in
    rw (← e) (c.loop-i.invariant ∙ written_all (take i m) _ (length-take-le i m (omega (arith, e, c.requires)) ∙ e))
