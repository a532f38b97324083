-- From the answer of `measure` to that of `write_text`.
use Rattle.std.proofs.Common.{sym, arith}
use Rattle.std.proofs.lemmas.Result.{err_from_is_err_and}
use Rattle.measure.specs.Told.{measured}
use Rattle.writing.specs.Adds.{all_held}
use Rattle.write_text.proofs.Texts.{counted, too_short, texted, unmeasured}
use Rattle.write_text.proofs.write_text.Goals as goal

pub returns-in_err-measured : goal.returns-in_err-measured
returns-in_err-measured c =
    let p = err_from_is_err_and c.from_residual.result c.from_residual.ensures.1 in
    rw (p.1, p.2) (unmeasured _ _ _ _ (sym c.in_err-measured.ensures))

pub new-requires : goal.new-requires
new-requires c = (measured _ (sym c.in_ok-measured.ensures)).opened

pub text_length-length-requires : goal.text_length-length-requires
text_length-length-requires c =
    let e = sym c.in_ok-measured.ensures in
    let m = measured c.args.bytes.now e in
    rw c.new.ensures (m.totals, counted c.args.bytes.now c.args.out.now _ e)

pub returns-then-out-length : goal.returns-then-out-length
returns-then-out-length c = too_short _ _ _ (sym c.in_ok-measured.ensures) _ (rw c.new.ensures at c.text_length-length.ensures) c.if-out-length.true

pub add_text-requires : goal.add_text-requires
add_text-requires c =
    let e = sym c.in_ok-measured.ensures in
    let m = measured c.args.bytes.now e in
    rw c.new.ensures (m.totals, counted c.args.bytes.now c.args.out.now _ e)

pub returns : goal.returns
returns c =
    let b = c.new.ensures in
    let t = rw b at c.add_text.ensures in
    let n = rw b at c.text_length-length.ensures in
    texted _ _ _ (sym c.in_ok-measured.ensures) (omega (arith, n)) _ _ (omega (arith, t.place)) (all_held t (omega (arith, n)))
