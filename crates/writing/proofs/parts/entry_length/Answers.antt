use Rattle.std.proofs.Common.{sym, to_z-of_z, arith}
use Rattle.laws.specs.Whole.{whole, back}
use Rattle.laws.specs.Decimals.{digits-length}
use Rattle.writing.specs.Lengths.{length_above, length-below, length_zero}
use Rattle.writing.proofs.parts.entry_length.Goals as goal

pub overflow_add-result : goal.overflow_add-result
overflow_add-result c = omega (arith, c.digits.ensures, digits-length 19 c.unsigned_abs.result)

pub returns-then-number-gt0 : goal.returns-then-number-gt0
returns-then-number-gt0 c =
    let f = c.ranges.number in
    omega (arith, c.digits.ensures, length_above c.args.number c.unsigned_abs.result (simp to_z-of_z at c.unsigned_abs.ensures.value) (omega (whole, back f)))

pub overflow_add-result-then-number-lt0 : goal.overflow_add-result-then-number-lt0
overflow_add-result-then-number-lt0 c = omega (arith, c.digits-then-number-lt0.ensures, digits-length 19 c.unsigned_abs-then-number-lt0.result)

pub returns-then-number-lt0 : goal.returns-then-number-lt0
returns-then-number-lt0 c =
    let f = c.ranges.number in
    omega (arith, c.digits-then-number-lt0.ensures, length-below c.args.number c.unsigned_abs-then-number-lt0.result (simp to_z-of_z at c.unsigned_abs-then-number-lt0.ensures.value) (omega (whole, back f)))

pub returns : goal.returns
returns c =
    let f = c.ranges.number in
    sym (length_zero c.args.number (omega (whole, back f)) (omega (whole, back f)))
