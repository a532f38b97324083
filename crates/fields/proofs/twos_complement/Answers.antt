-- The two halves of the numbers of a width, by the laws of two's complement.
use mir.Facts.{to_z-of_z, sfits_widen}
use native.Mathlib.Omega.{arith}
use Rattle.fields.proofs.Laws.{low_fits, twos_low, twos-high, twos_fits}
use Rattle.fields.proofs.twos_complement.Goals as goal

pub overflow_cast-result : goal.overflow_cast-result
overflow_cast-result c =
    low_fits c.args.width _ c.requires.0 c.requires.1 (omega arith)

pub returns-then-value-numbers : goal.returns-then-value-numbers
returns-then-value-numbers c =
    twos_low c.args.width _ c.requires.0 c.requires.1 (omega arith)

pub overflow_cast-result-4 : goal.overflow_cast-result-4
overflow_cast-result-4 c =
    let f = twos_fits _ _ c.requires.0 c.requires.1 in
    rw (c.power-numbers.ensures, twos-high _ _ c.requires.0 c.requires.1 (omega arith), to_z-of_z (sfits_widen tt f)) f

pub returns : goal.returns
returns c =
    let f = twos_fits _ _ c.requires.0 c.requires.1 in
    rw (c.power-numbers.ensures, twos-high _ _ c.requires.0 c.requires.1 (omega arith), to_z-of_z (sfits_widen tt f), to_z-of_z f)
