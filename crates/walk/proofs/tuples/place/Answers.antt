-- The j-th place stands in the range of its term, or in none.
use Rattle.std.proofs.Common.{◌∙◌, sym, ap, ◌+◌, ◌-◌, arith, to_z-of_z}
use Rattle.std.proofs.Math.Facts.{Fits-nat_abs}
use Rattle.std.specs.Int.Signed.{yes_non_neg}
use Rattle.walk.specs.Comparisons.{placed}
use Rattle.walk.proofs.Slots.{low_fits, high_fits, span_fits, span_sign, span-placed}
use Rattle.walk.proofs.Padding.{slot_fair, range-read, range_none}
use Rattle.walk.proofs.tuples.place.Goals as goal

pub returns-then-j-c-lt3 : goal.returns-then-j-c-lt3
returns-then-j-c-lt3 c = sym (ap placed (range_none c.args.c c.args.j (omega arith)))

pub slot_range-range-requires : goal.slot_range-range-requires
slot_range-range-requires c = slot_fair c.args.c c.requires.0 (c.args.j + c.args.c.n - 3) (omega arith)

pub overflow_sub-result : goal.overflow_sub-result
overflow_sub-result c =
    let range = c.slot_range-range in
    let fair = slot_fair c.args.c c.requires.0 (c.args.j + c.args.c.n - 3) (omega arith) in
    search (to_z-of_z, low_fits range.result _ fair range.ensures, high_fits range.result _ fair range.ensures, span_fits range.result _ fair range.ensures)

pub overflow_cast-result : goal.overflow_cast-result
overflow_cast-result c =
    let range = c.slot_range-range in
    let fair = slot_fair c.args.c c.requires.0 (c.args.j + c.args.c.n - 3) (omega arith) in
    let low = low_fits range.result _ fair range.ensures in
    let high = high_fits range.result _ fair range.ensures in
    let span = span_fits range.result _ fair range.ensures in
    simp to_z-of_z (yes_non_neg (span_sign range.result _ fair range.ensures), Fits-nat_abs tt span)

pub returns : goal.returns
returns c =
    let range = c.slot_range-range in
    let fair = slot_fair c.args.c c.requires.0 (c.args.j + c.args.c.n - 3) (omega arith) in
    let low = low_fits range.result _ fair range.ensures in
    let high = high_fits range.result _ fair range.ensures in
    let span = span_fits range.result _ fair range.ensures in
    simp to_z-of_z (span-placed range.result _ fair range.ensures ∙ sym (ap placed (range-read c.args.c c.requires.0 c.args.j (omega arith) c.requires.1)))
