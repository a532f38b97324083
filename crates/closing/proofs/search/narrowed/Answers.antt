-- `closing::search::narrowed` meets its contract.
use Rattle.std.proofs.Common.{arith, to_z-of_z}
use Rattle.closing.proofs.Ranged.{low_fits, high_fits, asked-small, near_fits, left_yes, left_no}
use Rattle.closing.proofs.search.narrowed.Goals as goal

pub returns-then-reply-eq1 : goal.returns-then-reply-eq1
returns-then-reply-eq1 c =
    let b = c.args.range in
    let low = low_fits b (asked-small b c.args.h c.requires) in
    let h = c.ranges.h in
    simp to_z-of_z (left_yes b c.args.h c.requires c.args.reply c.if-reply-eq1.true)

pub overflow_add-result : goal.overflow_add-result
overflow_add-result c =
    let h = c.ranges.h in
    simp to_z-of_z (near_fits c.args.range c.args.h c.requires _ (omega arith))

pub returns : goal.returns
returns c =
    let b = c.args.range in
    let high = high_fits b (asked-small b c.args.h c.requires) in
    let h = c.ranges.h in
    let n = near_fits b c.args.h c.requires 1 (omega arith) in
    simp to_z-of_z (left_no b c.args.h c.requires c.args.reply c.if-reply-eq1.false)
