use Rattle.std.proofs.Common.{◌<◌, length, max, sym, ◌∙◌, arith, rules, SFits, w32, to_z-of_z}
use Rattle.replies.specs.Lists.{writes_none, writes_more, writes_all, writes_bad, writes_room, number_fits, now_length}
use Rattle.replies.proofs.lists.put_numbers.Goals as goal

pub loop-got-init : goal.loop-got-init
loop-got-init c = writes_none _ _ _ _ _

pub signed-requires : goal.signed-requires
signed-requires c =
    let found = rw c.in-Ok-Number.field-0-is at c.in-Ok-Number.ensures in
    omega (arith, number_fits _ _ _ _ _ c.requires.room c.loop-got.invariant _ _ _ _ (sym found.says), c.requires.small)

pub bounds-list-numbers : goal.bounds-list-numbers
bounds-list-numbers c =
    let found = rw c.in-Ok-Number.field-0-is at c.in-Ok-Number.ensures in
    omega (arith, writes_room _ _ _ _ _ c.requires.room c.loop-got.invariant _ _ _ _ (sym found.says), now_length _ _ _ _ _ c.requires.room c.loop-got.invariant)

pub offset_bounds-list-numbers : goal.offset_bounds-list-numbers
offset_bounds-list-numbers c =
    let found = rw c.in-Ok-Number.field-0-is at c.in-Ok-Number.ensures in
    let room : c.loop-got.numbers < length c.args.list.now = writes_room _ _ _ _ _ c.requires.room c.loop-got.invariant _ _ _ _ (sym found.says) in search rules

pub loop-got-preserved : goal.loop-got-preserved
loop-got-preserved c =
    let found = rw c.in-Ok-Number.field-0-is at c.in-Ok-Number.ensures in
    let fits : SFits w32 c.signed.result = search rules in
    writes_more _ _ _ _ _ c.requires.room c.loop-got.invariant _ _ _ _ (sym found.says) _ _ (to_z-of_z fits ∙ c.signed.ensures) found.place.0 c.clauses_after-clauses.ensures

pub returns-in_default : goal.returns-in_default
returns-in_default c = writes_all _ _ _ _ _ c.requires.room c.loop-got.invariant (max c.loop-got.at (length c.args.text.now)) (search rules)

pub returns-in_default-2 : goal.returns-in_default-2
returns-in_default-2 c = writes_bad _ _ _ _ _ c.requires.room c.loop-got.invariant _ (sym (rw c.in_default.is at c.next_number.ensures.says))
