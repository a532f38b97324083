-- The clauses in the tail, moved to their places in the record, and nothing after them.
use Rattle.std.proofs.Common.{sym, arith}
use Rattle.opening.proofs.Moved.{fault_inside, rules_refused, end_inside, rules-left-over, rules_done}
use Rattle.opening.proofs.body.past_rules.Goals as goal

pub overflow_add-result : goal.overflow_add-result
overflow_add-result c =
    omega (arith, fault_inside c.args.header c.args.bytes.now c.requires.0 _ c.context_of.ensures (sym c.in-Err.ensures))

pub returns-in-Err : goal.returns-in-Err
returns-in-Err c = sym (rules_refused _ _ c.requires.0 _ c.context_of.ensures (sym c.in-Err.ensures))

pub overflow_add-place : goal.overflow_add-place
overflow_add-place c =
    omega (arith, end_inside c.args.header c.args.bytes.now c.requires.0 _ c.context_of.ensures (sym c.in-Ok.ensures))

pub returns-then-place-bytes : goal.returns-then-place-bytes
returns-then-place-bytes c =
    sym (rules-left-over _ _ c.requires.0 _ c.context_of.ensures (sym c.in-Ok.ensures) c.if-place-bytes.true)

pub returns : goal.returns
returns c =
    sym (rules_done _ _ c.requires.0 _ c.context_of.ensures (sym c.in-Ok.ensures) c.if-place-bytes.false)
