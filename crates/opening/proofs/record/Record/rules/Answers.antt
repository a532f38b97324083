-- The rules begin within the record.
use Rattle.std.proofs.Common.{rules}
use Rattle.opening.specs.Headers.{rules_inside, tail_is}
use Rattle.opening.proofs.record.Record.rules.Goals as goal

pub slice_bounds-result-count : goal.slice_bounds-result-count
slice_bounds-result-count c = rules_inside c.self.invariant

pub slice_bounds-result-start : goal.slice_bounds-result-start
slice_bounds-result-start c = let h = rules_inside c.self.invariant in search rules

pub returns-clause-rules : goal.returns-clause-rules
returns-clause-rules c = rw (← c.self.view_is) (tail_is c.self.invariant)
