-- `rules::into_clause` meets its contract.
use Rattle.std.proofs.Common.{sym, ◌∙◌, arith, rules}
use Rattle.rules.proofs.Steps.{count_there, first_there, goes_bare, goes_line}
use Rattle.rules.proofs.into_clause.Goals as goal

pub unchecked-n-requires : goal.unchecked-n-requires
unchecked-n-requires c = let p = c.requires in (omega arith, count_there p.0.0 _ _ p.0.1 p.1 p.2)

pub overflow_add-next : goal.overflow_add-next
overflow_add-next c =
    let p = c.requires in
    let h = count_there p.0.0 _ _ p.0.1 p.1 p.2 in search rules

pub is_lone-requires : goal.is_lone-requires
is_lone-requires c = let p = c.requires in first_there p.0.0 _ _ p.0.1 p.1 p.2 _ c.unchecked-n.ensures

pub returns-then-is_lone : goal.returns-then-is_lone
returns-then-is_lone c =
    let p = c.requires in
    λ ctx s. rw c.inside.ensures (goes_bare ctx _ _ s p.1 p.2 _ c.unchecked-n.ensures (sym c.is_lone.ensures ∙ c.if-is_lone.true))

pub returns : goal.returns
returns c =
    let p = c.requires in
    λ ctx s. rw c.inside-2.ensures (goes_line ctx _ _ s p.1 p.2 _ c.unchecked-n.ensures (sym c.is_lone.ensures ∙ c.if-is_lone.false))
