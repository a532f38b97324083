-- The table's numbers are the board's.
use Rattle.slots.specs.Ready.{to_ready, is_ready}
use Rattle.slots.proofs.numbered.Numbered.ready.Goals as goal

pub ready-requires : goal.ready-requires
ready-requires c =
    let h = rw (← c.self.view_is) at c.requires in
    let r = to_ready _ c.self.invariant.0 _ c.self.invariant.1 h in
    (r.1, r.2)

pub returns-clause-ready : goal.returns-clause-ready
returns-clause-ready c =
    let h = rw (← c.self.view_is) at c.requires in
    rw (← c.self.view_is) (is_ready _ c.self.invariant.0 _ c.self.invariant.1 h c.ready.ensures.ready)
