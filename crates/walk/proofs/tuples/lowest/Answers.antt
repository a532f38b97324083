-- The first tuple is the one that the lemmas of the moves name.
use Rattle.std.proofs.Common.{◌-◌, sym, ap, subst, ◌∙◌, arith}
use Rattle.walk.specs.Walks.{moved, refill}
use Rattle.walk.proofs.Moves.{Begins, begin_none, begin_at}
use Rattle.walk.proofs.tuples.lowest.Goals as goal

pub returns-then-a-after : goal.returns-then-a-after
returns-then-a-after c = let s = c.args in begin_none s.a s.b s.c c.requires s.t (omega arith)

pub returns : goal.returns
returns c =
    let s = c.args in
    subst (Begins s.a s.b s.c c.requires s.t)
    (sym (c.refilled.ensures ∙ ap (λ k. refill (moved s.a k) s.b s.c (s.t - k)) c.saturating_sub-k.ensures))
    (begin_at s.a s.b s.c c.requires s.t (omega arith))
