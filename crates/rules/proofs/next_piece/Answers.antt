-- `rules::next_piece` meets its contract.
use Rattle.rules.proofs.Onto.{onto_start, onto_met, onto_passed, onto_end}
use Rattle.rules.proofs.next_piece.Goals as goal

pub loop-piece-init : goal.loop-piece-init
loop-piece-init c = λ ctx s. onto_start s

pub step-requires : goal.step-requires
step-requires c = let p = c.requires in (p.0, (c.loop-piece.invariant p.0 p.1).sound)

pub returns-in-Met : goal.returns-in-Met
returns-in-Met c =
    λ ctx s. let o = c.loop-piece.invariant ctx s in onto_met o (c.step.ensures ctx o.sound) c.in-Met.is

pub loop-piece-smaller : goal.loop-piece-smaller
loop-piece-smaller c =
    let p = c.requires in
    let o = c.loop-piece.invariant p.0 p.1 in
    (onto_passed o (c.step.ensures p.0 o.sound) c.in-Passed.is).1

pub loop-piece-preserved : goal.loop-piece-preserved
loop-piece-preserved c =
    λ ctx s. let o = c.loop-piece.invariant ctx s in (onto_passed o (c.step.ensures ctx o.sound) c.in-Passed.is).0

pub returns-in-End : goal.returns-in-End
returns-in-End c =
    λ ctx s. let o = c.loop-piece.invariant ctx s in onto_end o (c.step.ensures ctx o.sound) c.in-End.is
