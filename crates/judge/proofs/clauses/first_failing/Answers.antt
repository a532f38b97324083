-- `judge::clauses::first_failing` meets its contract.
use Rattle.std.proofs.Common.{refl, sym, ◌∙◌, arith}
use Rattle.rules.specs.Cursors.{Meets}
use Rattle.judge.proofs.Passing.{seek-start, piece_suits, number-most, seek_fails, seek-on, seek_none}
use Rattle.judge.proofs.clauses.first_failing.Goals as goal
use Rattle.judge.proofs.clauses.first_failing.Goals.{In-Some}

module _ (p : In-Some) where
  meets : Meets p.loop-piece.invariant.seeking.suiting.ctx p.args.rules.now p.loop-piece.piece-iterator.cursor p.in-Some.piece p.next.new.self.cursor
  meets =
      let s = p.loop-piece.invariant.seeking.suiting in
      (rw (p.loop-piece.invariant.rules, p.in-Some.is) at p.next.ensures.steps.1) s.ctx s.such

pub loop-piece-init-derived : goal.loop-piece-init-derived
loop-piece-init-derived c =
    rw (c.into_iter-piece-iterator.ensures.into_iter_gives, c.start.ensures) ((c.requires.ctx, c.requires.such), tt)

pub loop-piece-init : goal.loop-piece-init
loop-piece-init c =
    rw (c.into_iter-piece-iterator.ensures.into_iter_gives, c.start.ensures) (record { rules = refl; seeking = seek-start _ _ _ _ c.requires })

pub piece_holds-requires : goal.piece_holds-requires
piece_holds-requires c = piece_suits c.loop-piece.invariant.seeking (meets c)

pub returns-then-not-piece_holds : goal.returns-then-not-piece_holds
returns-then-not-piece_holds c =
    let p = (goal.at.returns-then-not-piece_holds c).In-Some in
    seek_fails c.loop-piece.invariant.seeking (meets p) (sym c.if-not-piece_holds.true ∙ c.piece_holds.ensures)

pub overflow_add-number : goal.overflow_add-number
overflow_add-number c =
    let p = (goal.at.overflow_add-number c).In-Some in
    omega (arith, c.clauses_in-number.ensures, number-most c.loop-piece.invariant.seeking (meets p))

pub loop-piece-preserved : goal.loop-piece-preserved
loop-piece-preserved c =
    let p = (goal.at.loop-piece-preserved c).In-Some in
    record {
      rules = p.next.ensures.steps.0 ∙ p.loop-piece.invariant.rules;
      seeking = rw c.clauses_in-number.ensures (seek-on p.loop-piece.invariant.seeking (meets p) (sym c.if-not-piece_holds.false ∙ c.piece_holds.ensures));
    }

pub returns : goal.returns
returns c =
    let s = c.loop-piece.invariant.seeking in
    seek_none s ((rw (c.loop-piece.invariant.rules, c.in-None.is) at c.next.ensures.steps.1) s.suiting.ctx s.suiting.such)
