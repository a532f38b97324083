-- Each piece adds its share.
use Rattle.std.proofs.Common.{◌∷◌}
use Rattle.definitions.specs.Board.{bounds_of}
use Rattle.laws.specs.Boards.{board_of, opens_recorded}
use Rattle.laws.specs.Reread.{context_of}
use Rattle.laws.specs.Pieces.{pieces_from}
use Rattle.opening.specs.Headers.{tail_of}
use Rattle.rules.specs.Cursors.{said_piece, Meets}
use Rattle.rules.specs.Passes.{coming, begun, all_coming, callable, met, further, ended}
use Rattle.measure.specs.Shares.{Adding}
use Rattle.measure.proofs.Shares.{none_added, still_adding, adding-more, next_fits, plus_fits}
use Rattle.measure.proofs.sums.rules_share.Goals as goal
use Rattle.measure.proofs.sums.rules_share.Goals.{In-Some}

module _ (p : In-Some) where
  meets : Meets (context_of (board_of p.args.opened.now)) (tail_of p.args.opened.now) p.loop-piece.piece-iterator.cursor p.in-Some.piece p.next.new.self.cursor
  meets = met _ p.loop-piece.piece-iterator p.loop-piece.invariant.passing p.next.new.self _ p.next.ensures.steps _ p.in-Some.is

  adding : Adding (bounds_of (board_of p.args.opened.now)) (pieces_from 0 (board_of p.args.opened.now).clauses) (said_piece (tail_of p.args.opened.now) p.in-Some.piece ∷ coming p.args.opened.now p.next.new.self) p.loop-piece.total
  adding = still_adding _ _ meets.comes p.loop-piece.invariant.adding

pub loop-piece-init-derived : goal.loop-piece-init-derived
loop-piece-init-derived c =
    let s = c.pieces-piece-items.ensures in
    rw c.into_iter-piece-iterator.ensures.into_iter_gives (callable _ c.pieces-piece-items.result (begun _ c.pieces-piece-items.result s.opens s.rules s.start), tt)

pub loop-piece-init : goal.loop-piece-init
loop-piece-init c =
    let s = c.pieces-piece-items.ensures in
    rw c.into_iter-piece-iterator.ensures.into_iter_gives (record { passing = begun _ c.pieces-piece-items.result s.opens s.rules s.start; adding = none_added _ _ (all_coming _ c.pieces-piece-items.result s.opens s.rules s.start) })

pub share_of-requires : goal.share_of-requires
share_of-requires c =
    rw c.rules-rules.ensures.rules ((meets c).held, next_fits _ (opens_recorded _ c.loop-piece.invariant.passing.opens) _ _ _ (adding c))

pub and-total-requires : goal.and-total-requires
and-total-requires c =
    let p = (goal.at.and-total-requires c).In-Some in
    plus_fits _ (opens_recorded _ c.loop-piece.invariant.passing.opens) _ _ _ (adding p) _ (rw c.rules-rules.ensures.rules at c.share_of.ensures)

pub loop-piece-preserved : goal.loop-piece-preserved
loop-piece-preserved c =
    let p = (goal.at.loop-piece-preserved c).In-Some in
    record {
      passing = further _ p.loop-piece.piece-iterator p.loop-piece.invariant.passing p.next.new.self _ p.next.ensures.steps _ p.in-Some.is;
      adding = rw c.and-total.ensures (adding-more _ _ _ _ _ _ (adding p) (rw c.rules-rules.ensures.rules at c.share_of.ensures));
    }

pub returns : goal.returns
returns c =
    let l = c.loop-piece in
    still_adding _ _ (ended _ l.piece-iterator l.invariant.passing c.next.new.self _ c.next.ensures.steps c.in-None.is) l.invariant.adding
