-- Each piece's numbers go behind those that are in the list.
use Rattle.std.proofs.Common.{ap, arith, rules, ◌+◌, ◌≤◌, ◌∙◌, length}
use Rattle.laws.specs.Boards.{board_of}
use Rattle.laws.specs.Filling.{begin, room_for, part, ended}
use Rattle.laws.specs.Reread.{context_of}
use Rattle.laws.specs.Written.{rest-length}
use Rattle.opening.specs.Headers.{tail_of}
use Rattle.rules.specs.Cursors.{said_piece, Meets}
use Rattle.rules.specs.Passes as passes
use Rattle.rules.specs.Passes.{coming, begun, all_coming, callable, met, further}
use Rattle.compile.specs.Lists.{piece_numbers, pieces_numbers, pieces_end}
use Rattle.compile.proofs.Passes.{numbers_met}
use Rattle.compile.proofs.pieces.put_pieces.Goals as goal
use Rattle.compile.proofs.pieces.put_pieces.Goals.{In-Some}

module _ (p : In-Some) where
  meets : Meets (context_of (board_of p.args.numbered.now)) (tail_of p.args.numbered.now) p.loop-piece.piece-iterator.cursor p.in-Some.piece p.next.new.self.cursor
  meets = met _ p.loop-piece.piece-iterator p.loop-piece.invariant.passing p.next.new.self _ p.next.ensures.steps _ p.in-Some.is

pub loop-piece-init-derived : goal.loop-piece-init-derived
loop-piece-init-derived c =
    let s = rw c.record.ensures.bytes at c.pieces-piece-items.ensures in
    rw c.into_iter-piece-iterator.ensures.into_iter_gives (callable _ c.pieces-piece-items.result (begun _ c.pieces-piece-items.result s.opens s.rules s.start), tt)

pub loop-piece-init : goal.loop-piece-init
loop-piece-init c =
    let s = rw c.record.ensures.bytes at c.pieces-piece-items.ensures in
    let p = c.pieces-piece-items.result in
    rw c.into_iter-piece-iterator.ensures.into_iter_gives (record {
      passing = begun _ p s.opens s.rules s.start;
      filling = begin _ _ _ (ap (pieces_numbers (board_of c.args.numbered.now)) (all_coming _ p s.opens s.rules s.start)) c.requires;
    })

pub put_first-at-requires : goal.put_first-at-requires
put_first-at-requires c =
    let l = c.loop-piece in
    let B = board_of c.args.numbered.now in
    let f = room_for l.invariant.filling (piece_numbers B (said_piece (tail_of c.args.numbered.now) c.in-Some.piece)) (pieces_numbers B (coming c.args.numbered.now c.next.new.self)) (numbers_met B (meets (goal.at.put_first-at-requires c).In-Some)) in
    ((meets (goal.at.put_first-at-requires c).In-Some).held, (meets (goal.at.put_first-at-requires c).In-Some).few, omega (arith, rest-length l.list l.at, f))

pub overflow_add-at : goal.overflow_add-at
overflow_add-at c =
    let l = c.loop-piece in
    let B = board_of c.args.numbered.now in
    let f = room_for l.invariant.filling (piece_numbers B (said_piece (tail_of c.args.numbered.now) c.in-Some.piece)) (pieces_numbers B (coming c.args.numbered.now c.next.new.self)) (numbers_met B (meets (goal.at.overflow_add-at c).In-Some)) in
    let h : l.at + c.put_first-at.result ≤ length c.args.list.now = omega (arith, c.put_first-at.ensures.0, l.invariant.filling.long, f) in
    search rules

pub loop-piece-preserved : goal.loop-piece-preserved
loop-piece-preserved c =
    let p = (goal.at.loop-piece-preserved c).In-Some in
    let l = c.loop-piece in
    record {
      passing = further _ l.piece-iterator l.invariant.passing p.next.new.self _ p.next.ensures.steps _ p.in-Some.is;
      filling = part l.invariant.filling _ _ (numbers_met (board_of c.args.numbered.now) (meets p)) _ _ c.put_first-at.ensures.0 c.put_first-at.ensures.1;
    }

pub returns : goal.returns
returns c =
    let l = c.loop-piece in
    let B = board_of c.args.numbered.now in
    ended l.invariant.filling (ap (pieces_numbers B) (passes.ended _ l.piece-iterator l.invariant.passing c.next.new.self _ c.next.ensures.steps c.in-None.is) ∙ pieces_end B)
