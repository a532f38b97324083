-- Each piece's numbers are added behind those before.
use Rattle.std.proofs.Common.{ap, ◌∙◌}
use Rattle.laws.specs.Boards.{board_of}
use Rattle.rules.specs.Passes as passes
use Rattle.rules.specs.Passes.{begun, all_coming, callable, met, further}
use Rattle.writing.specs.Parts.{begin, first_room, on, ended}
use Rattle.compile.specs.Lists.{pieces_numbers, pieces_end}
use Rattle.compile.proofs.Passes.{numbers_met}
use Rattle.write_text.proofs.pieces.add_pieces.Goals as goal

pub loop-piece-init-derived : goal.loop-piece-init-derived
loop-piece-init-derived g c =
    let s = rw c.record.ensures.bytes at c.pieces-piece-items.ensures in
    rw c.into_iter-piece-iterator.ensures.into_iter_gives (callable _ c.pieces-piece-items.result (begun _ c.pieces-piece-items.result s.opens s.rules s.start), tt)

pub loop-piece-init : goal.loop-piece-init
loop-piece-init g c =
    let s = rw c.record.ensures.bytes at c.pieces-piece-items.ensures in
    let p = c.pieces-piece-items.result in
    rw c.into_iter-piece-iterator.ensures.into_iter_gives (record {
      passing = begun _ p s.opens s.rules s.start;
      adding = begin g.met.P.Part.is c.args.at c.args.part.now (ap (pieces_numbers (board_of c.args.numbered.now)) (all_coming _ p s.opens s.rules s.start)) c.requires;
    })

pub put_piece-to-requires : goal.put_piece-to-requires
put_piece-to-requires g c =
    let l = c.loop-piece in
    let m = met c.args.numbered.now l.piece-iterator l.invariant.passing c.next.new.self _ c.next.ensures.steps _ c.in-Some.is in
    (m.held, m.few, first_room g.met.P.Part.is l.invariant.adding _ _ (numbers_met (board_of c.args.numbered.now) m))

pub loop-piece-preserved : goal.loop-piece-preserved
loop-piece-preserved g c =
    let l = c.loop-piece in
    let m = met c.args.numbered.now l.piece-iterator l.invariant.passing c.next.new.self _ c.next.ensures.steps _ c.in-Some.is in
    record {
      passing = further _ l.piece-iterator l.invariant.passing c.next.new.self _ c.next.ensures.steps _ c.in-Some.is;
      adding = on g.met.P.Part.is l.invariant.adding _ _ (numbers_met (board_of c.args.numbered.now) m) c.put_piece-to.ensures;
    }

pub returns : goal.returns
returns g c =
    let l = c.loop-piece in
    let B = board_of c.args.numbered.now in
    ended g.met.P.Part.is l.invariant.adding (ap (pieces_numbers B) (passes.ended _ l.piece-iterator l.invariant.passing c.next.new.self _ c.next.ensures.steps c.in-None.is) ∙ pieces_end B)
