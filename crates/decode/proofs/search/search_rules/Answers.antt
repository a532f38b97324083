-- `decode::search::search_rules` meets its contract.
use Rattle.std.proofs.Common.{refl, arith}
use Rattle.laws.specs.Boards.{board_of}
use Rattle.laws.specs.Reread.{context_of}
use Rattle.opening.specs.Headers.{tail_of}
use Rattle.rules.specs.Known.{Known}
use Rattle.rules.specs.Cursors.{Meets, meets, ends}
use Rattle.decode.specs.Given.{short}
use Rattle.decode.specs.Passes.{passing-start, passing-end, sound_next, passed_room, walks_start, walks_end, walks_at, walks_next, walks_less, walks_numbered, walks_stop, walks_room}
use Rattle.decode.proofs.search.search_rules.Goals as goal
use Rattle.decode.proofs.search.search_rules.Goals.{In-Some}

-- a piece was met
met : (c : In-Some) → Meets (context_of (board_of c.args.numbered.now)) (tail_of c.args.numbered.now) c.search.cursor c.in-Some.piece c.in-Some.behind
met c =
    let e = rw c.record-opened.ensures.bytes at c.rules-rules.ensures.rules in
    meets (context_of (board_of c.args.numbered.now)) (tail_of c.args.numbered.now) c.search.cursor ((rw e at c.next_piece.ensures) _ c.search.invariant.readable) c.in-Some.is

pub search-init : goal.search-init
search-init c =
    let e = rw c.record-opened.ensures.bytes at c.clauses.ensures.clauses in
    let k : Known c.args.numbered.now (tail_of c.args.numbered.now) = record { opens = c.requires.0.opens; tail = refl } in
    rw (c.start-cursor.ensures, e) (passing-start k refl c.args.model.now c.args.from)

pub next_piece-requires : goal.next_piece-requires
next_piece-requires c =
    let e = rw c.record-opened.ensures.bytes at c.rules-rules.ensures.rules in
    rw e (_, c.search.invariant.readable)

pub piece_holds-held-requires : goal.piece_holds-held-requires
piece_holds-held-requires c =
    let p = c.requires in
    let m = met (goal.at.piece_holds-held-requires c).In-Some in
    let e = rw c.record-opened.ensures.bytes at c.rules-rules.ensures.rules in
    rw e (p.0, p.1, p.2, m.held, (sound_next c.search.invariant _ m.comes).0)

pub tails_of-tails-requires : goal.tails_of-tails-requires
tails_of-tails-requires c =
    let e = rw c.record-opened.ensures.bytes at c.rules-rules.ensures.rules in
    rw e (met (goal.at.tails_of-tails-requires c).In-Some).held

pub overflow_add-number : goal.overflow_add-number
overflow_add-number c =
    let e = rw c.record-opened.ensures.bytes at c.rules-rules.ensures.rules in
    let m = met (goal.at.overflow_add-number c).In-Some in
    omega (arith, c.passed-number.ensures, passed_room c.search.invariant _ m.comes _ _ (rw e at c.piece_holds-held.ensures) (rw e at c.tails_of-tails.ensures), c.requires.3)

pub loop-here-init : goal.loop-here-init
loop-here-init c =
    let e = rw c.record-opened.ensures.bytes at c.rules-rules.ensures.rules in
    let m = met (goal.at.loop-here-init c).In-Some in
    walks_start c.search.invariant _ m.comes _ _ _ _ c.requires.0.long (rw e at c.piece_holds-held.ensures) (rw e at c.tails_of-tails.ensures) c.passed-number.ensures c.walked-here.ensures

pub search_row-requires : goal.search_row-requires
search_row-requires c =
    let w = c.loop-here.invariant in
    let e = c.in-Some-here.is in
    let o = c.after_row-onward.ensures in
    (c.tails_of-tails.ensures.fair, walks_at w e, walks_numbered w e _ o, short c.requires.0, omega (arith, walks_room w e _ o, c.requires.3))

pub loop-here-smaller : goal.loop-here-smaller
loop-here-smaller c = walks_less c.loop-here.invariant c.in-Some-here.is _ c.after_row-onward.ensures

pub loop-here-preserved : goal.loop-here-preserved
loop-here-preserved c = walks_next c.loop-here.invariant c.in-Some-here.is _ c.after_row-onward.ensures c.search_row.ensures c.in-Ok.is

pub search-smaller : goal.search-smaller
search-smaller c = (met (goal.at.search-smaller c).In-Some).onward.less

pub search-preserved : goal.search-preserved
search-preserved c =
    let m = met (goal.at.search-preserved c).In-Some in
    walks_end c.loop-here.invariant c.in_default-here.is (sound_next c.search.invariant _ m.comes).1 m.onward.sound

pub returns-in_default : goal.returns-in_default
returns-in_default c =
    let e = rw c.record-opened.ensures.bytes at c.rules-rules.ensures.rules in
    passing-end c.search.invariant (ends (context_of (board_of c.args.numbered.now)) (tail_of c.args.numbered.now) c.search.cursor ((rw e at c.next_piece.ensures) _ c.search.invariant.readable) c.in_default.is)

pub returns-in-Err : goal.returns-in-Err
returns-in-Err c = walks_stop c.loop-here.invariant c.in-Some-here.is _ c.after_row-onward.ensures c.search_row.ensures c.in-Err.is
