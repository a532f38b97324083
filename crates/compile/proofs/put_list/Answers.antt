-- The clauses of the rules go behind the axioms.
use Rattle.std.proofs.Common.{sym, ap, ◌+◌, ◌≤◌, ◌++◌, length, arith, rules, length-append}
use Rattle.laws.specs.Boards.{board_of}
use Rattle.laws.specs.Pieces.{pieces_from}
use Rattle.laws.specs.Written.{rest-length}
use Rattle.laws.specs.Filling.{Filling, begun, room_before, room, last}
use Rattle.compile.specs.Lists.{axioms_from, pieces_numbers, whole_list}
use Rattle.compile.proofs.Passes.{renamed}
use Rattle.compile.proofs.put_list.Goals as goal
use Rattle.compile.proofs.put_list.Goals.{After-put_axioms-at}

-- the axioms are in the list, the clauses of the rules are to come
module _ (p : After-put_axioms-at) where
  put : let B = board_of p.args.opened.now in
      let pieces = pieces_numbers B (pieces_from 0 B.clauses) in
      Filling (axioms_from B 0 ++ pieces) pieces p.args.list.now p.put_axioms-at.new.list p.put_axioms-at.result
  put =
      let B = board_of p.args.opened.now in
      begun (axioms_from B 0) (pieces_numbers B (pieces_from 0 B.clauses)) _ _ _ (omega (arith, ap length (whole_list B), p.requires)) p.put_axioms-at.ensures.0 p.put_axioms-at.ensures.1

pub put_axioms-at-requires : goal.put_axioms-at-requires
put_axioms-at-requires c =
    let B = board_of c.args.opened.now in
    omega (arith, ap length (whole_list B), length-append (axioms_from B 0) (pieces_numbers B (pieces_from 0 B.clauses)))

pub offset_bounds-list-at : goal.offset_bounds-list-at
offset_bounds-list-at c = let h : c.put_axioms-at.result ≤ length c.args.list.now = omega (arith, room_before (put (goal.at.offset_bounds-list-at c).After-put_axioms-at)) in search rules

pub slice_bounds-put_pieces-count : goal.slice_bounds-put_pieces-count
slice_bounds-put_pieces-count c = omega (arith, room (put (goal.at.slice_bounds-put_pieces-count c).After-put_axioms-at))

pub slice_bounds-put_pieces-start : goal.slice_bounds-put_pieces-start
slice_bounds-put_pieces-start c = omega (arith, room (put (goal.at.slice_bounds-put_pieces-start c).After-put_axioms-at))

pub put_pieces-requires : goal.put_pieces-requires
put_pieces-requires c =
    let p = (goal.at.put_pieces-requires c).After-put_axioms-at in
    rw c.new.ensures (omega (arith, room (put p), rest-length c.put_axioms-at.new.list c.put_axioms-at.result))

pub overflow_add-result : goal.overflow_add-result
overflow_add-result c =
    let n = rw c.new.ensures at c.put_pieces.ensures.0 in
    let h : c.put_axioms-at.result + c.put_pieces.result ≤ length c.args.list.now = omega (arith, room_before (put (goal.at.overflow_add-result c).After-put_axioms-at)) in search rules

pub returns : goal.returns
returns c =
    let e = last (put (goal.at.returns c).After-put_axioms-at) _ _ (rw c.new.ensures at c.put_pieces.ensures.0) (rw c.new.ensures at c.put_pieces.ensures.1) in
    renamed c.args.list.now (sym (whole_list (board_of c.args.opened.now))) (e.0, e.1)
