-- The clauses of the rules go behind the axioms.
use Rattle.std.proofs.Common.{subst, sym}
use Rattle.laws.specs.Boards.{board_of}
use Rattle.laws.specs.Pieces.{pieces_from}
use Rattle.writing.specs.Parts.{front_room, rest_room, both}
use Rattle.compile.specs.Lists.{pieces_numbers, whole_list}
use Rattle.write_text.proofs.add_clauses.Goals as goal

pub put_variables-rules-requires : goal.put_variables-rules-requires
put_variables-rules-requires g c = front_room g.met.P.Part.is _ _ (whole_list (board_of c.args.opened.now)) c.requires

pub add_pieces-requires : goal.add_pieces-requires
add_pieces-requires g c =
    subst (λ s. g.P.Part.room c.put_variables-rules.new.part c.put_variables-rules.result (pieces_numbers (board_of s) (pieces_from 0 (board_of s).clauses))) (sym c.new.ensures)
    (rest_room g.met.P.Part.is _ _ (whole_list (board_of c.args.opened.now)) c.requires c.put_variables-rules.ensures)

pub returns : goal.returns
returns g c = both g.met.P.Part.is _ _ (whole_list (board_of c.args.opened.now)) c.put_variables-rules.ensures (rw c.new.ensures at c.add_pieces.ensures)
