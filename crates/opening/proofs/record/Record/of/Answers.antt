-- The counts stand where they were read.
use Rattle.std.proofs.Common.{◌≤◌, List, ℕ, sym, ◌∙◌, arith, length, refl}
use Rattle.laws.specs.Boards.{Opens, opens_board}
use Rattle.opening.proofs.record.Record.of.Goals as goal

room : (s : List ℕ) → Opens s → 11 ≤ length s
room s o = omega (arith, (opens_board s o).room)

pub unchecked-ints-requires : goal.unchecked-ints-requires
unchecked-ints-requires c = (omega arith, omega (arith, room _ c.requires))

pub unchecked-bools-requires : goal.unchecked-bools-requires
unchecked-bools-requires c = (omega arith, omega (arith, room _ c.requires))

pub unchecked-clauses-requires : goal.unchecked-clauses-requires
unchecked-clauses-requires c = (omega arith, omega (arith, room _ c.requires))

pub new-requires : goal.new-requires
new-requires c =
    let b = opens_board c.args.bytes.now c.requires in
    record {
      opens = c.requires;
      header = rw (c.unchecked-ints.ensures ∙ sym b.ints, c.unchecked-bools.ensures ∙ sym b.bools, c.unchecked-clauses.ensures ∙ sym b.rules) refl;
    }
