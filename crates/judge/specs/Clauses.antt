-- The record's clauses as the pieces of the rules begin them. Assumes nothing.
use Rattle.std.specs.Prelude.{Bool, true, List, ℕ}
use Rattle.definitions.specs.Tools.{any}
use Rattle.definitions.specs.Meaning.{Assignment, compares, holds}
use Rattle.laws.specs.Reread.{comparison_at}
use Rattle.laws.specs.Again.{literals_at}
use Rattle.rules.specs.declared.Piece.{Piece}

-- a line's clause is the record's, and so is a lone comparison's; a comparison under its selector belongs to its line
abbrev pub begun : Piece → ℕ
begun (Piece.Line place n j) = 1
begun (Piece.Lone place constant) = 1
begun (Piece.Led j place constant) = 0

abbrev pub holds_in : Assignment → List ℕ → Piece → Bool
holds_in a t (Piece.Line place n j) = any (holds a) (literals_at t n place).value
holds_in a t (Piece.Lone place constant) = compares a (comparison_at t place constant)
holds_in a t (Piece.Led j place constant) = true
