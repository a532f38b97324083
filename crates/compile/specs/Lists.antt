-- The parts of a board's clause list: the axioms from a variable on, and the pieces of its rules. Assumes nothing.
use Rattle.std.specs.Prelude.{◌≡◌, refl, ℕ, ◌≤◌, length, ℤ}
use Rattle.std.proofs.Common.{sym, ap, ap₂, ◌∙◌}
use mathlib.Core.List.{List, [], ◌∷◌, ◌++◌, flatten}
use Rattle.definitions.specs.Board.{Board, bounds_of}
use Rattle.definitions.specs.Encoding.{axioms, rules, clauses, clause_list}
use Rattle.laws.specs.Axioms as laws
use Rattle.laws.specs.Axioms.{axioms-all, axioms_none}
use Rattle.laws.specs.Pieces.{Piece, piece_clauses, clauses_in, pieces_from, rules-pieces}
use Rattle.writing.specs.Numbers.{numbers_of, numbers-append}

-- ---- axioms, from variable x on
unfoldable pub axioms_from : Board → ℕ → List ℤ
axioms_from B x = numbers_of B (laws.axioms_from B x)

pub axioms-end : (B : Board) (x : ℕ) → length B.bounds ≤ x → axioms_from B x ≡ []
unfolding axioms_from numbers_of flatten
axioms-end B x h = ap (numbers_of B) (axioms_none B x h)

-- ---- pieces
unfoldable pub piece_numbers : Board → Piece → List ℤ
piece_numbers B p = numbers_of B (piece_clauses (bounds_of B) p)

unfoldable pub pieces_numbers : Board → List Piece → List ℤ
pieces_numbers B ps = numbers_of B (clauses_in (bounds_of B) ps)

pub pieces_end : (B : Board) → pieces_numbers B [] ≡ []
unfolding pieces_numbers numbers_of flatten
pieces_end B = refl

pub pieces_more : (B : Board) (p : Piece) (ps : List Piece) → pieces_numbers B (p ∷ ps) ≡ piece_numbers B p ++ pieces_numbers B ps
unfolding pieces_numbers piece_numbers flatten
pieces_more B p ps = numbers-append B (piece_clauses (bounds_of B) p) (clauses_in (bounds_of B) ps)

-- ---- the whole list
pub whole_list : (B : Board) → clause_list B ≡ axioms_from B 0 ++ pieces_numbers B (pieces_from 0 B.clauses)
unfolding clause_list clauses rules axioms_from pieces_numbers numbers_of
whole_list B =
    numbers-append B (flatten (axioms B)) (flatten (rules B))
    ∙ ap₂ (λ cs ds. numbers_of B cs ++ numbers_of B ds) (sym (axioms-all B)) (rules-pieces (bounds_of B) 0 B.clauses)
