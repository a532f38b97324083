-- Case 10 of 01 is refused with 9: its list is counted, not written. Assumes nothing.
use Rattle.std.specs.Prelude.{◌≡◌, refl, [], ◌∷◌, ℕ, ◌<◌, length, pos}
use Rattle.std.proofs.Common.{ap₂, ◌∙◌, arith}
use Prim.Native.String.{String}
use Rattle.definitions.specs.Tools.{All, neg}
use Rattle.definitions.specs.Board.{Bounds, Term, Comparison, Board, at_most, bounds_of}
use Rattle.definitions.specs.Result.{done, refused}
use Rattle.definitions.specs.Encoding.{term_bounds, least, comparisons, tuples_of, width, K}
use Rattle.definitions.specs.Operations.{read_board, accepted}
use Rattle.definitions.specs.Examples.{hex}
use Rattle.definitions.specs.Open.{all_open}
use Rattle.laws.specs.Admitted.{GoodBounds}
use Rattle.laws.specs.Tuples.{widths}
use Rattle.laws.specs.Terms.{ranges}
use Rattle.laws.specs.Counting.{tri_is, ways, ways-three, triples, above, tuples-count}
use Rattle.laws.specs.Pieces.{compared, lone, pieces_from}
use Rattle.laws.specs.Sizes.{piece_places, K-sum}
use Rattle.demands.specs.Refusals.{refused_exactly_when, too_large}

abbrev pub ten : String
ten = "01 00000022 0003 0000 0001 F000 0FFF F000 0FFF F000 0FFF 01 02 03 40 0000 40 0001 40 0002 00000000"

-- ---- its board
abbrev wide : Bounds
wide = record { lo = neg 4096; hi = pos 4095 }

abbrev times64 : ℕ → Term
times64 x = record { coef = pos 64; var = x }

abbrev sum : Comparison
sum = record { terms = times64 0 ∷ times64 1 ∷ times64 2 ∷ []; constant = pos 0 }

abbrev board : Board
board = record { bounds = wide ∷ wide ∷ wide ∷ []; bools = 0; clauses = (at_most sum ∷ []) ∷ [] }

ten-read : read_board (hex ten) ≡ done board
unfolding all_open
ten-read = refl

-- ---- its tuples: three places of 524,225 steps, the sum 786,433 above the least
steps : widths (ranges (bounds_of board) sum.terms) ≡ 524225 ∷ 524225 ∷ 524225 ∷ []
unfolding term_bounds bounds_of
steps = refl

height : above (bounds_of board) sum ≡ 786433
unfolding term_bounds bounds_of least
height = refl

many_triples : 2000000000 < triples 786434 524226 524226 524226
unfolding triples
many_triples = omega (arith, tri_is 786434, tri_is 262208, tri_is 0)

many_tuples : 2000000000 < length (tuples_of (bounds_of board) sum)
unfolding bounds_of least term_bounds
many_tuples = omega (arith, counted, many_triples)
  where
    counted : length (tuples_of (bounds_of board) sum) ≡ triples 786434 524226 524226 524226
    counted =
        tuples-count (bounds_of board) sum (record { le = tt }, (record { le = tt }, (record { le = tt }, tt))) (record { le = tt })
        ∙ ap₂ ways steps height ∙ ways-three 524225 524225 524225 786433

-- ---- the refusal
good : All GoodBounds board.bounds
good = (one, (one, (one, tt)))
  where
    one : GoodBounds wide
    one = record { lowest = record { le = tt }; ordered = record { le = tt }; highest = record { le = tt } }

many_places : 2000000000 < K board
unfolding pieces_from compared lone comparisons piece_places least term_bounds bounds_of width
many_places = omega (arith, K-sum board good, many_tuples)

pub case_10_is_refused_with_9 : accepted (hex ten) ≡ refused 9 0
case_10_is_refused_with_9 = (refused_exactly_when (hex ten) 9 0).1 (too_large board ten-read many_places)
