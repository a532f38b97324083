-- Judge's and Image's checks of the lists that they are lent.
use Rattle.std.specs.Prelude.{◌≡◌, List, map, ℕ, length, ℤ}
use Rattle.definitions.specs.Tools.{any}
use Rattle.definitions.specs.Board.{Board, variables}
use Rattle.definitions.specs.Result.{Result, ◌>>◌, each}
use Rattle.definitions.specs.Meaning.{assigned, in_bounds, holds}
use Rattle.definitions.specs.Operations.{long, bits}
use Rattle.laws.specs.Boards.{Opens, board_of}

-- an opened record, and lists as long as it wants
pub record Long (s : List ℕ) (values : List ℤ) (booleans : List ℕ) : Type 0 where
  pub opens : Opens s
  pub ints : length values ≡ length (board_of s).bounds
  pub bools : length booleans ≡ (board_of s).bools

-- 11, for the values and for the Booleans
unfoldable pub fitting : Board → List ℤ → List ℕ → Result (Unit {0})
fitting B values booleans = long (length B.bounds) values >> long B.bools booleans

-- 12, 14 and 13
unfoldable pub solving : Board → List ℤ → List ℕ → Result (Unit {0})
solving B values booleans =
    bits booleans >> each 14 0 (map (in_bounds B (assigned values booleans)) (variables B)) >>
    each 13 0 (map (any (holds (assigned values booleans))) B.clauses)
