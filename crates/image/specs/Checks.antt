-- Image's checks of the lists that it is lent, and what is known once they have passed.
use Rattle.std.specs.Prelude.{◌≡◌, List, ℕ, length, ℤ, eqb}
use Rattle.definitions.specs.Board.{Board}
use Rattle.definitions.specs.Result.{Result, ◌>>◌, need}
use Rattle.definitions.specs.Encoding.{N}
use Rattle.laws.specs.Boards.{board_of}
use Rattle.judge.specs.Suited.{Near}
use Rattle.judge.specs.Checks.{Long, fitting, solving}

-- 11, of the values, the Booleans and a model of length `lent`; 12, 14 and 13
unfoldable pub imaging : Board → List ℤ → List ℕ → ℕ → Result (Unit {0})
imaging B values booleans lent =
    (fitting B values booleans >> need 11 (N B) (eqb lent (N B))) >> solving B values booleans

-- an accepted record, lists as long as it wants, values no greater than bounds are
pub record Writable (s : List ℕ) (values : List ℤ) (booleans model : List ℕ) : Type 0 where
  pub lists : Long s values booleans
  pub near : Near values
  pub room : length model ≡ N (board_of s)
