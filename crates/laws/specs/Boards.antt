-- The board of a record, for contracts: the one that is read, or an empty one. Assumes nothing.
use Rattle.std.specs.Prelude.{◌≡◌, List, [], ℕ}
use Rattle.std.proofs.Common.{sym, ap, ◌∙◌}
use Rattle.definitions.specs.Board.{Board}
use Rattle.definitions.specs.Result.{Result, done, refused}
use Rattle.definitions.specs.Operations.{read_board}
use Rattle.laws.specs.Admitted.{Admitted}
use Rattle.laws.specs.Reread.{BoardRead, Recorded, reading_admitted, reading_recorded, board-read}

abbrev board_in : Result Board → Board
board_in (done B) = B
board_in (refused n d) = record { bounds = []; bools = 0; clauses = [] }

unfoldable pub board_of : List ℕ → Board
board_of s = board_in (read_board s)

-- the record passes checks 1 to 8
unfoldable pub Opens : List ℕ → Type 0
Opens s = read_board s ≡ done (board_of s)

pub board_is : (s : List ℕ) (B : Board) → read_board s ≡ done B → board_of s ≡ B
unfolding board_of
board_is s B e = ap board_in e

pub opens : (s : List ℕ) (B : Board) → read_board s ≡ done B → Opens s
unfolding Opens
opens s B e = e ∙ ap done (sym (board_is s B e))

pub opens_is : (s : List ℕ) → Opens s → read_board s ≡ done (board_of s)
unfolding Opens
opens_is s r = r

pub opens_board : (s : List ℕ) → Opens s → BoardRead s (board_of s)
opens_board s r = board-read s (board_of s) (opens_is s r)

pub opens_admitted : (s : List ℕ) → Opens s → Admitted (board_of s)
opens_admitted s r = reading_admitted s (board_of s) (opens_is s r)

pub opens_recorded : (s : List ℕ) → Opens s → Recorded (board_of s)
opens_recorded s r = reading_recorded s (board_of s) (opens_is s r)
