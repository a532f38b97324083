-- What a step of a pass gives: the next piece, with the cursor behind it, or none where none is coming. Assumes nothing.
use Rattle.std.specs.Prelude.{◌≡◌, Option, Some, None, List, [], ℕ}
use Rattle.definitions.specs.Reading.{Context}
use Rattle.rules.specs.declared.Cursor.{Cursor}
use Rattle.rules.specs.declared.Piece as code
use Rattle.rules.specs.Cursors.{Sound, Meets, coming_at}

-- in the context in which the record was read
abbrev pub Gives : Context → List ℕ → Cursor → Option code.Piece → Cursor → Type 0
Gives ctx t c (Some p) c' = Meets ctx t c p c'
Gives ctx t c None c' = coming_at t c ≡ []

abbrev pub Next : List ℕ → Cursor → Option code.Piece → Cursor → Type 0
Next t c r c' = (ctx : Context) → Sound ctx t c → Gives ctx t c r c'
