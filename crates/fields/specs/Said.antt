-- A field's answer as the definitions have it: refusal 8 at the field's own place where its bytes are missing.
use Rattle.std.specs.Prelude.{Option, Some, None}
use Rattle.definitions.specs.Tools.{ℕ}
use Rattle.definitions.specs.Result.{Result, done, refused}
use Rattle.definitions.specs.Reading.{Got}
use Rattle.definitions.specs.declared.Got as code

abbrev pub got : {A : Type 0} → code.Got A → Got A
got g = record { value = g.value; next = g.next }

abbrev pub said_field : {A : Type 0} → ℕ → Option (code.Got A) → Result (Got A)
said_field at (Some g) = done (got g)
said_field at None = refused 8 at
