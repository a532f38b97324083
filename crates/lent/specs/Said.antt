-- What a search's answer says: the refusal at the index that was found, or that all is well.
use Rattle.std.specs.Prelude.{ℕ, Option, Some, None}
use Rattle.definitions.specs.Result.{Result, done, refused}

abbrev pub said_found : ℕ → Option ℕ → Result (Unit {0})
said_found n (Some i) = refused n i
said_found n None = done tt
