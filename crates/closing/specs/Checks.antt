-- The checks that come between the record's and the search.
use Rattle.std.specs.Prelude.{List, ℕ, ltb}
use Rattle.definitions.specs.Result.{Result, need, ◌>>◌}
use Rattle.definitions.specs.Operations.{bits}

abbrev pub lent_allowed : ℕ → ℕ → List ℕ → Result (Unit {0})
lent_allowed ints x replies = need 22 x (ltb x ints) >> bits replies
