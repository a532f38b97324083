-- What a step of a pass through a reply's literals gives: the next one, or none where the last or a fault stands. Assumes nothing.
use Rattle.std.specs.Prelude.{◌≡◌, Option, Some, None, Bool, ℕ, List, drop}
use Rattle.definitions.specs.Result.{Result, done, refused}
use Rattle.definitions.specs.TextReading.{number_read}
use Rattle.replies.specs.declared.Number.{Number}
use Rattle.replies.specs.Parts.{Taken, last, more, value_at}
use Rattle.replies.specs.Said.{Past, number_said}

abbrev pub Ends : Result Taken → Type 0
Ends (done last) = Unit
Ends (done (more z line at t)) = ⊥
Ends (refused n d) = Unit

abbrev pub Gives : ℕ → Bool → ℕ → List ℕ → Option Number → Bool → ℕ → Type 0
Gives N line at t (Some number) begins next =
    (value_at N line at (drop at t) ≡ done (more (number_read (number_said number)) begins next (drop next t))) × Past at t next
Gives N line at t None begins next = Ends (value_at N line at (drop at t))
