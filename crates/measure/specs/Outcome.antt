-- The contract of `measure` leaves one outcome: two answers that it allows are equal. Assumes nothing.
use Rattle.std.specs.Prelude.{◌≡◌, refl, List, ℕ, Result}
use Rattle.std.proofs.Common.{sym, ◌∙◌}
use Rattle.definitions.specs.Operations.{accepted}
use Rattle.definitions.specs.declared.Refusal.{Refusal}
use Rattle.laws.specs.Outcomes.{one_answer}
use Rattle.opening.specs.Said.{map_done}
use Rattle.measure.specs.declared.Measured.{Measured}
use Rattle.measure.specs.Said.{measured_of, said_measured}

abbrev pub Allowed : List ℕ → Result Measured Refusal → Type 0
Allowed s r = said_measured r ≡ map_done measured_of (accepted s)

pub one_outcome : (s : List ℕ) (r r' : Result Measured Refusal) → Allowed s r → Allowed s r' → r ≡ r'
one_outcome s r r' a a' = one_answer (λ measured. measured) (λ measured. measured) (λ measured. refl) r r' (a ∙ sym a')
