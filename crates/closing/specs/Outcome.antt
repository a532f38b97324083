-- The contract of `closing` leaves one outcome: two answers that it allows are equal. Assumes nothing.
use Rattle.std.specs.Prelude.{◌≡◌, List, ℕ, Result}
use Rattle.std.proofs.Common.{sym, ◌∙◌}
use Rattle.definitions.specs.Answers.{said_hour}
use Rattle.definitions.specs.Closing.{closing_outcome}
use Rattle.definitions.specs.declared.Hour.{Hour}
use Rattle.definitions.specs.declared.Refusal.{Refusal}
use Rattle.laws.specs.Outcomes.{one_hour}

abbrev pub Allowed : List ℕ → ℕ → List ℕ → Result Hour Refusal → Type 0
Allowed s x replies r = said_hour r ≡ closing_outcome s x replies

pub one_outcome : (s : List ℕ) (x : ℕ) (replies : List ℕ) (r r' : Result Hour Refusal) → Allowed s x replies r → Allowed s x replies r' → r ≡ r'
one_outcome s x replies r r' a a' = one_hour r r' (a ∙ sym a')
