-- The contract of `judge` leaves one outcome: two verdicts that it allows are equal. Assumes nothing.
use Rattle.std.specs.Prelude as code
use Rattle.std.specs.Prelude.{◌≡◌, List, ℕ, ℤ}
use Rattle.std.proofs.Common.{sym, ◌∙◌}
use Rattle.definitions.specs.declared.Refusal.{Refusal}
use Rattle.definitions.specs.Operations.{judge_outcome}
use Rattle.definitions.specs.Answers.{said_verdict}
use Rattle.laws.specs.Outcomes.{one_verdict}

abbrev pub Allowed : List ℕ → List ℤ → List ℕ → code.Result (Unit {0}) Refusal → Type 0
Allowed s values booleans r = said_verdict r ≡ judge_outcome s values booleans

pub one_outcome : (s : List ℕ) (values : List ℤ) (booleans : List ℕ) (r r' : code.Result (Unit {0}) Refusal) → Allowed s values booleans r → Allowed s values booleans r' → r ≡ r'
one_outcome s values booleans r r' a a' = one_verdict r r' (a ∙ sym a')
