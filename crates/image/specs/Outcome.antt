-- The contract of `image` leaves one outcome: two results with the models they leave, which it allows, are equal. Assumes nothing.
use Rattle.std.specs.Prelude.{◌≡◌, List, ℕ, ℤ, Result}
use Rattle.std.proofs.Common.{sym, ◌∙◌}
use Rattle.definitions.specs.declared.Refusal.{Refusal}
use Rattle.definitions.specs.Operations.{image_outcome}
use Rattle.definitions.specs.Answers.{said_verdict}
use Rattle.laws.specs.Outcomes.{one_verdict}

abbrev pub Allowed : List ℕ → List ℤ → List ℕ → List ℕ → Result (Unit {0}) Refusal → List ℕ → Type 0
Allowed s values booleans model r left = (said_verdict r ≡ (image_outcome s values booleans model).answer) × (left ≡ (image_outcome s values booleans model).left)

pub one_outcome : (s : List ℕ) (values : List ℤ) (booleans model : List ℕ) (r r' : Result (Unit {0}) Refusal) (left left' : List ℕ)
    → Allowed s values booleans model r left → Allowed s values booleans model r' left' → (r ≡ r') × (left ≡ left')
one_outcome s values booleans model r r' left left' a a' = (one_verdict r r' (a.0 ∙ sym a'.0), a.1 ∙ sym a'.1)
