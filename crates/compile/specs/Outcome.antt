-- The contract of `compile` leaves one outcome: two results with the lists they leave, which it allows, are equal. Assumes nothing.
use Rattle.std.specs.Prelude.{◌≡◌, List, ℕ, ℤ, Result}
use Rattle.std.proofs.Common.{sym, ◌∙◌}
use Rattle.definitions.specs.Answers.{said_sizing}
use Rattle.definitions.specs.Operations.{compile_outcome}
use Rattle.definitions.specs.declared.Refusal.{Refusal}
use Rattle.definitions.specs.declared.Sizes.{Sizes}
use Rattle.laws.specs.Outcomes.{one_sizing}

abbrev pub Allowed : List ℕ → List ℤ → Result Sizes Refusal → List ℤ → Type 0
Allowed s list r left = (said_sizing r ≡ (compile_outcome s list).answer) × (left ≡ (compile_outcome s list).left)

pub one_outcome : (s : List ℕ) (list : List ℤ) (r r' : Result Sizes Refusal) (left left' : List ℤ) → Allowed s list r left → Allowed s list r' left' → (r ≡ r') × (left ≡ left')
one_outcome s list r r' left left' a a' = (one_sizing r r' (a.0 ∙ sym a'.0), a.1 ∙ sym a'.1)
