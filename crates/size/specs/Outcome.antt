-- The contract of `size` leaves one outcome: two answers that it allows are equal. Assumes nothing.
use Rattle.std.specs.Prelude.{◌≡◌, List, ℕ, Result}
use Rattle.std.proofs.Common.{sym, ◌∙◌}
use Rattle.definitions.specs.declared.Refusal.{Refusal}
use Rattle.definitions.specs.declared.Sizes.{Sizes}
use Rattle.definitions.specs.Answers.{said_sizing}
use Rattle.definitions.specs.Operations.{size_outcome}
use Rattle.laws.specs.Outcomes.{one_sizing}

abbrev pub Allowed : List ℕ → Result Sizes Refusal → Type 0
Allowed s r = said_sizing r ≡ size_outcome s

pub one_outcome : (s : List ℕ) (r r' : Result Sizes Refusal) → Allowed s r → Allowed s r' → r ≡ r'
one_outcome s r r' a a' = one_sizing r r' (a ∙ sym a')
