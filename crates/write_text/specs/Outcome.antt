-- The contract of `write_text` leaves one outcome: two answers with the bytes they leave, which it allows, are equal. Assumes nothing.
use Rattle.std.specs.Prelude.{◌≡◌, List, ℕ, Result}
use Rattle.std.proofs.Common.{sym, ◌∙◌}
use Rattle.definitions.specs.Answers.{said_texted}
use Rattle.definitions.specs.TextOperations.{write_text_outcome}
use Rattle.definitions.specs.declared.Refusal.{Refusal}
use Rattle.laws.specs.Outcomes.{one-text}

abbrev pub Allowed : List ℕ → List ℕ → Result ℕ Refusal → List ℕ → Type 0
Allowed s lent r left = (said_texted r ≡ (write_text_outcome s lent).answer) × (left ≡ (write_text_outcome s lent).left)

pub one_outcome : (s lent : List ℕ) (r r' : Result ℕ Refusal) (left left' : List ℕ) → Allowed s lent r left → Allowed s lent r' left' → (r ≡ r') × (left ≡ left')
one_outcome s lent r r' left left' a a' = (one-text r r' (a.0 ∙ sym a'.0), a.1 ∙ sym a'.1)
