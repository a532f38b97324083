-- The contract of `open` leaves one outcome: two answers that it allows are equal. Assumes nothing.
use Rattle.std.specs.Prelude.{◌≡◌, refl, List, ℕ, Result}
use Rattle.std.proofs.Common.{sym, ◌∙◌}
use Rattle.definitions.specs.Operations.{read_board}
use Rattle.definitions.specs.declared.Refusal.{Refusal}
use Rattle.laws.specs.Outcomes.{one_answer}
use Rattle.opening.specs.declared.Header.{Header}
use Rattle.opening.specs.Said.{map_done, header_of, said_opening}

abbrev pub Allowed : List ℕ → Result Header Refusal → Type 0
Allowed s r = said_opening r ≡ map_done header_of (read_board s)

pub one_outcome : (s : List ℕ) (r r' : Result Header Refusal) → Allowed s r → Allowed s r' → r ≡ r'
one_outcome s r r' a a' = one_answer (λ header. header) (λ header. header) (λ header. refl) r r' (a ∙ sym a')
