-- The contract of `decode` leaves one outcome: two results, with the lists that they leave, which it allows are equal. Assumes nothing.
use Rattle.std.specs.Prelude.{◌≡◌, List, ℕ, ℤ, Result}
use Rattle.std.proofs.Common.{sym, ◌∙◌}
use Rattle.definitions.specs.declared.Refusal.{Refusal}
use Rattle.definitions.specs.Operations.{Outcome, decode_outcome}
use Rattle.definitions.specs.Answers.{said_verdict}
use Rattle.laws.specs.Outcomes.{one_verdict}

-- the answer and the lent lists at the end
pub record Leaves (o : Outcome (Unit {0}) (List ℤ × List ℕ)) (r : Result (Unit {0}) Refusal) (v : List ℤ) (w : List ℕ) : Type 0 where
  pub answer : said_verdict r ≡ o.answer
  pub values : v ≡ o.left.0
  pub booleans : w ≡ o.left.1

abbrev pub Allowed : List ℕ → List ℕ → List ℤ → List ℕ → Result (Unit {0}) Refusal → List ℤ → List ℕ → Type 0
Allowed s model values booleans = Leaves (decode_outcome s model values booleans)

pub one_outcome : (s model : List ℕ) (values : List ℤ) (booleans : List ℕ) (r r' : Result (Unit {0}) Refusal) (v v' : List ℤ) (w w' : List ℕ)
    → Allowed s model values booleans r v w → Allowed s model values booleans r' v' w' → (r ≡ r') × (v ≡ v') × (w ≡ w')
one_outcome s model values booleans r r' v v' w w' h k =
    (one_verdict r r' (h.answer ∙ sym k.answer), h.values ∙ sym k.values, h.booleans ∙ sym k.booleans)
