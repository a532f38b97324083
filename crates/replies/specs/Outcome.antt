-- The contracts of `read_text` and `read_reply` leave one outcome each: two answers with what they leave, which a contract allows, are
-- equal. Assumes nothing.
use Rattle.std.specs.Prelude as code
use Rattle.std.specs.Prelude.{◌≡◌, List, ℕ, ℤ}
use Rattle.std.proofs.Common.{sym, ap, ◌∙◌}
use Rattle.definitions.specs.Answers.{said_sizing, said_replied}
use Rattle.definitions.specs.Result.{Result}
use Rattle.definitions.specs.Operations.{Outcome, ◌leaves◌}
use Rattle.definitions.specs.TextOperations.{read_text_outcome, read_reply_outcome}
use Rattle.definitions.specs.declared.Refusal.{Refusal}
use Rattle.definitions.specs.declared.Sizes.{Sizes}
use Rattle.definitions.specs.declared.Reply.{Reply}
use Rattle.laws.specs.Outcomes.{one_sizing, one-reply}

abbrev pub TextAllowed : List ℕ → List ℤ → code.Result Sizes Refusal → List ℤ → Type 0
TextAllowed t list r left = (said_sizing r ≡ (read_text_outcome t list).answer) × (left ≡ (read_text_outcome t list).left)

abbrev pub ReplyAllowed : ℕ → List ℕ → List ℕ → code.Result Reply Refusal → List ℕ → Type 0
ReplyAllowed N t model r left = (said_replied r ≡ (read_reply_outcome N t model).answer) × (left ≡ (read_reply_outcome N t model).left)

pub one-text-read : (t : List ℕ) (list : List ℤ) (r r' : code.Result Sizes Refusal) (left left' : List ℤ) → TextAllowed t list r left → TextAllowed t list r' left' → (r ≡ r') × (left ≡ left')
one-text-read t list r r' left left' a a' = (one_sizing r r' (a.0 ∙ sym a'.0), a.1 ∙ sym a'.1)

pub one-reply-read : (N : ℕ) (t model : List ℕ) (r r' : code.Result Reply Refusal) (left left' : List ℕ) → ReplyAllowed N t model r left → ReplyAllowed N t model r' left' → (r ≡ r') × (left ≡ left')
one-reply-read N t model r r' left left' a a' = (one-reply r r' (a.0 ∙ sym a'.0), a.1 ∙ sym a'.1)

-- an outcome's two parts
pub apart : {A L : Type 0} {r : Result A} {l : L} {o : Outcome A L} → (r leaves l) ≡ o → (r ≡ o.answer) × (l ≡ o.left)
apart {A} {L} e = (ap (λ (o : Outcome A L). o.answer) e, ap (λ (o : Outcome A L). o.left) e)
