-- Text at the start of a buffer. Assumes nothing.
use Rattle.std.specs.Prelude.{◌≡◌, List, ℕ, length, take, drop}
use Rattle.std.proofs.Common.{sym, ap, subst, ◌∙◌, take_at}
use Rattle.laws.specs.Written.{written}

-- the text, n bytes of it, is put at the start of the buffer `before` and makes it `after`
abbrev pub Put : List ℕ → List ℕ → ℕ → List ℕ → Type 0
Put text before n after = (n ≡ length text) × (after ≡ written text before)

pub retold : (t u before : List ℕ) (n : ℕ) (after : List ℕ) → t ≡ u → Put t before n after → Put u before n after
retold t u before n after e p = subst (λ (x : List ℕ). Put x before n after) e p

-- the text is what stands in the first n bytes
pub put_text : (t before : List ℕ) (n : ℕ) (after : List ℕ) → Put t before n after → take n after ≡ t
unfolding written
put_text t before n after p = ap (take n) p.1 ∙ take_at t (drop (length t) before) n (sym p.0)

-- one outcome
pub put_once : (t before : List ℕ) (n n' : ℕ) (after after' : List ℕ) → Put t before n after → Put t before n' after' → (n ≡ n') × (after ≡ after')
put_once t before n n' after after' p p' = (p.0 ∙ sym p'.0, p.1 ∙ sym p'.1)
