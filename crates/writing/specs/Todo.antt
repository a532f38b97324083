-- Of a text that is added part by part: what is still to be added, and that it is counted as the whole is. Assumes nothing.
use Rattle.std.specs.Prelude.{◌≡◌, List, [], ◌++◌, ℕ, ◌+◌, length}
use Rattle.std.proofs.Common.{sym, ap, ◌∙◌, subst, append_assoc, append-nil, arith, length-append}
use Rattle.writing.specs.Adds.{Adds, Counts, nothing, retold, ◌then◌}

-- of a text in two parts, both are counted
module _ (at : ℕ) {all : List ℕ} (h : Counts at all) (t u : List ℕ) (e : all ≡ t ++ u) where
  pub first_counts : Counts at t
  first_counts = omega (arith, ap length e, length-append t u)

  pub then_counts : {out : List ℕ} {next : ℕ} {out' : List ℕ} → Adds t at out next out' → Counts next u
  then_counts a = omega (arith, ap length e, length-append t u, a.place)

-- ---- of `all`, which began at place at₀, `todo` is still to be added
pub record Adding {A : Type 0} (all todo : List A) (at₀ : ℕ) (out₀ : List A) (at : ℕ) (out : List A) : Type 0 where
  pub done : List A
  pub whole : done ++ todo ≡ all
  pub added : Adds done at₀ out₀ at out

pub begin : {A : Type 0} {all todo : List A} (at : ℕ) (out : List A) → todo ≡ all → Adding all todo at out at out
begin at out e = record { done = []; whole = e; added = nothing at out }

module _ {A : Type 0} {all todo : List A} {at₀ : ℕ} {out₀ : List A} {at : ℕ} {out : List A} (a : Adding all todo at₀ out₀ at out) where
  pub place-of-all : at + length todo ≡ at₀ + length all
  place-of-all = omega (arith, a.added.place, ap length a.whole, length-append a.done todo)

  pub same : {todo' : List A} → todo ≡ todo' → Adding all todo' at₀ out₀ at out
  same e = subst (λ l. Adding all l at₀ out₀ at out) e a

  pub on : (t todo' : List A) → todo ≡ t ++ todo' → {next : ℕ} {out' : List A} → Adds t at out next out' → Adding all todo' at₀ out₀ next out'
  on t todo' e b = record {
    done = a.done ++ t;
    whole = append_assoc a.done t todo' ∙ ap (λ l. a.done ++ l) (sym e) ∙ a.whole;
    added = a.added then b;
  }

  pub ended : todo ≡ [] → Adds all at₀ out₀ at out
  ended e = retold (sym (append-nil a.done) ∙ ap (λ l. a.done ++ l) (sym e) ∙ a.whole) a.added

module _ {all todo : List ℕ} {at₀ : ℕ} {out₀ : List ℕ} {at : ℕ} {out : List ℕ} (a : Adding all todo at₀ out₀ at out) where
  pub counts : Counts at₀ all → Counts at todo
  counts h = omega (arith, place-of-all a)

  pub counts_first : (t todo' : List ℕ) → todo ≡ t ++ todo' → Counts at₀ all → Counts at t
  counts_first t todo' e h = omega (arith, place-of-all a, ap length e, length-append t todo')
