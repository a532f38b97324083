-- What Decode answers to an accepted record, check by check. Assumes nothing.
use Rattle.std.specs.Prelude as code
use Rattle.std.specs.Prelude.{◌≡◌, List, ℕ, length, ℤ, Ok, Err}
use Rattle.std.proofs.Math.Path.{refl, ap}
use Rattle.std.proofs.Common.{◌∙◌}
use Rattle.std.proofs.Math.ListN.{take}
use borrow.Author.Tests.{eq-eqb, ne_eqb}
use Rattle.definitions.specs.Result.{Result, ◌>>◌, done, refused, each}
use Rattle.definitions.specs.Board.{Board}
use Rattle.definitions.specs.Encoding.{N, clauses}
use Rattle.definitions.specs.Meaning.{values_of}
use Rattle.definitions.specs.Operations.{lending, long, bits, accepted, decode_outcome}
use Rattle.definitions.specs.Answers.{refusal}
use Rattle.definitions.specs.declared.Refusal.{Refusal}
use Rattle.laws.specs.Boards.{board_of}
use Rattle.measure.specs.declared.Measured.{Measured}
use Rattle.measure.specs.Told.{Measures}
use Rattle.decode.specs.Outcome.{Leaves}
use Rattle.decode.specs.Truth.{tests}

-- 12, and 13 over the emitted clauses
unfoldable pub model_checks : Board → List ℕ → Result (Unit {0})
model_checks B model = bits model >> each 13 0 (tests B model (clauses B))

-- what was found among the bytes, and then among the clauses
pub checks_are : (B : Board) (model : List ℕ) {p q : Result (Unit {0})} → p ≡ bits model → q ≡ each 13 0 (tests B model (clauses B)) → (p >> q) ≡ model_checks B model
unfolding model_checks
checks_are B model e f = rw (e, f)

-- what is left to check of an accepted record of this board, and what is written
unfoldable pub read_back : Board → List ℕ → List ℤ → List ℕ → Result (Unit {0} × (List ℤ × List ℕ))
read_back B model values booleans = do
  long (N B) model
  long (length B.bounds) values
  long B.bools booleans
  model_checks B model
  done (tt, (values_of B model, take B.bools model))

module _ (B : Board) (model : List ℕ) (values : List ℤ) (booleans : List ℕ) where
  abbrev Answers : code.Result (Unit {0}) Refusal → List ℤ → List ℕ → Type 0
  Answers = Leaves (lending (values, booleans) (read_back B model values booleans))

  refuses : (r : Refusal) → read_back B model values booleans ≡ refusal r → Answers (Err r) values booleans
  refuses r e = rw e (record { answer = refl; values = refl; booleans = refl })

  pub model_wrong : (length model ≡ N B → ⊥) → Answers (Err (Refusal.LentWrong (N B))) values booleans
  unfolding read_back
  model_wrong h = refuses _ (rw (ne_eqb (length model) (N B) h))

  module _ (a : length model ≡ N B) where
    pub values_wrong : (length values ≡ length B.bounds → ⊥) → Answers (Err (Refusal.LentWrong (length B.bounds))) values booleans
    unfolding read_back
    values_wrong h = refuses _ (rw (eq-eqb (length model) (N B) a, ne_eqb (length values) (length B.bounds) h))

    module _ (b : length values ≡ length B.bounds) where
      pub booleans_wrong : (length booleans ≡ B.bools → ⊥) → Answers (Err (Refusal.LentWrong B.bools)) values booleans
      unfolding read_back
      booleans_wrong h =
          refuses _ (rw (eq-eqb (length model) (N B) a, eq-eqb (length values) (length B.bounds) b, ne_eqb (length booleans) B.bools h))

      module _ (d : length booleans ≡ B.bools) where
        pub model_refused : (e : Refusal) → refusal e ≡ model_checks B model → Answers (Err e) values booleans
        unfolding read_back
        model_refused e h = refuses e (rw (eq-eqb (length model) (N B) a, eq-eqb (length values) (length B.bounds) b, eq-eqb (length booleans) B.bools d, ← h))

        pub model-accepted : (v : List ℤ) (w : List ℕ) → done tt ≡ model_checks B model → v ≡ values_of B model → w ≡ take (length booleans) model → Answers (Ok tt) v w
        unfolding read_back
        model-accepted v w h ev ew =
            rw (eq-eqb (length model) (N B) a, eq-eqb (length values) (length B.bounds) b, eq-eqb (length booleans) B.bools d, ← h)
            (record { answer = refl; values = ev; booleans = ew ∙ ap (λ k. take k model) d })

-- ---- the operation
regroup : {A : Type 0} (a b : Result (Unit {0})) (r : Result A) → (a >> (b >> r)) ≡ ((a >> b) >> r)
regroup (done x) b r = refl
regroup (refused n d) b r = refl

module _ (s model : List ℕ) (values : List ℤ) (booleans : List ℕ) where
  pub decode_refused : (r : Refusal) → accepted s ≡ refusal r → Leaves (decode_outcome s model values booleans) (Err r) values booleans
  unfolding decode_outcome
  decode_refused r e = rw e (record { answer = refl; values = refl; booleans = refl })

  pub decode_is : {m : Measured} → Measures s m → decode_outcome s model values booleans ≡ lending (values, booleans) (read_back (board_of s) model values booleans)
  unfolding decode_outcome read_back model_checks
  decode_is m =
      let B = board_of s in
      rw m.board
      (ap (λ z. lending (values, booleans) (long (N B) model >> (long (length B.bounds) values >> (long B.bools booleans >> z)))) (regroup (bits model) _ _))
