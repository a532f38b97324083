-- From Image's checks to its outcome. Assumes nothing.
use Rattle.std.proofs.Common.{◌≡◌, refl, sym, ap, ◌∙◌, ◌≢◌, Bool, true, false, Ok, Err, List, [], map, ℕ, length, eqb, ℤ, eqb-true, eq-eqb, ne_eqb}
use Rattle.definitions.specs.Tools.{any}
use Rattle.definitions.specs.Board.{Board, variables}
use Rattle.definitions.specs.declared.Refusal.{Refusal}
use Rattle.definitions.specs.Result.{Result, done, refused, ◌>>◌, need, each}
use Rattle.definitions.specs.Result as result
use Rattle.definitions.specs.Encoding.{N}
use Rattle.definitions.specs.Meaning.{assigned, in_bounds, holds, plain_model}
use Rattle.definitions.specs.Operations.{Outcome, accepted, lending, long, bits, image_outcome}
use Rattle.definitions.specs.Answers.{refusal}
use Rattle.laws.specs.Readings.{never}
use Rattle.laws.specs.Boards.{board_of}
use Rattle.opening.specs.Said.{map_done}
use Rattle.measure.specs.declared.Measured.{Measured}
use Rattle.measure.specs.Said.{measured_of}
use Rattle.measure.specs.Told.{measured}
use Rattle.judge.specs.Checks.{fitting, solving}
use Rattle.judge.proofs.Judged.{judged_is, not-judged, long_enough}
use Rattle.judge.proofs.Checked.{near}
use Rattle.image.specs.Checks.{imaging, Writable}
use Rattle.image.specs.Outcome.{Allowed}

-- ---- the checks, as the code makes them
module _ (B : Board) (values : List ℤ) (booleans : List ℕ) (lent : ℕ) where
  pub lists_wrong : {n d : ℕ} → fitting B values booleans ≡ refused n d → refused n d ≡ imaging B values booleans lent
  unfolding imaging
  lists_wrong e = rw e

  module _ (e : fitting B values booleans ≡ done tt) {wanted : ℕ} (w : wanted ≡ N B) where
    pub model_wrong : lent ≢ wanted → refused 11 wanted ≡ imaging B values booleans lent
    unfolding imaging
    model_wrong n = ap (refused 11) w ∙ rw (e, ne_eqb lent (N B) (λ q. n (q ∙ sym w)))

    pub lists_right : lent ≡ wanted → solving B values booleans ≡ imaging B values booleans lent
    unfolding imaging
    lists_right q = rw (e, eq-eqb lent (N B) (q ∙ w))

-- ---- what is known once they have passed
module _ (B : Board) (values : List ℤ) (booleans : List ℕ) (lent : ℕ) where
  pub record Passed : Type 0 where
    pub lists : fitting B values booleans ≡ done tt
    pub model : lent ≡ N B
    pub solution : solving B values booleans ≡ done tt

  pub passed : imaging B values booleans lent ≡ done tt → Passed
  unfolding imaging
  passed = go (fitting B values booleans) (eqb lent (N B)) refl refl
    where
      go : (p : Result (Unit {0})) (t : Bool) → fitting B values booleans ≡ p → eqb lent (N B) ≡ t
          → ((p >> need 11 (N B) t) >> solving B values booleans) ≡ done tt → Passed
      go (done x) true e f d = record { lists = e; model = eqb-true _ _ f; solution = d }
      go (done x) false e f d = never d
      go (refused n i) t e f d = never d

second : (p q r : Result (Unit {0})) → (p >> q >> r) ≡ done tt → q ≡ done tt
second (done x) (done y) r e = refl
second (done x) (refused n i) r e = never e
second (refused n i) q r e = never e

in_bounds_lem : (B : Board) (values : List ℤ) (booleans : List ℕ) → solving B values booleans ≡ done tt → each 14 0 (map (in_bounds B (assigned values [])) (variables B)) ≡ done tt
unfolding solving in_bounds assigned
in_bounds_lem B values booleans =
    let a = assigned values booleans in
    second (bits booleans) (each 14 0 (map (in_bounds B a) (variables B))) (each 13 0 (map (any (holds a)) B.clauses))

-- what `measure` and the checks have answered lets the model be written
pub writable : (s : List ℕ) (m : Measured) (opened : List ℕ) (values : List ℤ) (booleans model : List ℕ)
    → done m ≡ map_done measured_of (accepted s) → opened ≡ s → done tt ≡ imaging (board_of opened) values booleans (length model) → Writable opened values booleans model
writable s m opened values booleans model d o e =
    let h = measured s (sym d) in
    let p = passed (board_of opened) values booleans (length model) (sym e) in
    let l = long_enough opened values booleans (rw o h.opened.opens) p.lists in
    record { lists = l; near = near opened values booleans l (in_bounds_lem (board_of opened) values booleans p.solution); room = p.model }

-- ---- the outcome
module _ (s : List ℕ) (values : List ℤ) (booleans model : List ℕ) where
  pub image_not : (r : Refusal) → accepted s ≡ refusal r → Allowed s values booleans model (Err r) model
  unfolding image_outcome
  image_not r e = rw (not-judged s values booleans (λ B. long (N B) model) e) (refl, refl)

  -- once the checks have answered; they hand the board on
  abbrev image_of : Result Board → Outcome (Unit {0}) (List ℕ)
  image_of p = lending model (result.◌>>=◌ p (λ B. done (tt, plain_model B (assigned values booleans))))

  module _ (B : Board) (e : accepted s ≡ done B) where
    abbrev checks : Result (Unit {0})
    checks = imaging B values booleans (length model)

    image_is : image_outcome s values booleans model ≡ image_of (checks >> done B)
    unfolding image_outcome imaging
    image_is = rw (judged_is s values booleans (λ B. long (N B) model) B e)

    pub image_refused : (r : Refusal) → refusal r ≡ checks → Allowed s values booleans model (Err r) model
    image_refused r f = rw (image_is, ← f) (refl, refl)

    pub image_written : done tt ≡ checks → (left : List ℕ) → left ≡ plain_model B (assigned values booleans) → Allowed s values booleans model (Ok tt) left
    image_written f left g = rw (image_is, ← f) (refl, g)
