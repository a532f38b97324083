-- Results one after another: what was read where the last of them is done. Assumes nothing.
use mathlib.Core.Path.{◌≡◌, refl, sym, ap, ◌∙◌}
use mathlib.Core.Bool.{Bool, true, false}
use Prim.Native.Nat.{ℕ}
use lib.Dec.{T}
use Rattle.std.specs.Prelude as code
use Rattle.std.specs.Prelude.{if◌then◌else◌}
use Rattle.std.specs.Result.{IsErrAnd}
use Rattle.std.proofs.lemmas.Result.{err_from_is_err_and}
use Rattle.definitions.specs.Result.{Result, done, refused}
use Rattle.definitions.specs.Result as result
use Rattle.definitions.specs.Reading.{Got}
use Rattle.laws.specs.Readings.{same, never}
use Rattle.definitions.specs.declared.Refusal.{Refusal}
use Rattle.definitions.specs.Answers.{said, answered}
use Rattle.reader.specs.declared.Fault.{Fault}
use Rattle.reader.specs.Said.{number, fault}
use Rattle.reader.specs.Parts.{past}

-- the first of two was done, and the second
pub record Passed {A B : Type 0} (m : Result A) (f : A → Result B) (b : B) : Type 0 where
  pub got : A
  pub read : m ≡ done got
  pub rest : f got ≡ done b

module _ {A B : Type 0} where
  pub passed : (m : Result A) (f : A → Result B) {b : B} → result.◌>>=◌ m f ≡ done b → Passed m f b
  passed (done a) f e = record { got = a; read = refl; rest = e }
  passed (refused n d) f e = never e

-- an error that `?` passes on
pub passed_on : {A E : Type 0} (r : code.Result A E) {f : E} → IsErrAnd r (λ e. e ≡ f) → r ≡ code.Err f
passed_on r h = let p = err_from_is_err_and r h in p.1 ∙ ap code.Err p.2

-- and a fault that becomes a refusal
pub turned : {A B : Type 0} (meaning : A → B) (r : code.Result A Refusal) (f : Fault) → IsErrAnd r (λ e. said e ≡ (number f.why, f.place)) → answered meaning r ≡ fault f
turned meaning r f h = let p = err_from_is_err_and r h in rw (p.1, p.2)

-- two results and then a third: as one part made of the two, and then the third
module _ {A B C D : Type 0} (r : A → Result B) (made : A → B → C) (k : C → Result D) where
  inner : (a : A) (m : Result B) → result.◌>>=◌ m (λ b. k (made a b)) ≡ result.◌>>=◌ (result.◌>>=◌ m λ b. done (made a b)) k
  inner a (done b) = refl
  inner a (refused n d) = refl

  pub bind_bind : (m : Result A) → result.◌>>=◌ m (λ a. result.◌>>=◌ (r a) (λ b. k (made a b))) ≡ result.◌>>=◌ (result.◌>>=◌ m λ a. result.◌>>=◌ (r a) λ b. done (made a b)) k
  bind_bind (done a) = inner a (r a)
  bind_bind (refused n d) = refl

module _ {A : Type 0} where
  -- a part that was passed was read
  pub past_done : (m : Result (Got A)) {p : ℕ} → past m ≡ done p → Passed m (λ g. done g.next) p
  past_done (done g) e = record { got = g; read = refl; rest = e }
  past_done (refused n d) e = never e

  pub past_refused : (m : Result (Got A)) {n d : ℕ} → past m ≡ refused n d → m ≡ refused n d
  past_refused (done g) e = never (sym e)
  past_refused (refused n d) e = cc

  module _ (why at : ℕ) (good : A → Bool) (m : Result (Got A)) {g : Got A} (e : result.◌>>=◌ m (λ g. if good g.value then done g else refused why at) ≡ done g) where
    tested : Passed m (λ g. if good g.value then done g else refused why at) g
    tested = passed m _ e

    -- a test that holds changes nothing
    pub asked_got : m ≡ done g
    asked_got = go (good tested.got.value) tested.rest
      where
        go : (t : Bool) → (if t then done tested.got else refused why at) ≡ done g → m ≡ done g
        go true d = tested.read ∙ d
        go false d = never d

    -- and what is read has passed it
    pub asked-good : T (good g.value)
    asked-good = go (good tested.got.value) refl tested.rest
      where
        go : (t : Bool) → good tested.got.value ≡ t → (if t then done tested.got else refused why at) ≡ done g → T (good g.value)
        go true h d = rw (← same d, h) tt
        go false h d = never d

-- ---- of what is read, only the place after it
-- what is made of a value does not matter
pub past_made : {A B : Type 0} (made : A → B) (m : Result (Got A)) → past {A = B} (result.◌>>=◌ m λ g. done (record { value = made g.value; next = g.next })) ≡ past m
past_made made (done g) = refl
past_made made (refused n d) = refl

-- nor a first value, where the second part does not look at it
pub past_both : {A B C : Type 0} (made : A → B → C) (r : ℕ → Result (Got B)) (m : Result (Got A))
    → past {A = C} (result.◌>>=◌ m λ g. result.◌>>=◌ (r g.next) λ h. done (record { value = made g.value h.value; next = h.next })) ≡ result.◌>>=◌ (past m) (λ p. past (r p))
past_both made r (done g) = past_made (made g.value) (r g.next)
past_both made r (refused n d) = refl
