-- Fields with a range: the definitions' fields in the code's parts, and what was read where one succeeds. Assumes nothing.
use mathlib.Core.Path.{◌≡◌, refl}
use mathlib.Core.Bool.{Bool, true, false, not, ◌&&◌}
use mathlib.Core.List.{List}
use Prim.Native.Nat.{ℕ, zero, suc, ◌+◌, ◌≤◌}
use lib.ListN.{length}
use lib.Dec.{leb, leb-suc-zero}
use lib.IntN.{ℤ, pos, negsuc}
use Rattle.std.specs.Prelude.{if◌then◌else◌}
use Rattle.definitions.specs.Tools.{neg, eq_z, within}
use Rattle.definitions.specs.Result.{Result, done, refused}
use Rattle.definitions.specs.Result as result
use Rattle.definitions.specs.Reading.{Got, big, unsigned, signed}
use Rattle.reader.specs.declared.Why.{Why}
use Rattle.fields.proofs.Laws.{unsigned_got}
use Rattle.reader.specs.Said.{number}
use Rattle.reader.specs.Parts.{number_from, whole_from, coefficient}
use Rattle.reader.proofs.Steps.{asked_got}

module _ {A : Type 0} where
  -- two tests at once are one after the other
  asked_and : (why at : ℕ) (p q : A → Bool) (m : Result (Got A)) → result.◌>>=◌ m (λ g. if p g.value && q g.value then done g else refused why at)
      ≡ result.◌>>=◌ (result.◌>>=◌ m λ g. if p g.value then done g else refused why at) (λ g. if q g.value then done g else refused why at)
  asked_and why at p q (refused n d) = refl
  asked_and why at p q (done g) = go (p g.value)
    where
      go : (t : Bool) → (if t && q g.value then done g else refused why at)
          ≡ result.◌>>=◌ (if t then done g else refused why at) (λ g. if q g.value then done g else refused why at)
      go true = refl
      go false = refl

-- ---- the definitions' fields
module _ (s : List ℕ) (at : ℕ) where
  pub coefficient_is : coefficient s at ≡ result.◌>>=◌ (whole_from Why.Coefficient (neg 64) (pos 64) 1 s at) (λ g. if not (eq_z g.value (pos 0)) then done g else refused 7 at)
  unfolding coefficient whole_from
  coefficient_is = asked_and 7 at (within (neg 64) (pos 64)) (λ a. not (eq_z a (pos 0))) (signed 1 s at)

-- ---- what was read where a field is in its range
pub number_got : (why : Why) (least most n : ℕ) (s : List ℕ) (at : ℕ) {g : Got ℕ} → number_from why least most n s at ≡ done g
    → (g ≡ record { value = big s at n; next = at + n }) × (at + n ≤ length s)
unfolding number_from
number_got why least most n s at e = unsigned_got n s at (asked_got (number why) at (λ v. leb least v && leb v most) (unsigned n s at) e)

pub not_zero : (z : ℤ) → (z ≡ pos 0 → ⊥) → eq_z z (pos 0) ≡ false
not_zero (pos zero) h = absurd (h refl)
not_zero (pos (suc n)) h = rw leb-suc-zero
not_zero (negsuc n) h = refl
