-- A loop over so many parts, where only the places count. Assumes nothing.
use mathlib.Core.Path.{◌≡◌, sym, ◌∙◌}
use mathlib.Core.List.{List, ◌∷◌}
use Prim.Native.Nat.{ℕ, zero, suc, ◌+◌, ◌-◌, ◌<◌}
use native.Mathlib.Numerals.{sub-one}
use native.Mathlib.Omega.{arith}
use Rattle.definitions.specs.Result.{Result, done, refused}
use Rattle.definitions.specs.Result as result
use Rattle.definitions.specs.Reading.{Reader, times}
use Rattle.reader.specs.Parts.{past}
use Rattle.reader.proofs.Steps.{past_both}

module _ {A : Type 0} (r : Reader A) (s : List ℕ) (place : ℕ) where
  times-past : (n : ℕ) → past (times (suc n) r s place) ≡ result.◌>>=◌ (past (r s place)) (λ p. past (times n r s p))
  times-past n = past_both ◌∷◌ (times n r s) (r s place)

  next_part : (left : ℕ) {p : ℕ} → 0 < left → past (r s place) ≡ done p → past (times left r s place) ≡ past (times (left - 1) r s p)
  next_part zero h e = absurd (omega arith)
  next_part (suc left) h e = times-past left ∙ rw (e, sub-one)

  -- one more, behind i of n
  pub one-more : (n i : ℕ) {p : ℕ} {all : Result ℕ} → i < n → past (r s place) ≡ done p → past (times (n - i) r s place) ≡ all → past (times (n - (i + 1)) r s p) ≡ all
  one-more n i h e o = let k : n - i - 1 ≡ n - (i + 1) = omega arith in rw (← k) (sym (next_part (n - i) (omega arith) e) ∙ o)
